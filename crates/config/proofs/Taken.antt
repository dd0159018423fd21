-- A configuration after an entry was put in or taken out, from what its table answered.
use Rattle.std.proofs.Common.{◌≡◌, true, Ok, Err, Option, Result, sym, ap, ◌∙◌, subst}
use Rattle.std.proofs.Math.Bool.{Bool-set}
use Rattle.table.specs.declared.slots.Slots.{Slots}
use Rattle.table.specs.Slots.{items, PutAnswer as TablePut, TakeAnswer as TableTake}
use Rattle.schema.specs.declared.path.Path.{Path}
use Rattle.config.specs.declared.entry.Entry.{Entry}
use Rattle.config.specs.declared.config.Config.{Config}
use Rattle.config.specs.Order.{path_sooner, rising}
use Rattle.config.specs.Configs.{path_of, used, PutAnswer, TakeAnswer}
use Rattle.config.proofs.Order.{rises, rising_from}

config_of : (t : Slots Entry 48) → rising (items t) ≡ true → Config
config_of t r = record { table = t; rises = r }

-- the table of a configuration says which one it is
pub same_table : (c d : Config) → d.table ≡ c.table → d ≡ c
unfolding config_of
same_table c d e =
    subst (λ (t : Slots Entry 48). (r : rising (items t) ≡ true) → config_of t r ≡ c) (sym e) (λ r. ap (config_of c.table) (Bool-set _ _ r c.rises)) d.rises

pub put_rises : {E : Type 0} (c : Config) (e : Entry) (t : Slots Entry 48) (r : Result Unit E) → TablePut path_of path_sooner c.table e t r → rising (items t) ≡ true
put_rises c e t (Ok done) h = rising_from (items t) (h (rises (used c) c.rises)).rising
put_rises c e t (Err full) h = ap (λ s. rising (items s)) h.0 ∙ c.rises

pub put_answer : {E : Type 0} (c : Config) (e : Entry) (d : Config) (r : Result Unit E) → TablePut path_of path_sooner c.table e d.table r → PutAnswer c e d r
put_answer c e d (Ok done) h = let p = h (rises (used c) c.rises) in record { entries_are = p.rows_are; lookups = p.lookup_put }
put_answer c e d (Err full) h = (h.1 (rises (used c) c.rises), same_table c d h.0)

pub take_rises : (c : Config) (p : Path) (t : Slots Entry 48) (r : Option Entry) → TableTake path_of path_sooner c.table p t r → rising (items t) ≡ true
take_rises c p t r h = rising_from (items t) (h.taken (rises (used c) c.rises)).rising

pub take_answer : (c : Config) (p : Path) (d : Config) (r : Option Entry) → TableTake path_of path_sooner c.table p d.table r → TakeAnswer c p d r
take_answer c p d r h =
    let t = h.taken (rises (used c) c.rises) in
    record {
      taken = h.was (rises (used c) c.rises);
      rest = record { entries_are = t.rows_are; lookups = t.lookup_take };
      absent = λ none. same_table c d (h.absent none);
    }
