-- Entries whose paths rise, by neighbours and by any two places.
use Rattle.std.proofs.Common.{◌≡◌, ℕ, true, List, [], ◌∷◌, refl, not-suc-le-zero, arith}
use Rattle.std.proofs.lemmas.Bool.{and_parts, and_from}
use Rattle.table.specs.Table.{Rising}
use Rattle.table.proofs.Order.{Total}
use Rattle.table.proofs.Rows.{rising_cons, rising_head, rising_tail, greater_cons, greater_far}
use Rattle.table.specs.Sooner.{sooner_irreflexive, sooner_transitive, sooner_connected}
use Rattle.schema.specs.declared.path.Path.{Path}
use Rattle.config.specs.declared.entry.Entry.{Entry}
use Rattle.config.specs.Order.{numbers, path_sooner, rising}
use Rattle.config.specs.Configs.{path_of}

path_from : ℕ → ℕ → ℕ → Path
path_from n a b = record { node = n; k1 = a; k2 = b }

pub same_path : (p q : Path) → p.node ≡ q.node → p.k1 ≡ q.k1 → p.k2 ≡ q.k2 → p ≡ q
unfolding path_from
same_path p q n a b = let same : path_from p.node p.k1 p.k2 ≡ path_from q.node q.k1 q.k2 = cc in same

pub total : Total path_sooner
total =
    record {
      irreflexive = λ k. sooner_irreflexive (numbers k);
      transitive = λ a b c h k. sooner_transitive (numbers a) (numbers b) (numbers c) h k;
      connected = λ a b h k. let e = sooner_connected (numbers a) (numbers b) h k in same_path a b (cc) (cc) (cc);
    }

pub rises : (es : List Entry) → rising es ≡ true → Rising path_of path_sooner es
rises [] h = record { climbs = λ i j d lt l. absurd (not-suc-le-zero l) }
rises (e ∷ []) h = record { climbs = λ i j d lt l. let no_room : ⊥ = omega arith in absurd no_room }
rises (e ∷ (f ∷ rest)) h =
    let parts = and_parts (path_sooner e.path f.path) (rising (f ∷ rest)) h in
    let up = rises (f ∷ rest) parts.1 in
    rising_cons path_of path_sooner total e (f ∷ rest)
    (greater_cons path_of path_sooner total e.path f rest parts.0 (greater_far path_of path_sooner total e.path f.path rest parts.0 (rising_head path_of path_sooner total f rest up)))
    up

pub rising_from : (es : List Entry) → Rising path_of path_sooner es → rising es ≡ true
rising_from [] up = refl
rising_from (e ∷ []) up = refl
rising_from (e ∷ (f ∷ rest)) up =
    and_from (path_sooner e.path f.path) (rising (f ∷ rest)) (up.climbs 0 1 e (omega arith) (omega arith)) (rising_from (f ∷ rest) (rising_tail path_of path_sooner total e (f ∷ rest) up))
