use Rattle.std.proofs.Common.{◌≡◌, ℕ, ◌+◌, Bool, true, cond, List, [], ◌∷◌, Ok, Err, refl, sym, ap, ◌∙◌, subst, rules}
use Rattle.std.specs.Str.{bytes_eq}
use Rattle.std.proofs.lemmas.Slice.Eq.{slice_eq-Decides, bytes_eq-Decides}
use Rattle.device.specs.Accesses.{all}
use Rattle.config.specs.Configs.{used}
use Rattle.config.specs.declared.entry.Entry.{Entry}
use Rattle.journal.specs.Layout.{Pages, home_pages}
use Rattle.journal.specs.Plans.{Write, changes, changed}
use Rattle.store.specs.Targets.{written}
use Rattle.store.specs.declared.faults.StoreFault.TheVariants.{Device}
use Rattle.store.proofs.Recovery.{large}
use Rattle.store.proofs.calls.replace.Goals as goal

-- what was changed between the home blocks
changes_are : (old new : List Entry) {po pn : Pages} {ws : List Write} → po ≡ home_pages old → pn ≡ home_pages new → ws ≡ changes 26 po pn → ws ≡ changed old new
changes_are old new {pn = pn} eo en e = e ∙ ap (λ (l : Pages). changes 26 l pn) eo ∙ ap (changes 26 (home_pages old)) en

-- equal home blocks are not changed
unchanged : (n : ℕ) (ps : Pages) → changes n ps ps ≡ []
unchanged n [] = refl
unchanged n (p ∷ ps) =
    let same : bytes_eq p p ≡ true = (bytes_eq-Decides p p).1 refl in
    ap (λ (b : Bool). cond b (changes (n + 1) ps ps) ((n, p) ∷ changes (n + 1) ps ps)) same ∙ unchanged (n + 1) ps

pub returns-then-eq : goal.returns-then-eq
returns-then-eq g c =
    let same : c.pages-before.result ≡ c.pages-after.result = (slice_eq-Decides bytes_eq-Decides _ _ _ c.eq.ensures).0 c.if-eq.true in
    let none : changes 26 c.pages-before.result c.pages-after.result ≡ [] = subst (λ (l : Pages). changes 26 c.pages-before.result l ≡ []) same (unchanged 26 c.pages-before.result) in
    let is : [] ≡ changed (used c.args.old.now) (used c.args.new.now) = sym none ∙ changes_are _ _ c.pages-before.ensures c.pages-after.ensures refl in
    large _ _ _ _ _ c.in_ok-has_room.ensures (record { ended = Ok tt; carried = rw (sym is) all; answer = refl })

pub returns-in_err-commit : goal.returns-in_err-commit
returns-in_err-commit g c =
    let lost : c.from_residual-in_err-commit.result ≡ Err (Device c.in_err-commit.field-0.0) = search rules in
    let is : written c.changed.result ≡ changed (used c.args.old.now) (used c.args.new.now) = changes_are _ _ c.pages-before.ensures c.pages-after.ensures c.changed.ensures in
    large _ _ _ _ _ c.in_ok-has_room.ensures (record { ended = Err c.in_err-commit.field-0.0; carried = rw is at c.in_err-commit.ensures; answer = lost })

pub returns : goal.returns
returns g c =
    let is : written c.changed.result ≡ changed (used c.args.old.now) (used c.args.new.now) = changes_are _ _ c.pages-before.ensures c.pages-after.ensures c.changed.ensures in
    large _ _ _ _ _ c.in_ok-has_room.ensures (record { ended = Ok tt; carried = rw is at c.in_ok-commit.ensures; answer = refl })
