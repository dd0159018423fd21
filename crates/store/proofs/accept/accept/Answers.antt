use Rattle.std.proofs.Common.{◌≡◌, ℕ, ◌+◌, ◌-◌, ◌*◌, ◌≤◌, Bool, true, false, List, [], length, get_or, take, Some, None, Ok, Err, Result, sym, refl, ap, ◌∙◌, arith}
use Rattle.std.specs.Bool.{then_some, Decides}
use Rattle.std.specs.Result.{result_ok}
use Rattle.std.proofs.lemmas.Slice.Eq.{slice_eq-Decides, bytes_eq-Decides}
use Rattle.schema.specs.declared.nodes.Node.{Node}
use Rattle.config.specs.Configs.{used}
use Rattle.config.specs.Images.{image, Read}
use Rattle.config.specs.Lawful.{Lawful}
use Rattle.config.specs.declared.config.Config.{Config}
use Rattle.config.specs.declared.entry.Entry.{Entry}
use Rattle.config.proofs.Images.{image_same}
use Rattle.journal.specs.Layout.{Pages, home_pages}
use Rattle.journal.proofs.Pages.{homes_image, homes_count}
use Rattle.store.specs.Accepting.{Accepts, image_bytes}
use Rattle.store.proofs.accept.accept.Goals as goal

-- the image of lawful entries, out of their home blocks
count_in : (ps : Pages) (es : List Entry) → ps ≡ home_pages es → get_or (image_bytes ps) 0 0 ≡ length es
count_in ps es e = ap (λ (l : Pages). get_or (get_or l 0 []) 1 0) e ∙ homes_count es

image_of : (ps : Pages) (es : List Entry) (n : ℕ) → length es ≤ 48 → ps ≡ home_pages es → n ≡ get_or (image_bytes ps) 0 0 → take (1 + 16 * n - 0) (image_bytes ps) ≡ image es
image_of ps es n few e is =
    let all : 1 + 16 * n - 0 ≡ 1 + 16 * length es = omega (arith, count_in ps es e) in
    ap (λ (k : ℕ). take k (image_bytes ps)) all ∙ ap (λ (l : Pages). take (1 + 16 * length es) (image_bytes l)) e ∙ homes_image es few

-- what was read, and what was not
was_read : {F : Type 0} (ns : List Node) (bytes : List ℕ) (r : Result Config F) (cf : Config) → Some cf ≡ result_ok r → Read ns bytes r → Lawful ns (used cf) × (bytes ≡ image (used cf))
was_read ns bytes (Ok c) cf e read = let same : c ≡ cf = cc in rw same at read
was_read ns bytes (Err f) cf e read = absurd (let z : ◌≡◌ {A = ℕ} 0 1 = cc in omega arith)

not_read : {F : Type 0} (ns : List Node) (bytes : List ℕ) (r : Result Config F) → None ≡ result_ok r → Read ns bytes r → (es : List Entry) → Lawful ns es → bytes ≡ image es → ⊥
not_read ns bytes (Ok c) e read = absurd (let z : ◌≡◌ {A = ℕ} 0 1 = cc in omega arith)
not_read ns bytes (Err f) e read = read

-- a configuration that was read, by the test of its home blocks
by_test : (ns : List Node) (hs ps : Pages) (cf : Config) (b : Bool) → Lawful ns (used cf) → ps ≡ home_pages (used cf) → ((es : List Entry) → Lawful ns es → hs ≡ home_pages es → ps ≡ hs) → Decides b (ps ≡ hs) → Accepts ns hs (then_some b cf)
by_test ns hs ps cf true lawful pages only d = (lawful, sym (d.0 refl) ∙ pages)
by_test ns hs ps cf false lawful pages only d = (refl, λ es l is. let h = d.1 (only es l is) in let z : ◌≡◌ {A = ℕ} 0 1 = cc in omega arith)

pub returns-in_err-entries : goal.returns-in_err-entries
returns-in_err-entries c =
    let hs = c.args.homes.now in
    rw c.from_residual.ensures
    (refl, λ es lawful is. let n : c.from.result ≡ length es = c.from.ensures ∙ ap (λ (l : List ℕ). get_or l 0 0) c.image_in-image.ensures ∙ count_in hs es is in let h = c.in_err-entries.ensures.lookup.1 (omega arith, omega (arith, lawful.few)) in let z : ◌≡◌ {A = ℕ} 0 1 = cc in omega arith)

pub returns-in_err-config : goal.returns-in_err-config
returns-in_err-config c =
    let img = c.image_in-image.ensures in
    let hs = c.args.homes.now in
    let n = c.from.result in
    let part = c.in_ok-entries.ensures.lookup.0.2 in
    rw c.from_residual-in_err-config.ensures
    (refl, λ es lawful is. not_read _ _ c.read.result c.in_err-config.ensures.value c.read.ensures es lawful (part ∙ ap (take (1 + 16 * n - 0)) img ∙ image_of hs es n lawful.few is (c.from.ensures ∙ ap (λ (l : List ℕ). get_or l 0 0) img)))

pub returns : goal.returns
returns c =
    let img = c.image_in-image.ensures in
    let hs = c.args.homes.now in
    let n = c.from.result in
    let part = c.in_ok-entries.ensures.lookup.0.2 in
    let cf = c.in_ok-config.config in
    let read = was_read _ _ c.read.result cf c.in_ok-config.ensures.value c.read.ensures in
    rw c.then_some.ensures
    (by_test _ hs c.pages.result cf c.eq.result read.0 c.pages.ensures
    (λ es lawful is.
    let count : n ≡ get_or (image_bytes hs) 0 0 = c.from.ensures ∙ ap (λ (l : List ℕ). get_or l 0 0) img in
    let same : used cf ≡ es = image_same (used cf) es (sym read.1 ∙ part ∙ ap (take (1 + 16 * n - 0)) img ∙ image_of hs es n lawful.few is count) in
    c.pages.ensures ∙ ap home_pages same ∙ sym is)
    (slice_eq-Decides bytes_eq-Decides _ _ _ c.eq.ensures))
