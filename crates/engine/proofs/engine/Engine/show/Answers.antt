use Rattle.std.proofs.Common.{◌≡◌, ℕ, ◌-◌, ◌≤◌, List, ◌++◌, length, drop, replicate, Ok, Option, sym, refl, ap, ◌∙◌, subst, arith}
use Rattle.config.specs.Configs.{used}
use Rattle.config.specs.Images.{image, Encoded}
use Rattle.config.specs.declared.config.Config.{Config}
use Rattle.config.specs.declared.entry.Entry.{Entry}
use Rattle.config.proofs.Images.{length_image}
use Rattle.config.proofs.Places.{used_few}
use Rattle.journal.proofs.Steps.{drop_zeros}
use Rattle.calls.specs.declared.call.Answer.TheVariants.{Shown}
use Rattle.calls.specs.declared.call.Image.{Image}
use Rattle.calls.specs.declared.faults.EngineFault.{EngineFault}
use Rattle.model.specs.Model.{contents}
use Rattle.model.specs.Steps.{GetsUnless, Shows}
use Rattle.engine.specs.Seen.{seen}
use Rattle.calls.specs.declared.faults.Refusal.{Refusal}
use Rattle.engine.proofs.Refusing.{kept_ok}
use Rattle.engine.proofs.engine.Engine.show.Goals as goal

shows : (c : Config) (es : List Entry) (out : List ℕ) (n : ℕ) (i : Image) → used c ≡ es → n ≡ length (image (used c)) → out ≡ image (used c) ++ drop n (replicate 769 0) → i.bytes ≡ out → i.length ≡ n → Shows es i
shows c es out n i is size_is out_is b l =
    let size : n ≡ length (image es) = size_is ∙ ap (λ (x : List Entry). length (image x)) is in
    let room : n ≤ 769 = omega (arith, used_few c, length_image (used c), size_is) in
    record {
      length_is = l ∙ size;
      bytes_are = b ∙ out_is ∙ ap (λ (x : List Entry). image x ++ drop n (replicate 769 0)) is ∙ ap (λ (z : List ℕ). image es ++ z) (drop_zeros n 769 room ∙ ap (λ (k : ℕ). replicate (769 - k) 0) size);
    }

pub returns : goal.returns
returns g c =
    let m = seen g.D.Device.powered c.args.self.now in
    let ok = c.in_ok-of.ensures in
    let n = c.in_ok-length.length in
    let i : Image = record { bytes = c.encode.new.out; length = n } in
    let es : used c.contents.result ≡ contents m c.args.datastore = c.contents.ensures ∙ ap (contents m) ok.1 in
    let kept : c.encode.result ≡ Ok n = kept_ok Refusal c.encode.result _ n c.in_ok-length.ensures.variant c.in_ok-length.ensures.cases in
    let put = subst (Encoded (used c.contents.result) (replicate 769 0) c.encode.new.out) kept c.encode.ensures in
    subst (λ (x : Option EngineFault). GetsUnless x m c.args.datastore (Shown i) m) (sym ok.0)
    (shows c.contents.result (contents m c.args.datastore) c.encode.new.out n i es put.1 put.2 refl refl, refl)
