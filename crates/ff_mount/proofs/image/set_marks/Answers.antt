use Rattle.std.proofs.Common.{◌≡◌, ℕ, List, Option, ap₂, arith}
use Rattle.std.proofs.lemmas.Grind.{same_number_lists}
use Rattle.ff_model.specs.Image.{Content}
use Rattle.ff_mount.proofs.image.set_marks.Goals as goal

pub returns : goal.returns
returns c =
    let marks : c.loop-page.image.marks ≡ c.args.marks.now =
    same_number_lists _ _ c.loop-page.invariant.size (λ k below. c.loop-page.invariant.done k (omega arith)) in
    let made : List (Option (List ℕ)) → List ℕ → Content = λ p m. record { pages = p; marks = m } in
    ap₂ made c.loop-page.invariant.pages marks
