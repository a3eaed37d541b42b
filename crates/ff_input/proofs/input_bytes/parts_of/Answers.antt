use Rattle.std.proofs.Common.{◌≡◌, ◌∙◌, ap, sym}
use Rattle.std.specs.Prelude.{None}
use Rattle.std.specs.Option.{option_copied}
use Rattle.ff_input.specs.Input.{behind_separator}
use borrow.Author.Count.{below_more}
use Rattle.ff_input.proofs.input_bytes.parts_of.Goals as goal

pub loop-at-preserved : goal.loop-at-preserved
loop-at-preserved c =
    let here : behind_separator c.args.input.now c.loop-at.at ≡ None =
    sym c.behind_separator.ensures ∙ ap option_copied c.in_default.is in
    below_more (λ before. behind_separator c.args.input.now before ≡ None) _ c.loop-at.invariant here
