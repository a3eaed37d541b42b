use Rattle.std.proofs.Common.{ap, map, ◌∙◌}
use Rattle.std.proofs.lemmas.List.{map-append, take_all}
use Rattle.toml.specs.View.{view}
use Rattle.ff_settings.specs.Document.{cut_of}
use Rattle.ff_settings.specs.Given.{as_cut, as_cuts}
use Rattle.ff_settings.proofs.Lists.{map-grows}
use Rattle.ff_settings.proofs.cuts.cuts_of.Goals as goal

pub loop-value-init : goal.loop-value-init
loop-value-init c = ap as_cuts c.in_ok-cuts.ensures.items

pub loop-value-preserved : goal.loop-value-preserved
loop-value-preserved c =
    map-grows (λ value. cut_of (view value)) c.args.values.now c.loop-value.value-index c.value-item.result _ _ _
    c.loop-value.invariant
    (ap as_cuts c.in_ok-push.ensures.items ∙ map-append as_cut c.loop-value.cuts.items _)
    c.value-item.is c.cut_of.ensures c.loop-value-test.true

pub returns : goal.returns
returns c =
    c.loop-value.invariant ∙ ap (map (λ value. cut_of (view value))) (take_all _ c.args.values.now c.loop-value-test.false)
