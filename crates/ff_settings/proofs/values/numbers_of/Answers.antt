use Rattle.std.proofs.Common.{ap, map, ◌∙◌}
use Rattle.std.specs.Prelude.{Some}
use Rattle.std.proofs.lemmas.List.{take_all}
use Rattle.toml.specs.View.{view}
use Rattle.ff_settings.specs.Values.{number_or}
use Rattle.ff_settings.proofs.Lists.{map-grows}
use Rattle.ff_settings.proofs.values.numbers_of.Goals as goal

pub loop-value-init : goal.loop-value-init
loop-value-init c = c.in_ok-numbers.ensures.items

pub loop-value-preserved : goal.loop-value-preserved
loop-value-preserved c =
    map-grows (λ value. number_or 0 (Some (view value))) c.args.values.now c.loop-value.value-index c.value-item.result _ _ _
    c.loop-value.invariant c.in_ok-push.ensures.items c.value-item.is c.number_or.ensures c.loop-value-test.true

pub returns : goal.returns
returns c =
    c.loop-value.invariant
    ∙ ap (map (λ value. number_or 0 (Some (view value)))) (take_all _ c.args.values.now c.loop-value-test.false)
