use Rattle.std.proofs.Common.{◌≡◌, map, take}
use Rattle.std.specs.Prelude.{Some}
use Rattle.toml.specs.View.{view}
use Rattle.ff_settings.specs.Values.{number_or}
use Rattle.ff_settings.proofs.values.numbers_of.Given as goal

abbrev pub invariant-loop-value : goal.invariant-loop-value
invariant-loop-value l = l.numbers.items ≡ map (λ value. number_or 0 (Some (view value))) (take l.value-index l.values)
