use Rattle.std.proofs.Common.{◌≡◌, map, take}
use Rattle.toml.specs.View.{view}
use Rattle.ff_settings.specs.Given.{as_cuts}
use Rattle.ff_settings.specs.Document.{cut_of}
use Rattle.ff_settings.proofs.cuts.cuts_of.Given as goal

abbrev pub invariant-loop-value : goal.invariant-loop-value
invariant-loop-value l = as_cuts l.cuts.items ≡ map (λ value. cut_of (view value)) (take l.value-index l.values)
