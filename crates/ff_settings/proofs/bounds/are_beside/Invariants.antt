use Rattle.std.proofs.Common.{◌≡◌, drop}
use Rattle.std.specs.Prelude.{not}
use Rattle.std.specs.List.{list_all}
use Rattle.ff_flash.specs.Plans.{is_listed}
use Rattle.ff_settings.specs.Given.{as_cuts}
use Rattle.ff_settings.proofs.bounds.are_beside.Given as goal

abbrev pub invariant-loop-cut : goal.invariant-loop-cut
invariant-loop-cut l = list_all (λ cut. not (is_listed cut.at l.fail)) (as_cuts (drop l.cut-index l.cuts)) ≡ list_all (λ cut. not (is_listed cut.at l.fail)) (as_cuts l.cuts)
