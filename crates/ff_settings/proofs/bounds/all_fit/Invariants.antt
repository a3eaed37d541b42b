use Rattle.std.proofs.Common.{◌≡◌, drop}
use Rattle.std.specs.List.{list_all}
use Rattle.ff_settings.specs.Bounds.{fits_in_cut}
use Rattle.ff_settings.specs.Given.{as_cuts}
use Rattle.ff_settings.proofs.bounds.all_fit.Given as goal

abbrev pub invariant-loop-cut : goal.invariant-loop-cut
invariant-loop-cut l = list_all fits_in_cut (as_cuts (drop l.cut-index l.cuts)) ≡ list_all fits_in_cut (as_cuts l.cuts)
