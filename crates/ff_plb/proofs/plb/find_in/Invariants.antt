use Rattle.std.proofs.Common.{◌≡◌, ◌<◌, ℕ, get_or, None}
use Rattle.ff_plb.specs.Plb.{entry_if}
use Rattle.ff_plb.proofs.plb.find_in.Given as goal

abbrev pub invariant-loop-at : goal.invariant-loop-at
invariant-loop-at l = (k : ℕ) → k < l.at → entry_if (get_or l.slots k None) l.page.0 ≡ None
