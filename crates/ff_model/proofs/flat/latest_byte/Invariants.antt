use Rattle.std.proofs.Common.{◌≡◌, take}
use Rattle.ff_model.specs.Flat.{latest, stored_byte}
use Rattle.ff_model.proofs.flat.latest_byte.Given as goal

abbrev pub invariant-loop-entry : goal.invariant-loop-entry
invariant-loop-entry l = l.found ≡ latest (stored_byte l.address) (take l.entry-index l.entries)
