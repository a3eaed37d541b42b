use Rattle.std.proofs.Common.{◌≡◌, drop}
use Rattle.ff_kept.specs.Waiting.{kept_length}
use Rattle.ff_kept.proofs.kept.before_first.Given as goal

abbrev pub invariant-loop-post : goal.invariant-loop-post
invariant-loop-post l = kept_length (drop l.post-index l.lost) l.entries ≡ kept_length l.lost l.entries
