use Rattle.ff_trace.proofs.HexPairs.{HasDecoded}
use Rattle.ff_trace.proofs.hex_pairs.decode.Given as goal

abbrev pub invariant-loop-i : goal.invariant-loop-i
invariant-loop-i l = HasDecoded l.digits l.bytes l.i l.greatest
