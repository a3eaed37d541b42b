-- Counted turns: no count is more than how many turns were seen.
use Rattle.std.proofs.Common.{◌≡◌, ◌≤◌, ◌<◌, ◌+◌, ◌^◌, ℕ, Bool, true, false, List, length, get_or, take, sym, arith}
use Rattle.std.proofs.lemmas.List.Sums.{fold_more}
use Rattle.ff_model.specs.Counts.{HasCountsLeft, turned, turns_of, with_turn}
use Rattle.ff_model.specs.declared.counts.Kind.{Kind}
use Rattle.ff_model.specs.declared.counts.Kind.TheVariants.{Promote, Evict, Collect, Drain}
use Rattle.ff_model.specs.declared.counts.KindTurns.{KindTurns}
use Rattle.ff_model.specs.declared.counts.TurnCounts.{TurnCounts}
use Rattle.ff_core.specs.Log.{is_did, no_turns, turn_counts}
use Rattle.ff_core.specs.declared.log.Turned.{Turned}

record IsFew (turns : KindTurns) (seen : ℕ) : Type 0 where
  made : turns.made ≤ seen
  did : turns.did ≤ seen

-- so many turns were seen
pub record AreFew (counts : TurnCounts) (seen : ℕ) : Type 0 where
  promote : IsFew counts.promote seen
  evict : IsFew counts.evict seen
  collect : IsFew counts.collect seen
  drain : IsFew counts.drain seen

few_same : (turns : KindTurns) (seen : ℕ) → IsFew turns seen → IsFew turns (seen + 1)
few_same turns seen few = record { made = omega arith; did = omega arith }

few_counted : (did : Bool) (turns : KindTurns) (seen : ℕ) → IsFew turns seen → IsFew (with_turn turns did) (seen + 1)
few_counted true turns seen few = record { made = omega arith; did = omega arith }
few_counted false turns seen few = record { made = omega arith; did = omega arith }

-- one more turn was seen
pub few_turned : (kind : Kind) (did : Bool) (counts : TurnCounts) (seen : ℕ) → AreFew counts seen
    → AreFew (turned counts kind did) (seen + 1)
few_turned Promote did counts seen few = record {
  promote = few_counted did counts.promote seen few.promote;
  evict = few_same counts.evict seen few.evict;
  collect = few_same counts.collect seen few.collect;
  drain = few_same counts.drain seen few.drain;
}
few_turned Evict did counts seen few = record {
  promote = few_same counts.promote seen few.promote;
  evict = few_counted did counts.evict seen few.evict;
  collect = few_same counts.collect seen few.collect;
  drain = few_same counts.drain seen few.drain;
}
few_turned Collect did counts seen few = record {
  promote = few_same counts.promote seen few.promote;
  evict = few_same counts.evict seen few.evict;
  collect = few_counted did counts.collect seen few.collect;
  drain = few_same counts.drain seen few.drain;
}
few_turned Drain did counts seen few = record {
  promote = few_same counts.promote seen few.promote;
  evict = few_same counts.evict seen few.evict;
  collect = few_same counts.collect seen few.collect;
  drain = few_counted did counts.drain seen few.drain;
}

few_left : (turns : KindTurns) (seen : ℕ) → seen + 1 < 2 ^ 32 → IsFew turns seen → HasCountsLeft turns
few_left turns seen low few = record { made = omega arith; did = omega arith }

-- each count can rise
pub counts_left : (kind : Kind) (counts : TurnCounts) (seen : ℕ) → seen + 1 < 2 ^ 32 → AreFew counts seen
    → HasCountsLeft (turns_of counts kind)
counts_left Promote counts seen low few = few_left counts.promote seen low few.promote
counts_left Evict counts seen low few = few_left counts.evict seen low few.evict
counts_left Collect counts seen low few = few_left counts.collect seen low few.collect
counts_left Drain counts seen low few = few_left counts.drain seen low few.drain

pub counts_none : AreFew no_turns 0
counts_none = record {
  promote = record { made = omega arith; did = omega arith };
  evict = record { made = omega arith; did = omega arith };
  collect = record { made = omega arith; did = omega arith };
  drain = record { made = omega arith; did = omega arith };
}

-- one more turn is counted
pub counts_next : (turns items : List Turned) (seen : ℕ) (turn : Turned) (counts next : TurnCounts) (did : Bool) → items ≡ turns
    → seen < length items → counts ≡ turn_counts (take seen turns) → did ≡ is_did (get_or items seen turn).answer
    → next ≡ turned counts (get_or items seen turn).kind did → next ≡ turn_counts (take (seen + 1) turns)
counts_next turns items seen turn counts next did same low before is after =
    let within : seen < length turns = rw same at low in
    let more = fold_more (λ (so_far : TurnCounts) (one : Turned). turned so_far one.kind (is_did one.answer)) no_turns turns seen turn
    within in
    rw (after, is, before, same) (sym more)
