use Rattle.std.proofs.Common.{◌+◌, ◌-◌, ℕ, arith, subst}
use Rattle.std.specs.Prelude.{replicate}
use Rattle.ff_sessions.specs.Items.{turn}
use Rattle.ff_sessions.specs.Making.{HasDone}
use Rattle.ff_sessions.proofs.Making.{spare_turn}
use Rattle.ff_sessions.proofs.Turned.{cut_turns, not_off, turns_none, went_turns}
use Rattle.ff_sessions.proofs.rows.make_turns.Goals as goal

pub back-requires : goal.back-requires
back-requires g c =
    spare_turn c.args.core.now c.loop-turn.core c.args.numbers.now c.args.kind (c.loop-turn.turn - c.args.made)
    (c.args.count - c.args.made) (let more = c.loop-turn-test.true in let from = c.loop-turn.auto.turn in omega arith)
    c.requires.room c.loop-turn.invariant.done

pub returns-in-Off : goal.returns-in-Off
returns-in-Off g c =
    cut_turns c.args.core.now c.loop-turn.core c.back.new.core c.args.numbers.now c.args.kind c.args.count c.args.made c.loop-turn.turn
    c.loop-turn.auto.turn c.loop-turn-test.true c.loop-turn.invariant.done c.in-Off.ensures.event c.in-Off.ensures.power

pub loop-turn-init : goal.loop-turn-init
loop-turn-init g c = record {
  done = turns_none c.args.core.now c.args.numbers.now c.args.kind c.args.made c.requires.opened;
  within = omega arith;
}

pub loop-turn-preserved : goal.loop-turn-preserved
loop-turn-preserved g c =
    let more = c.loop-turn-test.true in
    let from = c.loop-turn.auto.turn in
    record {
      done = went_turns c.args.core.now c.loop-turn.core c.back.new.core c.args.numbers.now c.args.kind c.back.result
          (c.loop-turn.turn - c.args.made) (c.loop-turn.turn + 1 - c.args.made) (omega arith) (not_off c.back.result c.in-Did.is)
          c.loop-turn.invariant.done
          (spare_turn c.args.core.now c.loop-turn.core c.args.numbers.now c.args.kind (c.loop-turn.turn - c.args.made)
          (c.args.count - c.args.made) (omega arith) c.requires.room c.loop-turn.invariant.done)
          c.back.ensures.event;
      within = omega arith;
    }

pub returns : goal.returns
returns g c =
    let past = c.loop-turn-test.false in
    let within = c.loop-turn.invariant.within in
    subst (λ (n : ℕ). HasDone c.args.core.now c.loop-turn.core c.args.numbers.now (replicate n (turn c.args.kind)))
    (omega arith) c.loop-turn.invariant.done
