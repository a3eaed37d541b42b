use Rattle.ff_gen.proofs.Rows.{rows-end, rows-more, rows-start}
use Rattle.ff_gen.proofs.generated.generate.Goals as goal

pub loop-at-init : goal.loop-at-init
loop-at-init c =
    rw c.from.ensures (rows-start c.args.number c.push_marks.new.rows.items (rw c.in_ok-rows.ensures.items at c.in_ok-push_marks.ensures))

pub loop-at-preserved : goal.loop-at-preserved
loop-at-preserved c =
    rows-more _ _ _ _ _ _ c.loop-at.invariant c.loop-at-test.true c.in_ok-push_rows.ensures.rows c.in_ok-push_rows.ensures.state

pub returns : goal.returns
returns c = rows-end _ _ _ _ c.loop-at.invariant c.loop-at-test.false
