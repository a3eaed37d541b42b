use Rattle.std.proofs.lemmas.Result.{on_ok_weaker}
use Rattle.ff_gen.proofs.Rows.{call-and-turns}
use Rattle.ff_gen.proofs.generated.push_rows.Goals as goal

pub returns-clause-rows : goal.returns-clause-rows
returns-clause-rows c =
    on_ok_weaker c.push_turns_behind.result
    (call-and-turns c.args.rows.now.items c.push_row.new.rows.items _ _ c.args.number _ c.in_ok-push_row.ensures c.call_row-row.ensures.row)
    c.push_turns_behind.ensures

pub returns-clause-state : goal.returns-clause-state
returns-clause-state c =
    on_ok_weaker c.push_turns_behind.result (λ pushed. c.call_row-row.ensures.state) c.push_turns_behind.ensures
