use Rattle.std.proofs.Common.{◌+◌, ap, ◌∙◌, arith}
use Rattle.ff_flash.proofs.SimCells.{erases_more, state_is}
use Rattle.ff_flash.specs.Cells.{cell_after, erase}
use Rattle.ff_flash.specs.PageState.{cell_of}
use Rattle.ff_flash.proofs.page_states.erase_at.Goals as goal

pub loop-i-preserved : goal.loop-i-preserved
loop-i-preserved c =
    let len = c.loop-i.states.ok.0 in
    let old_len = c.args.states.now.ok.0 in
    let size = c.loop-i.invariant.0 in
    let state = state_is c.loop-i.states.items (c.args.first + c.loop-i.i) _ (omega arith) c.index.ensures in (
      size,
      erases_more c.args.first c.loop-i.i c.args.injected _ c.loop-i.states.items c.erased_state.result (omega arith) c.loop-i.invariant.1
          (λ bytes. c.erased_state.ensures bytes ∙ ap (λ s. cell_after (erase c.loop-i.i) c.args.injected (cell_of s bytes)) state),
    )
