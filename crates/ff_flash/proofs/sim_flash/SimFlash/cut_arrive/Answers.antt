use Rattle.std.proofs.Common.{sym, ◌∙◌}
use Rattle.ff_flash.proofs.SimCells.{length-cells_of}
use Rattle.ff_flash.proofs.SimOperations.{sim_sound}
use Rattle.ff_flash.proofs.sim_flash.SimFlash.cut_arrive.Goals as goal

pub returns-clause-known : goal.returns-clause-known
returns-clause-known c =
    let kept = c.self.invariant in
    let size = length-cells_of _ _ kept.pages ∙ sym c.self.inside.states.ok.0 ∙ kept.size in
    rw (← c.self.view_is) (sim_sound _ _ _ _ size kept.injector kept.full)
