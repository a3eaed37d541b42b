use Rattle.std.proofs.Common.{sym, ◌∙◌}
use Rattle.ff_flash.proofs.SimCells.{length-cells_of}
use Rattle.ff_flash.proofs.SimOperations.{sim_sound}
use Rattle.ff_flash.proofs.sim_flash.SimFlashFlash.fault_count.Goals as goal

pub returns-clause-sound : goal.returns-clause-sound
returns-clause-sound c =
    let kept = c.self.invariant in
    let size = length-cells_of _ _ kept.pages ∙ sym c.self.inside.states.ok.0 ∙ kept.size in
    rw (← c.self.view_is) (sim_sound _ _ _ _ size kept.injector kept.full).sound
