use Rattle.std.proofs.Common.{ap, sym, ◌∙◌, arith, refl, slice_index_or, []}
use Rattle.ff_flash.proofs.SimCells.{cell_at-cells_of, length-cells_of, state_is}
use Rattle.ff_flash.specs.Cells.{cell_probe}
use Rattle.ff_flash.specs.PageState.{cell_of}
use Rattle.ff_flash.proofs.sim_flash.SimFlash.glance.Goals as goal

pub returns-then-at-len-clause-within : goal.returns-then-at-len-clause-within
returns-then-at-len-clause-within c =
    let size = length-cells_of _ _ c.self.invariant.pages in
    let len = c.self.inside.states.ok.0 in
    rw (← c.self.view_is) (λ found. cc, λ lies. absurd (omega arith))

pub returns-clause-within : goal.returns-clause-within
returns-clause-within c =
    let size = length-cells_of _ _ c.self.invariant.pages in
    let len = c.self.inside.states.ok.0 in
    rw (← c.self.view_is) (λ found. omega arith, λ lies. refl)

pub returns-clause-probe : goal.returns-clause-probe
returns-clause-probe c =
    let len = c.self.inside.states.ok.0 in
    let state = state_is c.self.inside.states.items c.args.at.0 _ (omega arith) c.index.ensures in
    rw (← c.self.view_is)
    (c.probe_of.ensures (slice_index_or c.self.inside.arena c.args.at.0 [])
    ∙ ap (λ s. cell_probe (cell_of s (slice_index_or c.self.inside.arena c.args.at.0 []))) state
    ∙ sym (ap cell_probe (cell_at-cells_of _ _ c.args.at.0 c.self.invariant.pages)))
