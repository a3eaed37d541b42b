use Rattle.std.proofs.Common.{ap, sym, ◌∙◌}
use Rattle.ff_flash.proofs.OperationCells.{erase_off}
use Rattle.ff_flash.proofs.SimCells.{erased_cells, full_block}
use Rattle.ff_flash.proofs.SimOperations.{block_by, operates_as, sound_after, went_block}
use Rattle.ff_flash.specs.Injected.{injected_answer, stop_of}
use Rattle.ff_flash.proofs.sim_flash.SimFlashFlash.erase.Goals as goal

pub invariant_of-self : goal.invariant_of-self
invariant_of-self c =
    let kept = c.self.invariant in
    let cells = erased_cells c.self.inside.per_block c.args.block.0 c.next-injected.result _ _ _ kept.some kept.pages c.erase_at.ensures.erased in
    record {
      size = c.erase_at.ensures.len ∙ kept.size;
      some = kept.some;
      small = kept.small;
      pages = kept.pages ∙ sym c.erase_at.ensures.erased.size;
      injector = rw c.next-injected.ensures.after (sound_after _ kept.injector);
      full = full_block c.self.inside.per_block c.args.block.0 c.next-injected.result _ _ cells kept.full;
    }

pub returns-clause-cells : goal.returns-clause-cells
returns-clause-cells c =
    let kept = c.self.invariant in
    rw (← c.self.view_is)
    (went_block c.self.inside.per_block c.args.block.0 c.next-injected.result _ _ _ c.answer.ensures
    (erased_cells c.self.inside.per_block c.args.block.0 c.next-injected.result _ _ _ kept.some kept.pages c.erase_at.ensures.erased))

pub returns-clause-counts : goal.returns-clause-counts
returns-clause-counts c =
    let kept = c.self.invariant in
    let cells = erased_cells c.self.inside.per_block c.args.block.0 c.next-injected.result _ _ _ kept.some kept.pages c.erase_at.ensures.erased in
    rw (← c.self.view_is, c.next-injected.ensures.after)
    (operates_as _ _ _ _ _ _ kept.injector.plan
    (λ off. erase_off c.self.inside.per_block _ c.args.block.0 c.next-injected.result _ (c.next-injected.ensures.injected ∙ off) cells)
    (ap stop_of (c.answer.ensures ∙ ap injected_answer c.next-injected.ensures.injected)))

pub returns-clause-planned : goal.returns-clause-planned
returns-clause-planned c =
    let kept = c.self.invariant in
    let cells = erased_cells c.self.inside.per_block c.args.block.0 c.next-injected.result _ _ _ kept.some kept.pages c.erase_at.ensures.erased in
    rw (← c.self.view_is) (block_by c.self.inside.per_block c.args.block.0 _ _ _ _ c.next-injected.ensures.injected cells)
