use Rattle.std.proofs.Common.{ap, sym, ◌∙◌, arith, length-set}
use Rattle.ff_flash.proofs.SimCells.{changed_cells, full_cells, place_within}
use Rattle.ff_flash.proofs.SimOperations.{cells_off, operates_as, page_by, sound_after, went_page}
use Rattle.ff_flash.specs.Cells.{seal}
use Rattle.ff_flash.specs.Injected.{injected_answer, stop_of}
use Rattle.ff_flash.proofs.sim_flash.SimFlashFlash.seal.Goals as goal

pub seal_at-requires : goal.seal_at-requires
seal_at-requires c =
    let lies = place_within _ _ c.args.at.0 c.self.invariant.pages (rw (← c.self.view_is) at c.requires.place) in
    let len = c.self.inside.states.ok.0 in
    omega arith

pub invariant_of-self : goal.invariant_of-self
invariant_of-self c =
    let kept = c.self.invariant in
    let cells = changed_cells (λ _. seal) c.next-injected.result _ _ _ c.args.at.0 kept.pages c.seal_at.ensures.changed in
    record {
      size = c.seal_at.ensures.len ∙ kept.size;
      some = kept.some;
      small = kept.small;
      pages = kept.pages ∙ sym (rw c.seal_at.ensures.changed.only (length-set _ _ _));
      injector = rw c.next-injected.ensures.after (sound_after _ kept.injector);
      full = rw cells (full_cells seal c.next-injected.result _ c.args.at.0 tt kept.full);
    }

pub returns-clause-cells : goal.returns-clause-cells
returns-clause-cells c =
    rw (← c.self.view_is)
    (went_page seal c.next-injected.result _ _ c.args.at.0 _ c.answer.ensures
    (changed_cells (λ _. seal) c.next-injected.result _ _ _ c.args.at.0 c.self.invariant.pages c.seal_at.ensures.changed))

pub returns-clause-counts : goal.returns-clause-counts
returns-clause-counts c =
    let kept = c.self.invariant in
    rw (← c.self.view_is, c.next-injected.ensures.after)
    (operates_as _ _ _ _ _ _ kept.injector.plan
    (λ off. changed_cells (λ _. seal) c.next-injected.result _ _ _ c.args.at.0 kept.pages c.seal_at.ensures.changed
    ∙ cells_off seal _ _ c.args.at.0 (c.next-injected.ensures.injected ∙ off))
    (ap stop_of (c.answer.ensures ∙ ap injected_answer c.next-injected.ensures.injected)))

pub returns-clause-planned : goal.returns-clause-planned
returns-clause-planned c =
    rw (← c.self.view_is)
    (page_by seal _ _ _ _ c.args.at.0 c.next-injected.ensures.injected
    (changed_cells (λ _. seal) c.next-injected.result _ _ _ c.args.at.0 c.self.invariant.pages c.seal_at.ensures.changed))
