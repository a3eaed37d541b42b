use Rattle.std.proofs.Common.{ap, sym, ◌∙◌, arith, length-set, slice_set}
use Rattle.ff_flash.proofs.SimCells.{full_cells, place_within, programmed_cells}
use Rattle.ff_flash.proofs.SimOperations.{cells_off, operates_as, page_by, sound_after, went_page}
use Rattle.ff_flash.specs.Cells.{program}
use Rattle.ff_flash.specs.Injected.{injected_answer, stop_of}
use Rattle.ff_flash.proofs.sim_flash.SimFlashFlash.program.Goals as goal

pub put-requires-clause-place : goal.put-requires-clause-place
put-requires-clause-place c =
    let lies = place_within _ _ c.args.at.0 c.self.invariant.pages (rw (← c.self.view_is) at c.requires.place) in
    let size = c.self.invariant.pages in
    omega arith

pub program_at-requires : goal.program_at-requires
program_at-requires c =
    let lies = place_within _ _ c.args.at.0 c.self.invariant.pages (rw (← c.self.view_is) at c.requires.place) in
    let len = c.self.inside.states.ok.0 in
    omega arith

pub invariant_of-self : goal.invariant_of-self
invariant_of-self c =
    let kept = c.self.invariant in
    let lies = place_within _ _ c.args.at.0 kept.pages (rw (← c.self.view_is) at c.requires.place) in
    let is = rw (← c.self.view_is) at c.requires.erased in
    let put = c.put.ensures ∙ ap (λ page. slice_set c.self.inside.arena c.args.at.0 page) c.as_slice.ensures.bytes in
    let cells = programmed_cells c.args.from.now c.args.spare c.next-injected.result _ _ _ _ c.args.at.0 lies kept.pages is put c.program_at.ensures.changed in
    record {
      size = c.program_at.ensures.len ∙ kept.size;
      some = kept.some;
      small = kept.small;
      pages = rw c.put.ensures (length-set _ _ _) ∙ kept.pages ∙ sym (rw c.program_at.ensures.changed.only (length-set _ _ _));
      injector = rw c.next-injected.ensures.after (sound_after _ kept.injector);
      full = rw cells (full_cells (program c.args.from.now c.args.spare) c.next-injected.result _ c.args.at.0 c.as_slice.ensures.size kept.full);
    }

pub returns-clause-cells : goal.returns-clause-cells
returns-clause-cells c =
    let kept = c.self.invariant in
    let lies = place_within _ _ c.args.at.0 kept.pages (rw (← c.self.view_is) at c.requires.place) in
    let is = rw (← c.self.view_is) at c.requires.erased in
    let put = c.put.ensures ∙ ap (λ page. slice_set c.self.inside.arena c.args.at.0 page) c.as_slice.ensures.bytes in
    rw (← c.self.view_is)
    (went_page (program c.args.from.now c.args.spare) c.next-injected.result _ _ c.args.at.0 _ c.answer.ensures
    (programmed_cells c.args.from.now c.args.spare c.next-injected.result _ _ _ _ c.args.at.0 lies kept.pages is put c.program_at.ensures.changed))

pub returns-clause-counts : goal.returns-clause-counts
returns-clause-counts c =
    let kept = c.self.invariant in
    let lies = place_within _ _ c.args.at.0 kept.pages (rw (← c.self.view_is) at c.requires.place) in
    let is = rw (← c.self.view_is) at c.requires.erased in
    let put = c.put.ensures ∙ ap (λ page. slice_set c.self.inside.arena c.args.at.0 page) c.as_slice.ensures.bytes in
    let cells = programmed_cells c.args.from.now c.args.spare c.next-injected.result _ _ _ _ c.args.at.0 lies kept.pages is put c.program_at.ensures.changed in
    rw (← c.self.view_is, c.next-injected.ensures.after)
    (operates_as _ _ _ _ _ _ kept.injector.plan
    (λ off. cells ∙ cells_off (program c.args.from.now c.args.spare) _ _ c.args.at.0 (c.next-injected.ensures.injected ∙ off))
    (ap stop_of (c.answer.ensures ∙ ap injected_answer c.next-injected.ensures.injected)))

pub returns-clause-planned : goal.returns-clause-planned
returns-clause-planned c =
    let kept = c.self.invariant in
    let lies = place_within _ _ c.args.at.0 kept.pages (rw (← c.self.view_is) at c.requires.place) in
    let is = rw (← c.self.view_is) at c.requires.erased in
    let put = c.put.ensures ∙ ap (λ page. slice_set c.self.inside.arena c.args.at.0 page) c.as_slice.ensures.bytes in
    rw (← c.self.view_is)
    (page_by (program c.args.from.now c.args.spare) _ _ _ _ c.args.at.0 c.next-injected.ensures.injected
    (programmed_cells c.args.from.now c.args.spare c.next-injected.result _ _ _ _ c.args.at.0 lies kept.pages is put c.program_at.ensures.changed))
