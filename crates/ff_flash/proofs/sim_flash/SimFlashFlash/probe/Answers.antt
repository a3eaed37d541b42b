use Rattle.std.proofs.Common.{ap, sym, ◌∙◌, refl, arith, slice_index_or, []}
use Rattle.ff_flash.proofs.SimCells.{cell_at-cells_of, place_within, state_is}
use Rattle.ff_flash.proofs.SimOperations.{operates_as, stop_of-error}
use Rattle.ff_flash.specs.Cells.{cell_probe}
use Rattle.ff_flash.specs.Injected.{injected_answer, stop_of}
use Rattle.ff_flash.specs.PageState.{cell_of}
use Rattle.ff_flash.proofs.sim_flash.SimFlashFlash.probe.Goals as goal

pub returns-in_err-answer-clause-counts : goal.returns-in_err-answer-clause-counts
returns-in_err-answer-clause-counts c =
    let answer = c.in_err-answer.ensures in
    rw (← c.self.view_is, c.next.ensures.after)
    (operates_as _ _ _ _ _ _ c.self.invariant.injector.plan (λ _. refl)
    (stop_of-error c.from_residual.result c.in_err-answer.field-0.0 c.from_residual.ensures.1 ∙ ap stop_of answer ∙ ap (λ how. stop_of (injected_answer how)) c.next.ensures.injected))

pub index-requires : goal.index-requires
index-requires c =
    let lies = place_within _ _ c.args.at.0 c.self.invariant.pages (rw (← c.self.view_is) at c.requires.place) in
    let len = c.self.inside.states.ok.0 in
    omega arith

pub returns-clause-cells : goal.returns-clause-cells
returns-clause-cells c =
    let kept = c.self.invariant in
    let lies = place_within _ _ c.args.at.0 kept.pages (rw (← c.self.view_is) at c.requires.place) in
    let state = state_is c.self.inside.states.items c.args.at.0 _ lies c.index.ensures in
    rw (← c.self.view_is) (
      c.probe_of.ensures (slice_index_or c.self.inside.arena c.args.at.0 []) ∙ ap (λ s. cell_probe (cell_of s (slice_index_or c.self.inside.arena c.args.at.0 []))) state
          ∙ sym (ap cell_probe (cell_at-cells_of _ _ c.args.at.0 kept.pages)),
      refl,
    )

pub returns-clause-counts : goal.returns-clause-counts
returns-clause-counts c =
    let answer = c.in_ok-answer.ensures in
    rw (← c.self.view_is, c.next.ensures.after)
    (operates_as _ _ _ _ _ _ c.self.invariant.injector.plan (λ _. refl) (ap stop_of answer ∙ ap (λ how. stop_of (injected_answer how)) c.next.ensures.injected))
