use Rattle.std.proofs.Common.{ap, sym, ◌∙◌, refl, arith, length}
use Rattle.ff_flash.proofs.SimCells.{cell_at-cells_of, place_within, read_is, read_size}
use Rattle.ff_flash.proofs.SimOperations.{operates_as, stop_of-error}
use Rattle.ff_flash.specs.Cells.{cell_bytes}
use Rattle.ff_flash.specs.Injected.{injected_answer, stop_of}
use Rattle.ff_flash.proofs.sim_flash.SimFlashFlash.read.Goals as goal

pub page-requires : goal.page-requires
page-requires c =
    let lies = place_within _ _ c.args.at.0 c.self.invariant.pages (rw (← c.self.view_is) at c.requires.place) in
    let size = c.self.invariant.pages in
    omega arith

pub returns-in_err-answer-clause-counts : goal.returns-in_err-answer-clause-counts
returns-in_err-answer-clause-counts c =
    let answer = c.in_err-answer.ensures in
    rw (← c.self.view_is, c.next.ensures.after)
    (operates_as _ _ _ _ _ _ c.self.invariant.injector.plan (λ _. refl)
    (stop_of-error c.from_residual.result c.in_err-answer.field-0.0 c.from_residual.ensures.1 ∙ ap stop_of answer ∙ ap (λ how. stop_of (injected_answer how)) c.next.ensures.injected))

pub copy_from-requires : goal.copy_from-requires
copy_from-requires c =
    let kept = c.self.invariant in
    let cell = cell_at-cells_of c.self.inside.states.items c.self.inside.arena c.args.at.0 kept.pages in
    let sealed = rw (← c.self.view_is) at c.requires.sealed in
    let bytes = read_is _ _ (rw cell at sealed) ∙ sym (ap cell_bytes cell) in
    ap length (c.page.ensures ∙ bytes) ∙ read_size _ sealed (kept.full c.args.at.0)

pub returns-clause-cells : goal.returns-clause-cells
returns-clause-cells c =
    let cell = cell_at-cells_of c.self.inside.states.items c.self.inside.arena c.args.at.0 c.self.invariant.pages in
    let sealed = rw (← c.self.view_is) at c.requires.sealed in
    rw (← c.self.view_is) (c.copy_from.ensures ∙ c.page.ensures ∙ read_is _ _ (rw cell at sealed) ∙ sym (ap cell_bytes cell), refl)

pub returns-clause-counts : goal.returns-clause-counts
returns-clause-counts c =
    let answer = c.in_ok-answer.ensures in
    rw (← c.self.view_is, c.next.ensures.after)
    (operates_as _ _ _ _ _ _ c.self.invariant.injector.plan (λ _. refl) (ap stop_of answer ∙ ap (λ how. stop_of (injected_answer how)) c.next.ensures.injected))
