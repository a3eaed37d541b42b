use Rattle.ff_core.proofs.ResumeBorn.{IsBearing}
use Rattle.ff_core.proofs.resume.page_table.bear_held.Given as goal

abbrev pub invariant-loop-page : goal.invariant-loop-page
invariant-loop-page l = IsBearing l.base l.pages l.page l.initial.table l.table
