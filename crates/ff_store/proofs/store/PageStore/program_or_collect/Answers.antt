-- A collection step is owed, or no block has a page to program.
use Rattle.std.proofs.Common.{◌∙◌, inl, inr, ap, sym, subst, arith}
use Rattle.ff_space.specs.BlockTable.{block_at}
use Rattle.ff_space.specs.Choices.{IsNoPlace}
use Rattle.ff_store.specs.Calls.{IsWritePlace, collects_flush, programs_flush}
use Rattle.ff_store.specs.PageStore.{PageStoreView}
use Rattle.ff_store.proofs.store.PageStore.program_or_collect.Goals as goal

pub collect_for_flush-requires-clause-now : goal.collect_for_flush-requires-clause-now
collect_for_flush-requires-clause-now g c =
    inl (ap (λ (s : PageStoreView). s.owed) (sym c.self.view_is) ∙ c.if-self.true)

pub returns-then-self : goal.returns-then-self
returns-then-self g c =
    collects_flush (inl (ap (λ (s : PageStoreView). s.owed) (sym c.self.view_is) ∙ c.if-self.true))
    c.collect_for_flush.ensures

pub program-requires-clause-place : goal.program-requires-clause-place
program-requires-clause-place g c =
    let place = c.in-Some.place in
    subst (λ (s : PageStoreView). IsWritePlace s.world.table place.block.0 place.at.0) c.self.view_is
    c.in-Some.ensures.0

pub program-requires-clause-state : goal.program-requires-clause-state
program-requires-clause-state g c =
    ap (λ (s : PageStoreView). (block_at s.world.table c.in-Some.place.block.0).state) (sym c.self.view_is)
    ∙ c.in-Some.ensures.1

pub collect_for_flush-requires-in-None-clause-now :
    goal.collect_for_flush-requires-in-None-clause-now
collect_for_flush-requires-in-None-clause-now g c =
    inr (subst (λ (s : PageStoreView). IsNoPlace s.world.table) c.self.view_is c.in-None.ensures)

pub returns-in-Some : goal.returns-in-Some
returns-in-Some g c =
    let place = c.in-Some.place in
    let wanted = subst (λ (s : PageStoreView). IsWritePlace s.world.table place.block.0 place.at.0) c.self.view_is
    c.in-Some.ensures.0 in
    programs_flush (λ now. elim now [
      | inl owed ↦
          (let e = sym (ap (λ (s : PageStoreView). s.owed) (sym c.self.view_is) ∙ c.if-self.false) ∙ owed in cc)
      | inr none ↦ elim wanted.chosen [
        | inl opened ↦ none.none_open place.block.0 opened.has
        | inr take ↦ (let spare = take.spare in let few = none.few in absurd (omega arith))
      ]
    ]) c.program.ensures

pub returns-in-None : goal.returns-in-None
returns-in-None g c =
    collects_flush
    (inr (subst (λ (s : PageStoreView). IsNoPlace s.world.table) c.self.view_is c.in-None.ensures))
    c.collect_for_flush-in-None.ensures
