use Rattle.std.proofs.Common.{◌≡◌, ◌++◌, ◌∙◌, ap, refl, sym, take, drop, take-append-drop, arith}
use Rattle.std.proofs.lemmas.Grind.{common_steps}
use Rattle.std.proofs.lemmas.List.{drop-drop}
use Rattle.std.proofs.lemmas.Bool.{false≢true}
use Rattle.ff_io.proofs.FailingCalls.{is_failing}
use Rattle.ff_io.specs.Memory.{SourceState, next_count}
use Rattle.ff_io.proofs.memory_source.MemorySourceSource.read.Goals as goal

pub returns-clause-taken : goal.returns-clause-taken
returns-clause-taken c =
    let at = c.self.inside.at in
    let items = c.self.inside.bytes.items in
    let n = c.copy_front-count.result in
    let front : take n c.copy_front-count.new.into ≡ take n (drop at items) = grind (arith, common_steps) in
    ap (λ (s : SourceState). s.left) (sym c.self.view_is) ∙ sym (take-append-drop n (drop at items))
    ∙ ap (λ l. l ++ drop n (drop at items)) (sym front) ∙ ap (λ l. take n c.copy_front-count.new.into ++ l) (drop-drop n at items)

pub invariant_of-self : goal.invariant_of-self
invariant_of-self c = c.self.invariant

pub returns-then-contains-clause-kept : goal.returns-then-contains-clause-kept
returns-then-contains-clause-kept c = ap (λ (s : SourceState). s.left) c.self.view_is

pub returns-then-contains-clause-unchanged : goal.returns-then-contains-clause-unchanged
returns-then-contains-clause-unchanged c = refl

pub returns-then-contains-clause-counted : goal.returns-then-contains-clause-counted
returns-then-contains-clause-counted c =
    c.saturating_add-self-inside-then-contains.ensures ∙ ap (λ (s : SourceState). next_count s.faults) c.self.view_is

pub returns-then-contains-clause-called : goal.returns-then-contains-clause-called
returns-then-contains-clause-called c =
    c.saturating_add-self-inside.ensures ∙ ap (λ (s : SourceState). next_count s.calls) c.self.view_is

pub returns-then-contains-clause-same_list : goal.returns-then-contains-clause-same_list
returns-then-contains-clause-same_list c = ap (λ (s : SourceState). s.fail) c.self.view_is

pub returns-clause-bound : goal.returns-clause-bound
returns-clause-bound c = let count = c.copy_front-count.ensures.count in omega arith

pub returns-clause-behind : goal.returns-clause-behind
returns-clause-behind c = c.copy_front-count.ensures.behind

pub returns-clause-faults : goal.returns-clause-faults
returns-clause-faults c = ap (λ (s : SourceState). s.faults) c.self.view_is

pub returns-clause-called : goal.returns-clause-called
returns-clause-called c =
    c.saturating_add-self-inside.ensures ∙ ap (λ (s : SourceState). next_count s.calls) c.self.view_is

pub returns-clause-same_list : goal.returns-clause-same_list
returns-clause-same_list c = ap (λ (s : SourceState). s.fail) c.self.view_is

pub returns-then-contains-clause-fails : goal.returns-then-contains-clause-fails
returns-then-contains-clause-fails c =
    let d = is_failing c.deref.result.now c.args.self.now.fail c.saturating_add-self-inside.result c.args.self.now.calls
    c.contains.result (c.deref.ensures.value ∙ ap (λ (s : SourceState). s.fail) c.self.view_is)
    (c.saturating_add-self-inside.ensures ∙ ap (λ (s : SourceState). next_count s.calls) c.self.view_is)
    c.contains.ensures.cases in
    (λ _. d.0 c.if-contains.true, λ _. refl)

pub returns-clause-fails : goal.returns-clause-fails
returns-clause-fails c =
    let d = is_failing c.deref.result.now c.args.self.now.fail c.saturating_add-self-inside.result c.args.self.now.calls
    c.contains.result (c.deref.ensures.value ∙ ap (λ (s : SourceState). s.fail) c.self.view_is)
    (c.saturating_add-self-inside.ensures ∙ ap (λ (s : SourceState). next_count s.calls) c.self.view_is)
    c.contains.ensures.cases in
    (λ is. absurd (false≢true is), λ within. sym c.if-contains.false ∙ d.1 within)
