use Rattle.std.proofs.Common.{◌++◌, ◌∙◌, ap, arith, inl, inr, length, refl, sym}
use Rattle.std.proofs.lemmas.Bool.{false≢true}
use Rattle.ff_io.proofs.FailingCalls.{is_failing}
use Rattle.ff_io.specs.Memory.{SinkState, next_count}
use Rattle.ff_io.proofs.memory_sink.MemorySinkSink.write.Goals as goal

pub invariant_of-self : goal.invariant_of-self
invariant_of-self c = c.self.invariant

pub returns-then-contains-clause-kept : goal.returns-then-contains-clause-kept
returns-then-contains-clause-kept c = ap (λ (s : SinkState). s.written) c.self.view_is

pub returns-then-contains-clause-counted : goal.returns-then-contains-clause-counted
returns-then-contains-clause-counted c =
    c.saturating_add-self-inside-then-contains.ensures ∙ ap (λ (s : SinkState). next_count s.faults) c.self.view_is

pub returns-then-contains-clause-called : goal.returns-then-contains-clause-called
returns-then-contains-clause-called c =
    c.saturating_add-self-inside.ensures ∙ ap (λ (s : SinkState). next_count s.calls) c.self.view_is

pub returns-then-contains-clause-same_list : goal.returns-then-contains-clause-same_list
returns-then-contains-clause-same_list c = ap (λ (s : SinkState). s.fail) c.self.view_is

pub returns-then-contains-clause-same_room : goal.returns-then-contains-clause-same_room
returns-then-contains-clause-same_room c = ap (λ (s : SinkState). s.room) c.self.view_is

pub returns-clause-ok : goal.returns-clause-ok
returns-clause-ok c =
    c.append_reserved.ensures.items ∙ ap (λ (s : SinkState). s.written ++ c.args.piece.now) c.self.view_is

pub returns-clause-faults : goal.returns-clause-faults
returns-clause-faults c = ap (λ (s : SinkState). s.faults) c.self.view_is

pub returns-clause-called : goal.returns-clause-called
returns-clause-called c =
    c.saturating_add-self-inside.ensures ∙ ap (λ (s : SinkState). next_count s.calls) c.self.view_is

pub returns-clause-same_list : goal.returns-clause-same_list
returns-clause-same_list c = ap (λ (s : SinkState). s.fail) c.self.view_is

pub returns-clause-same_room : goal.returns-clause-same_room
returns-clause-same_room c = ap (λ (s : SinkState). s.room) c.self.view_is

pub returns-then-contains-clause-fails : goal.returns-then-contains-clause-fails
returns-then-contains-clause-fails c =
    let d = is_failing c.deref.result.now c.args.self.now.fail c.saturating_add-self-inside.result c.args.self.now.calls
    c.contains.result (c.deref.ensures.value ∙ ap (λ (s : SinkState). s.fail) c.self.view_is)
    (c.saturating_add-self-inside.ensures ∙ ap (λ (s : SinkState). next_count s.calls) c.self.view_is)
    c.contains.ensures.cases in
    let len = c.len.ensures in
    let size = c.self.inside.bytes.ok.0 in
    let room = ap (λ (s : SinkState). s.room) c.self.view_is in
    let written = ap (λ (s : SinkState). length s.written) c.self.view_is in (
      λ _. elim c.then-contains.either [
        | inl listed ↦ inl (d.0 listed)
        | inr full ↦ inr (let left = full.1 in omega (arith, len, size, room, written, left))
      ],
      λ _. refl,
    )

pub returns-clause-fails : goal.returns-clause-fails
returns-clause-fails c =
    let d = is_failing c.deref.result.now c.args.self.now.fail c.saturating_add-self-inside.result c.args.self.now.calls
    c.contains.result (c.deref.ensures.value ∙ ap (λ (s : SinkState). s.fail) c.self.view_is)
    (c.saturating_add-self-inside.ensures ∙ ap (λ (s : SinkState). next_count s.calls) c.self.view_is)
    c.contains.ensures.cases in
    let len = c.len.ensures in
    let size = c.self.inside.bytes.ok.0 in
    let room = ap (λ (s : SinkState). s.room) c.self.view_is in
    let written = ap (λ (s : SinkState). length s.written) c.self.view_is in
    let left = c.if-left-piece.false in
    let fits = c.self.invariant.0 in (
      λ is. absurd (false≢true is),
      λ why. elim why [
        | inl listed ↦ sym c.if-contains.false ∙ d.1 listed
        | inr full ↦ absurd (omega (arith, len, size, room, written, left, fits, full))
      ],
    )
