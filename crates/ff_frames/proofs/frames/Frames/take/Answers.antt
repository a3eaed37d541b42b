use Rattle.std.proofs.Common.{refl, arith}
use Rattle.std.proofs.lemmas.List.{get_or_read_under}
use Rattle.ff_frames.specs.Frame.{free_frame}
use Rattle.ff_frames.proofs.Replaced.{taken-kept, one-less}
use Rattle.ff_frames.proofs.Unused.{least_free, none_free}
use Rattle.ff_frames.proofs.frames.Frames.take.Goals as goal

pub returns-in_err-frame-clause-none : goal.returns-in_err-frame-clause-none
returns-in_err-frame-clause-none c =
    let inside = c.self.inside in
    rw (← c.self.view_is)
    ((λ none. none_free inside.frames.items inside.used inside.free c.self.invariant c.in_err-frame.ensures), (λ all. rw c.from_residual.ensures refl))

pub returns-clause-least : goal.returns-clause-least
returns-clause-least c =
    let inside = c.self.inside in
    rw (← c.self.view_is)
    (least_free inside.frames.items inside.used inside.free c.in_ok-frame.frame c.self.invariant c.in_ok-frame.ensures
    (omega (arith, c.if-frame-len.false, c.len.ensures)))

pub invariant_of-self : goal.invariant_of-self
invariant_of-self c =
    let inside = c.self.inside in
    let frame = c.in_ok-frame.frame in
    let least = least_free inside.frames.items inside.used inside.free frame c.self.invariant c.in_ok-frame.ensures
    (omega (arith, c.if-frame-len.false, c.len.ensures)) in
    let item = get_or_read_under inside.frames.items frame c.len.result c.index_mut.result.now free_frame c.index_mut.ensures.value
    (omega (arith, c.if-frame-len.false)) (omega (arith, c.len.ensures)) in
    rw (c.take.ensures, item)
    (taken-kept inside.frames.items inside.used c.set.new.self inside.free frame c.args.page c.self.invariant least.free c.set.ensures.used c.set.ensures.masks)

pub overflow_sub-self : goal.overflow_sub-self
overflow_sub-self c =
    let inside = c.self.inside in
    let frame = c.in_ok-frame.frame in
    let least = least_free inside.frames.items inside.used inside.free frame c.self.invariant c.in_ok-frame.ensures
    (omega (arith, c.if-frame-len.false, c.len.ensures)) in
    omega (arith, c.self.invariant.counted, one-less inside.frames.items frame c.args.page least.free)

pub returns-clause-taken : goal.returns-clause-taken
returns-clause-taken c =
    let inside = c.self.inside in
    let item = get_or_read_under inside.frames.items c.in_ok-frame.frame c.len.result c.index_mut.result.now free_frame
    c.index_mut.ensures.value (omega (arith, c.if-frame-len.false)) (omega (arith, c.len.ensures)) in
    rw (← c.self.view_is) (rw (c.take.ensures, item) refl)
