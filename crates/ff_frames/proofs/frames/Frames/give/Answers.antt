use Rattle.std.proofs.Common.{refl, arith}
use Rattle.std.proofs.lemmas.List.{get_or_read_under}
use Rattle.ff_frames.specs.Frame.{free_frame}
use Rattle.ff_frames.proofs.FreeCount.{free-below}
use Rattle.ff_frames.proofs.Replaced.{given-kept}
use Rattle.ff_frames.proofs.frames.Frames.give.Goals as goal

pub overflow_add-self : goal.overflow_add-self
overflow_add-self c =
    let frame = rw (← c.self.view_is) at c.requires.frame in
    let used = rw (← c.self.view_is) at c.requires.used in
    omega (arith, free-below c.self.inside.frames.items c.args.frame frame used, c.self.invariant.counted, c.self.invariant.sound.few)

pub invariant_of-self : goal.invariant_of-self
invariant_of-self c =
    let inside = c.self.inside in
    let frame = rw (← c.self.view_is) at c.requires.frame in
    let used = rw (← c.self.view_is) at c.requires.used in
    let item = get_or_read_under inside.frames.items c.args.frame _ c.index_mut.result.now free_frame c.index_mut.ensures.value frame refl in
    rw (c.give.ensures, item)
    (given-kept inside.frames.items inside.used c.clear.new.self inside.free c.args.frame c.self.invariant frame used c.clear.ensures.used c.clear.ensures.masks)

pub returns : goal.returns
returns c =
    let inside = c.self.inside in
    let frame = rw (← c.self.view_is) at c.requires.frame in
    let item = get_or_read_under inside.frames.items c.args.frame _ c.index_mut.result.now free_frame c.index_mut.ensures.value frame refl in
    rw (← c.self.view_is) (rw (c.give.ensures, item) refl)
