use Rattle.std.proofs.Common.{◌<◌, length, refl, arith}
use Rattle.std.proofs.lemmas.List.{get_or_read}
use Rattle.ff_lines.specs.LineMask.{no_lines}
use Rattle.ff_frames.proofs.Unused.{least-here, used-more}
use Rattle.ff_frames.proofs.used.UsedFrames.least_unused.Goals as goal

pub returns-in-Some : goal.returns-in-Some
returns-in-Some c =
    let masks = c.self.inside.masks.items in
    let within : c.loop-at.at < length masks = omega (arith, c.loop-at-test.true, c.len-at-end.ensures, c.self.inside.masks.ok.0) in
    let read = get_or_read masks c.loop-at.at c.index.result.now within c.index.ensures no_lines in
    rw (← c.self.view_is) (least-here masks c.loop-at.at c.in-Some.frame c.loop-at.invariant (rw read at c.in-Some.ensures.least))

pub loop-at-preserved : goal.loop-at-preserved
loop-at-preserved c =
    let masks = c.self.inside.masks.items in
    let within : c.loop-at.at < length masks = omega (arith, c.loop-at-test.true, c.len-at-end.ensures, c.self.inside.masks.ok.0) in
    let read = get_or_read masks c.loop-at.at c.index.result.now within c.index.ensures no_lines in
    used-more masks c.loop-at.at c.loop-at.invariant (rw read at (c.in_default.ensures.full.0 refl))
