use Rattle.std.proofs.Common.{◌≡◌, ℕ, ◌<◌, not, sym, ap, ◌∙◌, subst}
use Rattle.ff_frames.specs.Frames.{frame_at}
use Rattle.ff_lines.specs.LineMask.{has_line, mask_others}
use Rattle.ff_memory.specs.Memory.{MemoryView}
use Rattle.ff_memory.proofs.Begins.{retreat-frame, retreated-keeps}
use Rattle.ff_memory.proofs.Lifts.{KeepsLinesOf}
use Rattle.ff_memory.proofs.Moves.{move-located, move-lines}
use Rattle.ff_memory.proofs.memory.Memory.begin_retreat.Given.{Over}
use Rattle.ff_memory.proofs.memory.Memory.begin_retreat.Goals as goal

keeps : (g : Over) (c : goal.After-retreat g)
    → KeepsLinesOf c.args.page.0 c.retreat.ensures.step.frame c.args.self.now (g.D.LineDevice.state c.args.d.now) c.retreat.new.self
    (g.D.LineDevice.state c.retreat.new.d)
keeps g c =
    let m = c.args.self.now in
    let is = c.retreat.ensures.step in
    let frame = c.home_frame-frame.result in
    let same : is.frame ≡ frame = retreat-frame m _ c.args.page.0 frame _ _ is c.home_frame-frame.ensures in
    let dirty : c.dirty.result ≡ (frame_at m.frames frame).dirty =
    subst (λ (n : MemoryView). c.dirty.result ≡ (frame_at n.frames frame).dirty) c.self.view_is c.dirty.ensures in
    let there : c.dirty.result ≡ (frame_at m.frames is.frame).dirty = dirty ∙ ap (λ (f : ℕ). (frame_at m.frames f).dirty) (sym same) in
    let copied : (line : ℕ) → line < 64 → has_line (mask_others c.dirty.result) line ≡ not (has_line c.dirty.result line) =
    λ line low. rw c.complement-clean.ensures.mask at (c.complement-clean.ensures.lines line low) in
    retreated-keeps m _ c.args.page.0 _ _ c.known.ensures c.requires.located c.requires.can is (rw there at copied)

pub returns-clause-located : goal.returns-clause-located
returns-clause-located g c = move-located _ _ _ _ _ _ c.requires.located (keeps g c).move

pub returns-clause-lines : goal.returns-clause-lines
returns-clause-lines g c = move-lines _ _ _ _ _ _ c.requires.located (keeps g c).move (keeps g c).lines
