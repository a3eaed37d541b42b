-- The page of the evictor's frame goes back.
use Rattle.std.proofs.Common.{◌≡◌, ℕ, ◌+◌, ◌%◌, List, length, Option, Some, sym, ap, subst, ◌∙◌}
use Rattle.ff_base.specs.declared.numbers.PageNo.{PageNo}
use Rattle.ff_device.specs.Device.{DeviceView, lines_in, own_of}
use Rattle.ff_frames.specs.Frames.{frame_at}
use Rattle.ff_frames.specs.declared.frame.Frame.{Frame}
use Rattle.ff_memory.specs.Begins.{IsRetreated}
use Rattle.ff_memory.specs.Located.{IsLocated}
use Rattle.ff_memory.specs.Marking.{IsUnreferred, is_passed}
use Rattle.ff_memory.specs.Memory.{MemoryView}
use Rattle.ff_memory.specs.LineBytes.{SameLineBytes}
use Rattle.ff_core.specs.Hierarchy.{HierarchyView, lines_under}
use Rattle.ff_core.specs.Performs.{HasEvicted, HasRetreated}
use Rattle.ff_core.specs.declared.action.Progress.{Progress}

-- the frame holds the page that was asked for
pub holds_page : (frames same : List Frame) (frame : ℕ) (found : Option PageNo) (page : PageNo) → frames ≡ same
    → found ≡ (frame_at frames frame).page → found ≡ Some page → (frame_at same frame).page ≡ Some page
holds_page frames same frame found page is asked some =
    subst (λ (f : List Frame). (frame_at f frame).page ≡ Some page) is (sym asked ∙ some)

-- as many frames, and the hand at the same one
pub same_count : {T E : Type 0} (page : ℕ) (h mid : HierarchyView T E) (progress : Progress) → HasRetreated page h progress mid
    → length mid.memory.frames ≡ length h.memory.frames
same_count page h mid progress began = ap (λ (m : MemoryView). length m.frames) began.step.memory

pub same_hand : {T E : Type 0} (page : ℕ) (h mid : HierarchyView T E) (progress : Progress) → HasRetreated page h progress mid
    → mid.evictor.hand ≡ h.evictor.hand
same_hand {T = T} {E = E} page h mid progress began = ap (λ (g : HierarchyView T E). g.evictor.hand) began.rest

-- the hand passed the frames up to this one
pub evicted : {T E : Type 0} (page : PageNo) (frame : ℕ) (h mid h' : HierarchyView T E) (progress : Progress)
    → (frame_at h.memory.frames frame).page ≡ Some page
    → HasRetreated page.0 h progress mid
    → IsUnreferred (is_passed mid.evictor.hand frame) mid.memory h'.memory
    → IsLocated h'.memory (lines_under h')
    → SameLineBytes mid.memory (lines_under mid) h'.memory (lines_under h')
    → h' ≡ record mid {
      memory = h'.memory;
      evictor = record mid.evictor { hand = (frame + 1) % length mid.memory.frames };
    }
    → HasEvicted frame h progress h'
evicted {T = T} {E = E} page frame h mid h' progress holds began passed located same_lines rest =
    let count : length mid.memory.frames ≡ length h.memory.frames =
    ap (λ (m : MemoryView). length m.frames) began.step.memory in
    let evictor : mid.evictor ≡ h.evictor = ap (λ (g : HierarchyView T E). g.evictor) began.rest in
    let policy : mid.policy ≡ h.policy = ap (λ (g : HierarchyView T E). g.policy) began.rest in
    let device : h'.device ≡ mid.device = ap (λ (g : HierarchyView T E). g.device) rest in
    record {
      did = began.did;
      page = page;
      holds = holds;
      between = mid.memory;
      step = subst (λ (d : DeviceView). IsRetreated page.0 h.memory (lines_under h) mid.memory (lines_in d)) (sym device) began.step;
      passed = rw evictor at passed;
      moved = record {
        located = located;
        lines = λ p line low. same_lines p line low ∙ began.moved.lines p line low;
        own = ap own_of device ∙ began.moved.own;
      };
      rest = rest ∙ (cc);
    }
