-- Moves of pages and calls keep the sizes of the memory and its device.
use Rattle.std.proofs.Common.{◌≡◌, ℕ, Bool, true, false, List, length, Option, Some, None, refl, ap, ◌∙◌, length-set}
use Rattle.ff_calls.specs.Accesses.{Accesses}
use Rattle.ff_frames.specs.Frame.{cleaned_frame, filled_frame, given_frame}
use Rattle.ff_frames.specs.Frames.{frame_at}
use Rattle.ff_frames.specs.declared.frame.Frame.{Frame}
use Rattle.ff_lines.specs.DeviceState.{DeviceState, SameSizes}
use Rattle.ff_lines.specs.LineMask.{has_line}
use Rattle.ff_memory.specs.Advances.{Advances, AdvancesBy, FinishesOrLifts, LandsBy, LiftsFrom, finished_by}
use Rattle.ff_memory.specs.Begins.{IsPromoted, IsRetreated, turned_by}
use Rattle.ff_memory.specs.Loads.{IsLoadBy}
use Rattle.ff_memory.specs.Marking.{IsMarkBy}
use Rattle.ff_memory.specs.Memory.{MemoryView, entry_at, frame_set, slot_set}
use Rattle.ff_memory.specs.LineBytes.{is_home, line_in_page, page_of, offset_in_line, serving_frame, storing_frame}
use Rattle.ff_memory.specs.Stores.{DrainsIf, HitsEntry, IsStoreBy, carries, is_store_refused}
use Rattle.ff_memory.specs.Loads.{span_of}
use Rattle.ff_memory.specs.declared.access.Access.{Access}
use Rattle.ff_memory.specs.declared.access.What.{What}
use Rattle.ff_memory.specs.declared.access.What.TheVariants.{Finished, Landed, Dropped, Lifted, Started, Worked, Drained, Sealed, Collected}
use Rattle.ff_model.specs.declared.op.Op.{Op}
use Rattle.ff_model.specs.declared.op.Op.TheVariants.{Load, Store, Verify, Mark, Release}
use Rattle.ff_plb.specs.Slot.{after_landing, after_store}
use Rattle.ff_plb.specs.declared.slot.Flight.{Flight}
use Rattle.ff_plb.specs.declared.slot.Slot.{Slot}
use Rattle.ff_plb.specs.declared.slot.Way.{Way}
use Rattle.ff_plb.specs.declared.slot.Way.TheVariants.{Coming, Leaving}

-- the memory has as many frames and slots as before, and the device its sizes
pub record KeepsSizes (m : MemoryView) (d : DeviceState) (m' : MemoryView) (d' : DeviceState) : Type 0 where
  pub frames : length m'.frames ≡ length m.frames
  pub slots : length m'.slots ≡ length m.slots
  pub lines : SameSizes d d'

pub sizes-same : (d d' : DeviceState) → d' ≡ d → SameSizes d d'
sizes-same d d' same = rw same record { pages = refl; room = refl; most_steps = refl; most_posts = refl }

sizes-more : (d mid d' : DeviceState) → SameSizes d mid → SameSizes mid d' → SameSizes d d'
sizes-more d mid d' one two = record {
  pages = two.pages ∙ one.pages;
  room = two.room ∙ one.room;
  most_steps = two.most_steps ∙ one.most_steps;
  most_posts = two.most_posts ∙ one.most_posts;
}

-- nothing was done
still-sizes : (m : MemoryView) (d : DeviceState) (m' : MemoryView) (d' : DeviceState) → m' ≡ m → SameSizes d d' → KeepsSizes m d m' d'
still-sizes m d m' d' same lines = record {
  frames = ap (λ (v : MemoryView). length v.frames) same;
  slots = ap (λ (v : MemoryView). length v.slots) same;
  lines = lines;
}

-- a slot and a frame of the memory changed
frame-sizes : (slot frame : ℕ) (entry : Option Slot) (change : Frame → Frame) (m : MemoryView) (d : DeviceState) (m' : MemoryView)
    (d' : DeviceState) → m' ≡ frame_set frame change (slot_set slot entry m) → SameSizes d d' → KeepsSizes m d m' d'
frame-sizes slot frame entry change m d m' d' is lines = record {
  frames = ap (λ (v : MemoryView). length v.frames) is ∙ length-set m.frames frame (change (frame_at m.frames frame));
  slots = ap (λ (v : MemoryView). length v.slots) is ∙ length-set m.slots slot entry;
  lines = lines;
}

-- a slot of the memory changed
slot-sizes : (slot : ℕ) (entry : Option Slot) (m : MemoryView) (d : DeviceState) (m' : MemoryView) (d' : DeviceState)
    → m' ≡ slot_set slot entry m → SameSizes d d' → KeepsSizes m d m' d'
slot-sizes slot entry m d m' d' is lines = record {
  frames = ap (λ (v : MemoryView). length v.frames) is;
  slots = ap (λ (v : MemoryView). length v.slots) is ∙ length-set m.slots slot entry;
  lines = lines;
}

finished-sizes : (way : Way) (slot : ℕ) (s : Slot) (m : MemoryView) (d : DeviceState) (m' : MemoryView) (d' : DeviceState)
    → m' ≡ finished_by way slot s m → SameSizes d d' → KeepsSizes m d m' d'
finished-sizes Coming slot s m d m' d' is lines = record {
  frames = ap (λ (v : MemoryView). length v.frames) is;
  slots = ap (λ (v : MemoryView). length v.slots) is ∙ length-set m.slots slot None;
  lines = lines;
}
finished-sizes Leaving slot s m d m' d' is lines = record {
  frames = ap (λ (v : MemoryView). length v.frames) is ∙ length-set m.frames s.frame (given_frame (frame_at m.frames s.frame));
  slots = ap (λ (v : MemoryView). length v.slots) is ∙ length-set m.slots slot None;
  lines = lines;
}

lifts-sizes : (way : Way) (d d' : DeviceState) → LiftsFrom way d d' → SameSizes d d'
lifts-sizes Coming d d' is = is.residence.sizes
lifts-sizes Leaving d d' is = sizes-same d d' is

finishes_or_lifts-sizes : (what : What) (slot : ℕ) (s : Slot) (m : MemoryView) (d : DeviceState) (m' : MemoryView) (d' : DeviceState)
    → FinishesOrLifts what slot s m d m' d' → KeepsSizes m d m' d'
finishes_or_lifts-sizes Finished slot s m d m' d' is =
    finished-sizes s.way slot s m d m' d' is.memory is.device.residence.sizes
finishes_or_lifts-sizes Lifted slot s m d m' d' is = slot-sizes slot _ m d m' d' is.memory (lifts-sizes s.way d d' is.device)
finishes_or_lifts-sizes Landed slot s m d m' d' is = absurd is
finishes_or_lifts-sizes Dropped slot s m d m' d' is = absurd is
finishes_or_lifts-sizes Started slot s m d m' d' is = absurd is
finishes_or_lifts-sizes Worked slot s m d m' d' is = absurd is
finishes_or_lifts-sizes Drained slot s m d m' d' is = absurd is
finishes_or_lifts-sizes Sealed slot s m d m' d' is = absurd is
finishes_or_lifts-sizes Collected slot s m d m' d' is = absurd is

lands-sizes : (way : Way) (copied : Bool) (slot : ℕ) (s : Slot) (flight : Flight) (m : MemoryView) (d : DeviceState) (what : What)
    (m' : MemoryView) (d' : DeviceState) → LandsBy way copied slot s flight m d what m' d' → KeepsSizes m d m' d'
lands-sizes Coming true slot s flight m d what m' d' is =
    slot-sizes slot (Some (after_landing s)) m d m' d' is.1.memory (sizes-same d d' is.1.device)
lands-sizes Coming false slot s flight m d what m' d' is =
    frame-sizes slot s.frame (Some (after_landing s)) (filled_frame flight.line flight.bytes) m d m' d' is.1.memory
    (sizes-same d d' is.1.device)
lands-sizes Leaving copied slot s flight m d what m' d' is =
    frame-sizes slot s.frame (Some (after_landing s)) (cleaned_frame flight.line) m d m' d' is.1.memory is.1.device.residence.sizes

steps-sizes : (flight : Option Flight) (slot : ℕ) (s : Slot) (m : MemoryView) (d : DeviceState) (what : What) (m' : MemoryView)
    (d' : DeviceState) → AdvancesBy flight slot s m d what m' d' → KeepsSizes m d m' d'
steps-sizes None slot s m d what m' d' is = finishes_or_lifts-sizes what slot s m d m' d' is
steps-sizes (Some flight) slot s m d what m' d' is =
    lands-sizes s.way (has_line s.bits flight.line) slot s flight m d what m' d' is

-- a page in flight made its step
pub advances-sizes : (slot : ℕ) (at : Option Slot) (m : MemoryView) (d : DeviceState) (what : What) (m' : MemoryView)
    (d' : DeviceState) → Advances slot at m d what m' d' → KeepsSizes m d m' d'
advances-sizes slot None m d what m' d' is = absurd is
advances-sizes slot (Some s) m d what m' d' is = steps-sizes s.flight slot s m d what m' d' is

-- a page began to come
pub promoted-sizes : (page : ℕ) (m : MemoryView) (d : DeviceState) (m' : MemoryView) (d' : DeviceState)
    → IsPromoted page m d m' d' → KeepsSizes m d m' d'
promoted-sizes page m d m' d' is = record {
  frames = ap (λ (v : MemoryView). length v.frames) is.memory ∙ length-set m.frames is.frame _;
  slots = ap (λ (v : MemoryView). length v.slots) is.memory ∙ length-set m.slots is.slot _;
  lines = sizes-more d is.device.mid d' is.device.drained.residence.sizes is.device.pinned.residence.sizes;
}

-- a page began to leave
pub retreated-sizes : (page : ℕ) (m : MemoryView) (d : DeviceState) (m' : MemoryView) (d' : DeviceState)
    → IsRetreated page m d m' d' → KeepsSizes m d m' d'
retreated-sizes page m d m' d' is = slot-sizes is.slot _ m d m' d' is.memory is.device.residence.sizes

-- a coming page turned back
pub turned-frames : (slot : ℕ) (entry : Option Slot) (m : MemoryView) → length (turned_by slot entry m).frames ≡ length m.frames
turned-frames slot None m = refl
turned-frames slot (Some s) m = refl

pub turned-slots : (slot : ℕ) (entry : Option Slot) (m : MemoryView) → length (turned_by slot entry m).slots ≡ length m.slots
turned-slots slot None m = refl
turned-slots slot (Some s) m = length-set m.slots slot _

load-sizes : (to : Option ℕ) (resident : Bool) (page : ℕ) (bytes : List ℕ) (m : MemoryView) (d : DeviceState) (access : Access)
    (m' : MemoryView) (d' : DeviceState) → IsLoadBy to resident page bytes m d access m' d' → KeepsSizes m d m' d'
load-sizes (Some frame) resident page bytes m d access m' d' is = record {
  frames = ap (λ (v : MemoryView). length v.frames) is.memory ∙ length-set m.frames frame _;
  slots = ap (λ (v : MemoryView). length v.slots) is.memory;
  lines = sizes-same d d' is.device;
}
load-sizes None true page bytes m d access m' d' is = still-sizes m d m' d' is.memory is.device.residence.sizes
load-sizes None false page bytes m d access m' d' is = still-sizes m d m' d' is.memory (sizes-same d d' is.device)

drains-sizes : (carried : Bool) (d d' : DeviceState) → DrainsIf carried d d' → SameSizes d d'
drains-sizes true d d' is = is.residence.sizes
drains-sizes false d d' is = sizes-same d d' is

hits-slots : (entry : Option Slot) (line : ℕ) (old new : List (Option Slot)) → HitsEntry entry line old new → length new ≡ length old
hits-slots None line old new is = ap (λ (slots : List (Option Slot)). length slots) is
hits-slots (Some s) line old new is =
    ap (λ (slots : List (Option Slot)). length slots) is.2 ∙ length-set old is.0 (Some (after_store line s))

store-sizes : (refused : Bool) (to : Option ℕ) (resident : Bool) (page line from : ℕ) (piece : List ℕ) (position : ℕ) (m : MemoryView)
    (d : DeviceState) (access : Access) (m' : MemoryView) (d' : DeviceState)
    → IsStoreBy refused to resident page line from piece position m d access m' d' → KeepsSizes m d m' d'
store-sizes true to resident page line from piece position m d access m' d' is =
    still-sizes m d m' d' is.memory (sizes-same d d' is.device)
store-sizes false (Some frame) resident page line from piece position m d access m' d' is = record {
  frames = ap (λ (frames : List Frame). length frames) is.frames ∙ length-set m.frames frame _;
  slots = hits-slots (entry_at m page) line m.slots m'.slots is.slots;
  lines = drains-sizes (carries (entry_at m page) line (length piece)) d d' is.device;
}
store-sizes false None true page line from piece position m d access m' d' is = record {
  frames = ap (λ (v : MemoryView). length v.frames) is.memory;
  slots = ap (λ (v : MemoryView). length v.slots) is.memory;
  lines = is.device.residence.sizes;
}
store-sizes false None false page line from piece position m d access m' d' is =
    still-sizes m d m' d' is.memory (sizes-same d d' is.device)

mark-sizes : (home : Bool) (page lines : ℕ) (m : MemoryView) (d : DeviceState) (access : Access) (m' : MemoryView) (d' : DeviceState)
    → IsMarkBy home page lines m d access m' d' → KeepsSizes m d m' d'
mark-sizes true page lines m d access m' d' is = record {
  frames = ap (λ (v : MemoryView). length v.frames) is.memory;
  slots = ap (λ (v : MemoryView). length v.slots) is.memory;
  lines = is.device.residence.sizes;
}
mark-sizes false page lines m d access m' d' is = still-sizes m d m' d' is.memory (sizes-same d d' is.device)

-- a call was asked of the memory
pub accesses-sizes : (op : Op) (position : ℕ) (m : MemoryView) (d : DeviceState) (access : Access) (m' : MemoryView) (d' : DeviceState)
    → Accesses op position m d access m' d' → KeepsSizes m d m' d'
accesses-sizes (Load at len) position m d access m' d' is =
    load-sizes (serving_frame m (page_of at) (line_in_page at)) (d.resident (page_of at)) (page_of at) (span_of m d at len) m d
    access m' d' is
accesses-sizes (Store at bytes) position m d access m' d' is =
    store-sizes (is_store_refused m (page_of at)) (storing_frame m (page_of at) (line_in_page at)) (d.resident (page_of at))
    (page_of at) (line_in_page at) (offset_in_line at) bytes position m d access m' d' is
accesses-sizes Verify position m d access m' d' is = still-sizes m d m' d' is.memory is.device.residence.sizes
accesses-sizes (Mark page from count) position m d access m' d' is =
    mark-sizes (is_home m page.0) page.0 is.mask.0 m d access m' d' is.marks
accesses-sizes (Release page from count) position m d access m' d' is = record {
  frames = ap (λ (v : MemoryView). length v.frames) is.memory;
  slots = ap (λ (v : MemoryView). length v.slots) is.memory;
  lines = sizes-same d d' is.device;
}
