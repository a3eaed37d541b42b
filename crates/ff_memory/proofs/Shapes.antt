-- No call changes how many frames, pages and slots there are, nor how many pages may be born.
use Rattle.std.proofs.Common.{◌≡◌, ℕ, Bool, true, false, List, length, Option, None, Some, refl, ap, ◌∙◌, length-set}
use Rattle.ff_frames.specs.Frames.{with_frame}
use Rattle.ff_frames.specs.declared.frame.Frame.{Frame}
use Rattle.ff_lines.specs.DeviceState.{DeviceState}
use Rattle.ff_lines.specs.LineMask.{has_line}
use Rattle.ff_plb.specs.Plb.{slot_at}
use Rattle.ff_plb.specs.declared.slot.Flight.{Flight}
use Rattle.ff_plb.specs.declared.slot.Slot.{Slot}
use Rattle.ff_plb.specs.declared.slot.Way.{Way}
use Rattle.ff_plb.specs.declared.slot.Way.TheVariants.{Coming, Leaving}
use Rattle.ff_table.specs.Table.{TableView}
use Rattle.ff_table.specs.declared.table.Home.{Home}
use Rattle.ff_memory.specs.Advances.{Advances, AdvancesBy, FinishesOrLifts, LandsBy, finished_by}
use Rattle.ff_memory.specs.Begins.{IsPromoted, IsRetreated, turned_at, turned_by}
use Rattle.ff_memory.specs.Loads.{IsLoadBy}
use Rattle.ff_memory.specs.Marking.{IsMarkBy, IsUnreferred}
use Rattle.ff_memory.specs.Memory.{MemoryView, born_set, home_set, marks_set, slot_set}
use Rattle.ff_memory.specs.Stores.{HitsEntry, IsStoreBy}
use Rattle.ff_memory.specs.declared.access.Access.{Access}
use Rattle.ff_memory.specs.declared.access.What.{What}
use Rattle.ff_memory.specs.declared.access.What.TheVariants.{Finished, Lifted}

-- there are as many frames, pages and slots as before
pub record SameShape (m m' : MemoryView) : Type 0 where
  pub frames : length m'.frames ≡ length m.frames
  pub homes : length m'.table.homes ≡ length m.table.homes
  pub slots : length m'.slots ≡ length m.slots
  pub capacity : m'.capacity ≡ m.capacity

same-shape : (m : MemoryView) → SameShape m m
same-shape m = record { frames = refl; homes = refl; slots = refl; capacity = refl }

shape-then : (m n m' : MemoryView) → SameShape m n → SameShape n m' → SameShape m m'
shape-then m n m' one next = record {
  frames = next.frames ∙ one.frames;
  homes = next.homes ∙ one.homes;
  slots = next.slots ∙ one.slots;
  capacity = next.capacity ∙ one.capacity;
}

shape-frame : (m : MemoryView) (frame : ℕ) (new : Frame) → SameShape m (record m { frames = with_frame m.frames frame new })
shape-frame m frame new = record { frames = length-set m.frames frame new; homes = refl; slots = refl; capacity = refl }

shape-slot : (m : MemoryView) (slot : ℕ) (entry : Option Slot) → SameShape m (slot_set slot entry m)
shape-slot m slot entry = record { frames = refl; homes = refl; slots = length-set m.slots slot entry; capacity = refl }

shape-home : (m : MemoryView) (page : ℕ) (home : Home) → SameShape m (home_set page home m)
shape-home m page home = record { frames = refl; homes = length-set m.table.homes page home; slots = refl; capacity = refl }

shape-born : (m : MemoryView) (page : ℕ) → SameShape m (born_set page m)
shape-born m page = record { frames = refl; homes = refl; slots = refl; capacity = refl }

-- a load
pub shape-loaded : (to : Option ℕ) (resident : Bool) (page : ℕ) (bytes : List ℕ) (m : MemoryView) (d : DeviceState)
    (access : Access) (m' : MemoryView) (d' : DeviceState) → IsLoadBy to resident page bytes m d access m' d' → SameShape m m'
shape-loaded (Some frame) resident page bytes m d access m' d' is = rw is.memory (shape-frame m frame _)
shape-loaded None true page bytes m d access m' d' is = rw is.memory (same-shape m)
shape-loaded None false page bytes m d access m' d' is = rw is.memory (same-shape m)

slots-hit : (entry : Option Slot) (line : ℕ) (old new : List (Option Slot)) → HitsEntry entry line old new
    → length new ≡ length old
slots-hit None line old new is = ap length is
slots-hit (Some entry) line old new is = ap length is.2 ∙ length-set old is.0 _

-- a store
pub shape-stored : (refused : Bool) (to : Option ℕ) (resident : Bool) (page line from : ℕ) (piece : List ℕ) (position : ℕ)
    (m : MemoryView) (d : DeviceState) (access : Access) (m' : MemoryView) (d' : DeviceState)
    → IsStoreBy refused to resident page line from piece position m d access m' d' → SameShape m m'
shape-stored true to resident page line from piece position m d access m' d' is = rw is.memory (same-shape m)
shape-stored false (Some frame) resident page line from piece position m d access m' d' is = record {
  frames = ap length is.frames ∙ length-set m.frames frame _;
  homes = ap (λ (t : TableView). length t.homes) is.table;
  slots = slots-hit _ line m.slots m'.slots is.slots;
  capacity = is.capacity;
}
shape-stored false None true page line from piece position m d access m' d' is = rw is.memory (shape-born m page)
shape-stored false None false page line from piece position m d access m' d' is = rw is.memory (same-shape m)

-- marks were set or cleared
pub shape-marks : (page lines : ℕ) (on : Bool) (m : MemoryView) → SameShape m (marks_set page lines on m)
shape-marks page lines on m = record { frames = refl; homes = refl; slots = refl; capacity = refl }

-- a mark
pub shape-marked : (home : Bool) (page lines : ℕ) (m : MemoryView) (d : DeviceState) (access : Access) (m' : MemoryView)
    (d' : DeviceState) → IsMarkBy home page lines m d access m' d' → SameShape m m'
shape-marked true page lines m d access m' d' is = rw is.memory (shape-marks page lines true m)
shape-marked false page lines m d access m' d' is = rw is.memory (same-shape m)

pub shape-unreferred : (these : ℕ → Bool) (m m' : MemoryView) → IsUnreferred these m m' → SameShape m m'
shape-unreferred these m m' is = record {
  frames = is.size;
  homes = ap (λ (t : TableView). length t.homes) is.table;
  slots = ap length is.slots;
  capacity = is.capacity;
}

pub shape-promoted : (page : ℕ) (m : MemoryView) (d : DeviceState) (m' : MemoryView) (d' : DeviceState)
    → IsPromoted page m d m' d' → SameShape m m'
shape-promoted page m d m' d' is =
    rw is.memory (shape-then m _ _ (shape-frame m is.frame _) (shape-slot _ is.slot _))

pub shape-retreated : (page : ℕ) (m : MemoryView) (d : DeviceState) (m' : MemoryView) (d' : DeviceState)
    → IsRetreated page m d m' d' → SameShape m m'
shape-retreated page m d m' d' is = rw is.memory (shape-slot m is.slot _)

turned-shape : (slot : ℕ) (entry : Option Slot) (m : MemoryView) → SameShape m (turned_by slot entry m)
turned-shape slot None m = same-shape m
turned-shape slot (Some entry) m = shape-then m _ _ (shape-slot m slot _) (shape-home _ entry.page.0 _)

pub shape-turned : (slot : ℕ) (m : MemoryView) → SameShape m (turned_at slot m)
shape-turned slot m = turned-shape slot (slot_at m.slots slot) m

shape-finished : (way : Way) (slot : ℕ) (entry : Slot) (m : MemoryView) → SameShape m (finished_by way slot entry m)
shape-finished Coming slot entry m = shape-then m _ _ (shape-slot m slot _) (shape-home _ entry.page.0 _)
shape-finished Leaving slot entry m =
    shape-then m _ _ (shape-then m _ _ (shape-slot m slot _) (shape-home _ entry.page.0 _)) (shape-frame _ entry.frame _)

shape-landed : (way : Way) (copied : Bool) (slot : ℕ) (entry : Slot) (flight : Flight) (m : MemoryView) (d : DeviceState)
    (what : What) (m' : MemoryView) (d' : DeviceState) → LandsBy way copied slot entry flight m d what m' d' → SameShape m m'
shape-landed Coming true slot entry flight m d what m' d' is = let landed = is.1 in rw landed.memory (shape-slot m slot _)
shape-landed Coming false slot entry flight m d what m' d' is =
    let landed = is.1 in rw landed.memory (shape-then m _ _ (shape-slot m slot _) (shape-frame _ entry.frame _))
shape-landed Leaving copied slot entry flight m d what m' d' is =
    let landed = is.1 in rw landed.memory (shape-then m _ _ (shape-slot m slot _) (shape-frame _ entry.frame _))

shape-other : (what : What) (slot : ℕ) (entry : Slot) (m : MemoryView) (d : DeviceState) (m' : MemoryView) (d' : DeviceState)
    → FinishesOrLifts what slot entry m d m' d' → SameShape m m'
shape-other Finished slot entry m d m' d' is = rw is.memory (shape-finished entry.way slot entry m)
shape-other Lifted slot entry m d m' d' is = rw is.memory (shape-slot m slot _)
shape-other what slot entry m d m' d' is = absurd is

flight-shape : (flight : Option Flight) (slot : ℕ) (entry : Slot) (m : MemoryView) (d : DeviceState) (what : What)
    (m' : MemoryView) (d' : DeviceState) → AdvancesBy flight slot entry m d what m' d' → SameShape m m'
flight-shape None slot entry m d what m' d' is = shape-other what slot entry m d m' d' is
flight-shape (Some flight) slot entry m d what m' d' is =
    shape-landed entry.way (has_line entry.bits flight.line) slot entry flight m d what m' d' is

-- a step of a page in flight
pub shape-advanced : (slot : ℕ) (entry : Option Slot) (m : MemoryView) (d : DeviceState) (what : What) (m' : MemoryView)
    (d' : DeviceState) → Advances slot entry m d what m' d' → SameShape m m'
shape-advanced slot None m d what m' d' is = absurd is
shape-advanced slot (Some entry) m d what m' d' is = flight-shape entry.flight slot entry m d what m' d' is
