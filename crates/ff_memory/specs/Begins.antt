-- When a page may begin to move, and what that does.
use Rattle.std.specs.Prelude.{ℕ, ◌≡◌, ◌<◌, true, length, Option, Some, None}
use Rattle.ff_frames.specs.Frame.{taken_frame}
use Rattle.ff_frames.specs.Frames.{IsLeastFree, IsNoneFree, frame_at}
use Rattle.ff_lines.specs.DeviceState.{DeviceState, IsDrained, IsPinned}
use Rattle.ff_lines.specs.LineMask.{mask_others, no_lines}
use Rattle.ff_plb.specs.Plb.{HasEntry, IsLeastEmpty, IsNoneEmpty, slot_at}
use Rattle.ff_plb.specs.Slot.{after_turn}
use Rattle.ff_plb.specs.declared.slot.Slot.{Slot}
use Rattle.ff_plb.specs.declared.slot.Way.TheVariants.{Coming, Leaving}
use Rattle.ff_table.specs.Table.{marks_of}
use Rattle.ff_table.specs.declared.table.Home.TheVariants.{Ssd, Host}
use Rattle.ff_memory.specs.Memory.{MemoryView, entry_at, frame_set, home_at, home_set, numbered, slot_set}

-- a page may begin to come: it is home and resident, no line of it is marked, and a frame and a slot are free
pub record CanPromote (m : MemoryView) (d : DeviceState) (page : ℕ) : Type 0 where
  pub in_range : page < length m.table.homes
  pub home : home_at m page ≡ Ssd
  pub at_rest : entry_at m page ≡ None
  pub unmarked : marks_of m.table page ≡ 0
  pub resident : d.resident page ≡ true
  pub some_frame : IsNoneFree m.frames → ⊥
  pub some_slot : IsNoneEmpty m.slots → ⊥

-- a page may begin to leave: it is at rest in a frame and resident, and a slot is free
pub record CanRetreat (m : MemoryView) (d : DeviceState) (page : ℕ) : Type 0 where
  pub in_range : page < length m.table.homes
  pub frame : ℕ
  pub home : home_at m page ≡ Host frame
  pub at_rest : entry_at m page ≡ None
  pub resident : d.resident page ≡ true
  pub some_slot : IsNoneEmpty m.slots → ⊥

-- the window was drained, and a page was pinned
pub record IsDrainedAndPinned (page : ℕ) (d d' : DeviceState) : Type 0 where
  pub mid : DeviceState
  pub drained : IsDrained d mid
  pub pinned : IsPinned page true mid d'

-- a page began to come: it has the least free frame and the least empty slot, and no line is copied or dirty
pub record IsPromoted (page : ℕ) (m : MemoryView) (d : DeviceState) (m' : MemoryView)
    (d' : DeviceState) : Type 0 where
  pub frame : ℕ
  pub slot : ℕ
  pub least_frame : IsLeastFree m.frames frame
  pub least_slot : IsLeastEmpty m.slots slot
  pub memory : m' ≡ slot_set slot
      (Some (record {
        page = numbered page;
        frame = frame;
        way = Coming;
        bits = no_lines;
        flight = None;
      }))
      (frame_set frame (taken_frame (numbered page)) m)
  pub device : IsDrainedAndPinned page d d'

-- a page began to leave its frame: it has the least empty slot, and the lines that aren't dirty count as copied
pub record IsRetreated (page : ℕ) (m : MemoryView) (d : DeviceState) (m' : MemoryView)
    (d' : DeviceState) : Type 0 where
  pub frame : ℕ
  pub slot : ℕ
  pub home : home_at m page ≡ Host frame
  pub least_slot : IsLeastEmpty m.slots slot
  pub memory : m' ≡ slot_set slot
      (Some (record {
        page = numbered page;
        frame = frame;
        way = Leaving;
        bits = mask_others (frame_at m.frames frame).dirty;
        flight = None;
      }))
      m
  pub device : IsPinned page true d d'

-- the slot has a coming page's entry, whose page and frame there are
pub record IsComingSlot (m : MemoryView) (slot : ℕ) : Type 0 where
  pub entry : Slot
  pub has : HasEntry m.slots slot entry
  pub way : entry.way ≡ Coming
  pub page : entry.page.0 < length m.table.homes
  pub frame : entry.frame < length m.frames

-- the memory after a page with this entry turned back: it leaves its frame, which is its home
abbrev pub turned_by : ℕ → Option Slot → MemoryView → MemoryView
turned_by slot None m = m
turned_by slot (Some entry) m =
    home_set entry.page.0 (Host entry.frame)
    (slot_set slot (Some (after_turn (frame_at m.frames entry.frame).dirty entry)) m)

-- the memory after the page of a slot turned back
abbrev pub turned_at : ℕ → MemoryView → MemoryView
turned_at slot m = turned_by slot (slot_at m.slots slot) m
