-- What a contract sees of a memory, and the changes of which its steps are made.
use Rattle.std.specs.Prelude.{ℕ, Bool, List, Option, None, replicate}
use Rattle.ff_base.specs.declared.numbers.PageNo.{PageNo}
use Rattle.ff_frames.specs.Frame.{free_frame}
use Rattle.ff_frames.specs.Frames.{AreFramesSound, frame_at, with_frame}
use Rattle.ff_frames.specs.declared.frame.Frame.{Frame}
use Rattle.ff_plb.specs.Plb.{ArePagesApart, entry_of, with_slot}
use Rattle.ff_plb.specs.declared.slot.Slot.{Slot}
use Rattle.ff_table.specs.Table.{TableView, IsTableSound, fresh_table, home_of, with_born, with_home, with_marks}
use Rattle.ff_table.specs.declared.table.Home.{Home}

-- the frames, the page table, the slots of the look-aside buffer, and how many pages may be born
pub record MemoryView : Type 0 where
  pub frames : List Frame
  pub table : TableView
  pub slots : List (Option Slot)
  pub capacity : ℕ

-- what the parts of a memory keep
pub record IsMemorySound (m : MemoryView) : Type 0 where
  pub frames_sound : AreFramesSound m.frames
  pub table_sound : IsTableSound m.table
  pub pages_apart : ArePagesApart m.slots

-- a memory in which every frame is free, every page is at home on the SSD and none is born
abbrev pub fresh_memory : ℕ → ℕ → List ℕ → ℕ → ℕ → MemoryView
fresh_memory frames pages marks slots capacity =
    record {
      frames = replicate frames free_frame;
      table = fresh_table pages marks;
      slots = replicate slots None;
      capacity = capacity;
    }

-- the page of a number
abbrev pub numbered : ℕ → PageNo
numbered page = record { 0 = page }

-- where a page is at home
abbrev pub home_at : MemoryView → ℕ → Home
home_at m page = home_of m.table page

-- the entry of a page
abbrev pub entry_at : MemoryView → ℕ → Option Slot
entry_at m page = entry_of m.slots page

-- the memory with a frame changed
abbrev pub frame_set : ℕ → (Frame → Frame) → MemoryView → MemoryView
frame_set frame change m =
    record m { frames = with_frame m.frames frame (change (frame_at m.frames frame)) }

-- the memory with a slot of the buffer changed
abbrev pub slot_set : ℕ → Option Slot → MemoryView → MemoryView
slot_set slot entry m = record m { slots = with_slot m.slots slot entry }

-- the memory with a page's home changed
abbrev pub home_set : ℕ → Home → MemoryView → MemoryView
home_set page home m = record m { table = with_home page home m.table }

-- the memory with a page born
abbrev pub born_set : ℕ → MemoryView → MemoryView
born_set page m = record m { table = with_born page m.table }

-- the memory with lines of a page marked, or with their marks cleared
abbrev pub marks_set : ℕ → ℕ → Bool → MemoryView → MemoryView
marks_set page lines on m = record m { table = with_marks page lines on m.table }
