-- A page at rest in a frame: its home is that frame, and it may leave where it is resident and a slot is free.
use Rattle.std.proofs.Common.{◌≡◌, ℕ, ◌<◌, true, length, None, Some, inl, inr, ap}
use Rattle.std.proofs.lemmas.Bool.{cases_lt}
use Rattle.std.proofs.lemmas.List.{get_or_past}
use Rattle.std.proofs.lemmas.Option.{none-some, same_Some}
use Rattle.ff_lines.specs.DeviceState.{DeviceState}
use Rattle.ff_plb.specs.Plb.{IsNoneEmpty}
use Rattle.ff_table.specs.declared.table.Home.{Home}
use Rattle.ff_table.specs.declared.table.Home.TheVariants.{Ssd, Host}
use Rattle.ff_memory.specs.Begins.{CanRetreat}
use Rattle.ff_memory.specs.Located.{IsLocated}
use Rattle.ff_memory.specs.Memory.{MemoryView, entry_at, home_at}
use Rattle.ff_memory.specs.LineBytes.{Holds, frame_of_home}

home-is : (home : Home) (frame : ℕ) → frame_of_home home ≡ Some frame → home ≡ Host frame
home-is Ssd frame is = absurd (none-some frame is)
home-is (Host at) frame is = ap Host (same_Some at frame is)

-- a frame that holds a page without an entry is the page's home
pub resting-home : (m : MemoryView) (d : DeviceState) (frame page : ℕ) → IsLocated m d → Holds m.frames frame page
    → entry_at m page ≡ None → home_at m page ≡ Host frame
resting-home m d frame page located holds rests =
    home-is (home_at m page) frame (rw rests at (located.used frame page holds))

not-host : (home : Home) (frame : ℕ) → home ≡ Host frame → home ≡ Ssd → ⊥
not-host Ssd frame host ssd = cc
not-host (Host at) frame host ssd = cc

-- a page whose home is a frame is one of the pages
pub home-within : (m : MemoryView) (page frame : ℕ) → home_at m page ≡ Host frame → page < length m.table.homes
home-within m page frame is = elim (cases_lt page (length m.table.homes)) [
  | inl within ↦ within
  | inr past ↦ absurd (not-host (home_at m page) frame is (get_or_past m.table.homes page Ssd past))
]

pub can-retreat : (m : MemoryView) (d : DeviceState) (frame page : ℕ) → IsLocated m d → Holds m.frames frame page
    → entry_at m page ≡ None → d.resident page ≡ true → (IsNoneEmpty m.slots → ⊥) → CanRetreat m d page
can-retreat m d frame page located holds rests resident slot =
    let home = resting-home m d frame page located holds rests in
    record {
      in_range = home-within m page frame home;
      frame = frame;
      home = home;
      at_rest = rests;
      resident = resident;
      some_slot = slot;
    }
