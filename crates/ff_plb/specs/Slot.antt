-- One entry of the buffer, and what each call makes of it.
use Rattle.std.specs.Prelude.{ℕ, ◌≡◌, ◌<◌, ◌==◌, Option, Some, None, if◌then◌else◌}
use Rattle.ff_base.specs.declared.numbers.TheConstants.{PAGE_LINES}
use Rattle.ff_lines.specs.LineMask.{has_line, mask_with, mask_others}
use Rattle.ff_lines.specs.declared.line_mask.LineMask.{LineMask}
use Rattle.ff_plb.specs.declared.slot.Flight.{Flight}
use Rattle.ff_plb.specs.declared.slot.Landing.{Landing}
use Rattle.ff_plb.specs.declared.slot.Landing.TheVariants.{Landed, Dropped}
use Rattle.ff_plb.specs.declared.slot.Slot.{Slot}
use Rattle.ff_plb.specs.declared.slot.Way.{Way}
use Rattle.ff_plb.specs.declared.slot.Way.TheVariants.{Coming, Leaving}

-- the entry with a line under way
abbrev pub after_lift : Flight → Slot → Slot
after_lift flight entry = record entry { flight = Some flight }

-- what becomes of a flight: it is dropped where its line's bit is set
abbrev pub landing_of : Flight → Slot → Landing
landing_of flight entry = if has_line entry.bits flight.line then Dropped else Landed flight

-- an entry after this flight's end: the line's bit is set
abbrev pub landed_with : Option Flight → Slot → Slot
landed_with None entry = entry
landed_with (Some flight) entry =
    record entry { bits = mask_with entry.bits flight.line; flight = None }

-- an entry after its flight's end
abbrev pub after_landing : Slot → Slot
after_landing entry = landed_with entry.flight entry

-- a line of the page is under way
pub record IsFlying (entry : Slot) : Type 0 where
  pub flight : Flight
  pub is : entry.flight ≡ Some flight
  pub in_page : flight.line < PAGE_LINES

-- a flight, unless it is of this line
abbrev pub without_line : ℕ → Option Flight → Option Flight
without_line line None = None
without_line line (Some flight) = if flight.line == line then None else Some flight

-- the mask of an entry after a store to a line: a coming page's line counts as copied
abbrev pub bits_after_store : Way → ℕ → LineMask → LineMask
bits_after_store Coming line bits = mask_with bits line
bits_after_store Leaving line bits = bits

-- the flight of an entry after a store to a line: a leaving page's flight of it is cancelled
abbrev pub flight_after_store : Way → ℕ → Option Flight → Option Flight
flight_after_store Coming line flight = flight
flight_after_store Leaving line flight = without_line line flight

-- the entry after a store to a line that its frame served
abbrev pub after_store : ℕ → Slot → Slot
after_store line entry =
    record entry {
      bits = bits_after_store entry.way line entry.bits;
      flight = flight_after_store entry.way line entry.flight;
    }

-- a coming page that turns back: its flight is given up, and the lines that aren't dirty count as copied
abbrev pub after_turn : LineMask → Slot → Slot
after_turn dirty entry = record entry { way = Leaving; bits = mask_others dirty; flight = None }
