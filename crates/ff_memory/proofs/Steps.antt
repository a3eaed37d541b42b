-- Every step of a page in flight keeps the facts and every line.
use Rattle.std.proofs.Common.{◌≡◌, ℕ, Bool, true, false, Option, None, Some, refl}
use Rattle.ff_lines.specs.DeviceState.{DeviceState}
use Rattle.ff_lines.specs.LineMask.{has_line}
use Rattle.ff_memory.specs.Advances.{AdvancesBy, FinishesOrLifts, LandsBy}
use Rattle.ff_memory.specs.Located.{IsLocated}
use Rattle.ff_memory.specs.Memory.{MemoryView}
use Rattle.ff_memory.specs.LineBytes.{SameLineBytes}
use Rattle.ff_memory.specs.declared.access.What.{What}
use Rattle.ff_memory.specs.declared.access.What.TheVariants.{Finished, Landed, Dropped, Lifted, Started, Worked, Drained, Sealed, Collected}
use Rattle.ff_plb.specs.declared.slot.Flight.{Flight}
use Rattle.ff_plb.specs.declared.slot.Slot.{Slot}
use Rattle.ff_plb.specs.declared.slot.Way.{Way}
use Rattle.ff_plb.specs.declared.slot.Way.TheVariants.{Coming, Leaving}
use Rattle.ff_memory.proofs.Finishes.{finished-keeps}
use Rattle.ff_memory.proofs.Flights.{IsEntryOf, entry-ready}
use Rattle.ff_memory.proofs.Landings.{landed_in_frame-keeps, landed_on_device-keeps}
use Rattle.ff_memory.proofs.Lifts.{KeepsLinesOf, dropped-keeps, lifted-keeps}
use Rattle.ff_memory.proofs.Moves.{move-located, move-lines}

finishes_or_lifts-keeps : (what : What) (m : MemoryView) (d : DeviceState) (k : ℕ) (s : Slot) (m' : MemoryView) (d' : DeviceState)
    → IsEntryOf m d k s → FinishesOrLifts what k s m d m' d' → KeepsLinesOf s.page.0 s.frame m d m' d'
finishes_or_lifts-keeps Finished m d k s m' d' e is = finished-keeps m d k s m' d' e is
finishes_or_lifts-keeps Lifted m d k s m' d' e is = lifted-keeps m d k s m' d' e is
finishes_or_lifts-keeps Landed m d k s m' d' e is = absurd is
finishes_or_lifts-keeps Dropped m d k s m' d' e is = absurd is
finishes_or_lifts-keeps Started m d k s m' d' e is = absurd is
finishes_or_lifts-keeps Worked m d k s m' d' e is = absurd is
finishes_or_lifts-keeps Drained m d k s m' d' e is = absurd is
finishes_or_lifts-keeps Sealed m d k s m' d' e is = absurd is
finishes_or_lifts-keeps Collected m d k s m' d' e is = absurd is

lands-keeps : (way : Way) (copied : Bool) (what : What) (m : MemoryView) (d : DeviceState) (k : ℕ) (s : Slot) (flight : Flight)
    (m' : MemoryView) (d' : DeviceState) → IsEntryOf m d k s → s.way ≡ way → has_line s.bits flight.line ≡ copied
    → s.flight ≡ Some flight → LandsBy way copied k s flight m d what m' d' → KeepsLinesOf s.page.0 s.frame m d m' d'
lands-keeps Coming true what m d k s flight m' d' e way copied flying is =
    dropped-keeps m d k s flight m' d' e way flying ((entry-ready m d k s e).line flight flying) copied is.1
lands-keeps Coming false what m d k s flight m' d' e way copied flying is =
    landed_in_frame-keeps m d k s flight m' d' e way flying ((entry-ready m d k s e).line flight flying) copied is.1
lands-keeps Leaving copied what m d k s flight m' d' e way bit flying is =
    landed_on_device-keeps m d k s flight m' d' e way flying is.1

advances-keeps : (flight : Option Flight) (what : What) (m : MemoryView) (d : DeviceState) (k : ℕ) (s : Slot) (m' : MemoryView) (d' : DeviceState)
    → IsEntryOf m d k s → s.flight ≡ flight → AdvancesBy flight k s m d what m' d' → KeepsLinesOf s.page.0 s.frame m d m' d'
advances-keeps None what m d k s m' d' e flying is = finishes_or_lifts-keeps what m d k s m' d' e is
advances-keeps (Some flight) what m d k s m' d' e flying is =
    lands-keeps s.way (has_line s.bits flight.line) what m d k s flight m' d' e refl refl flying is

pub advanced-located : (what : What) (m : MemoryView) (d : DeviceState) (k : ℕ) (s : Slot) (m' : MemoryView) (d' : DeviceState)
    → IsEntryOf m d k s → AdvancesBy s.flight k s m d what m' d' → IsLocated m' d'
advanced-located what m d k s m' d' e is =
    let keeps = advances-keeps s.flight what m d k s m' d' e refl is in
    move-located s.page.0 s.frame m d m' d' e.located keeps.move

pub advanced-lines : (what : What) (m : MemoryView) (d : DeviceState) (k : ℕ) (s : Slot) (m' : MemoryView) (d' : DeviceState)
    → IsEntryOf m d k s → AdvancesBy s.flight k s m d what m' d' → SameLineBytes m d m' d'
advanced-lines what m d k s m' d' e is =
    let keeps = advances-keeps s.flight what m d k s m' d' e refl is in
    move-lines s.page.0 s.frame m d m' d' e.located keeps.move keeps.lines
