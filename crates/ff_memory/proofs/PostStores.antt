-- A store that is posted keeps the facts, and changes its line alone; and every store does what its answer says.
use Rattle.std.proofs.Common.{◌≡◌, ℕ, Bool, true, false, List, length, Option, None, Some, refl, sym, ap, ◌∙◌, arith}
use Rattle.std.proofs.lemmas.Option.{none-some, same_Some}
use Rattle.ff_frames.specs.Frames.{frame_at}
use Rattle.ff_frames.specs.declared.frame.Frame.{Frame}
use Rattle.ff_lines.specs.DeviceState.{DeviceState, IsPosted, line_at}
use Rattle.ff_lines.specs.LineMask.{has_line}
use Rattle.ff_lines.specs.Overlay.{overlaid}
use Rattle.ff_lines.specs.declared.post.Post.{Post}
use Rattle.ff_memory.specs.Located.{IsFlyingBy, IsLocated, IsSited}
use Rattle.ff_memory.specs.Memory.{MemoryView, born_set, entry_at, home_at, numbered}
use Rattle.ff_memory.specs.LineBytes.{Holds, frame_for, frame_in_flight, line_from, serving_frame, store_frame_for, store_in_flight, storing_frame}
use Rattle.ff_memory.specs.Stores.{IsFrameStore, IsStoreBy, IsStoreGiven, StoresBy}
use Rattle.ff_memory.specs.declared.access.Access.{Access}
use Rattle.ff_plb.specs.declared.slot.Slot.{Slot}
use Rattle.ff_plb.specs.declared.slot.Way.{Way}
use Rattle.ff_plb.specs.declared.slot.Way.TheVariants.{Coming, Leaving}
use Rattle.ff_table.specs.declared.table.Home.{Home}
use Rattle.ff_table.specs.declared.table.Home.TheVariants.{Ssd, Host}
use Rattle.ff_memory.proofs.Flights.{held-within}
use Rattle.ff_memory.proofs.Landings.{posted-line_here, posted-line_other, posted-same}
use Rattle.ff_memory.proofs.Moves.{IsMove}
use Rattle.ff_memory.proofs.Rooms.{born-more, born-now, few-born, with-born}
use Rattle.ff_memory.proofs.StoreMoves.{StoresLine, flight-stores, rest-stores, stores-line}

flies_posted : (way : Way) (frame : Frame) (d d' : DeviceState) (p : ℕ) (home : Home) (s : Slot) (b : Bool)
    → store_in_flight way s.frame b ≡ None → IsFlyingBy way frame d p home s → IsFlyingBy way frame d' p home s
flies_posted Coming frame d d' p home s b goes is = absurd (none-some s.frame (sym goes))
flies_posted Leaving frame d d' p home s b goes is = is

-- the facts of a page to whose line a store was posted
sited-posted : (frames : List Frame) (d d' : DeviceState) (p line : ℕ) (home : Home) (entry : Option Slot)
    → store_frame_for home entry line ≡ None → (d.resident p ≡ true → d'.resident p ≡ true) → IsSited frames d p home entry
    → IsSited frames d' p home entry
sited-posted frames d d' p line Ssd None goes resident is = tt
sited-posted frames d d' p line (Host f) None goes resident is = absurd (none-some f (sym goes))
sited-posted frames d d' p line home (Some s) goes resident is = record {
  holds = is.holds;
  resident = resident is.resident;
  by_way = flies_posted s.way (frame_at frames s.frame) d d' p home s (has_line s.bits line) goes is.by_way;
}

flight_device : (way : Way) (f : ℕ) (b : Bool) → store_in_flight way f b ≡ None → frame_in_flight way f b ≡ None
flight_device Coming f b goes = absurd (none-some f (sym goes))
flight_device Leaving f true goes = refl
flight_device Leaving f false goes = absurd (none-some f (sym goes))

-- the device serves a line to which stores are posted
posted-serving : (home : Home) (entry : Option Slot) (line : ℕ) → store_frame_for home entry line ≡ None → frame_for home entry line ≡ None
posted-serving home None line goes = goes
posted-serving home (Some s) line goes = flight_device s.way s.frame (has_line s.bits line) goes

line_posted : (frames : List Frame) (d d' : DeviceState) (p j : ℕ) (from : Option ℕ) → line_at d' p j ≡ line_at d p j
    → line_from frames d' p j from ≡ line_from frames d p j from
line_posted frames d d' p j None same = same
line_posted frames d d' p j (Some f) same = refl

device-stores : (p line from : ℕ) (piece : List ℕ) (position : ℕ) (m : MemoryView) (d d' : DeviceState) → IsStoreGiven p line from piece m d
    → storing_frame m p line ≡ None
    → IsPosted (record { page = numbered p; line = line; from = from; bytes = piece; position = Some position }) d d'
    → StoresLine p (length m.frames) line from piece m d (born_set p m) d'
device-stores p line from piece position m d d' given goes is =
    let post : Post = record { page = numbered p; line = line; from = from; bytes = piece; position = Some position } in
    let table = given.sound.table_sound in
    let located = given.located in
    let none_holds : (q : ℕ) → Holds m.frames (length m.frames) q → q ≡ p =
    λ q holds. absurd (let within = held-within m.frames (length m.frames) q holds in omega arith) in
    let move : IsMove p (length m.frames) m d (born_set p m) d' = record {
      homes = λ q other. refl;
      entries = λ q other. refl;
      frames = λ g other. refl;
      owner = none_holds;
      new_owner = none_holds;
      device = λ q other. posted-same post d d' q is other;
      pins = λ q other. is.pinned q;
      site =
          sited-posted m.frames d d' p line (home_at m p) (entry_at m p) goes (λ resident. is.residence.resident p ∙ resident)
          (located.sites p);
      used = λ g holds. located.used g p holds;
      pin = is.pinned p ∙ located.pins p;
      dirty_born = λ j low holds dirty. born-now m.table p table given.within;
      written_born = λ q written. with-born m d p q table located given.within (sym (is.written q) ∙ written);
      born_more = λ q born. born-more m.table p q table given.within born;
      few_born = few-born m d p table located given.within given.allowed;
      room = is.residence.sizes.room ∙ located.accounts.room;
      pages = is.residence.sizes.pages ∙ located.accounts.pages;
      marks = λ q. refl;
      unmarked = located.accounts.marked_home p;
    } in
    let serving : serving_frame m p line ≡ None = posted-serving (home_at m p) (entry_at m p) line goes in
    let here : line_from m.frames d' p line (serving_frame m p line) ≡ overlaid (line_from m.frames d p line (serving_frame m p line)) from piece =
    rw serving (posted-line_here post d d' is) in
    stores-line p (length m.frames) line from piece m d (born_set p m) d' located move here
    (λ j low other. line_posted m.frames d d' p j (serving_frame m p j) (posted-line_other post d d' p j is (λ same. other)))

-- what is left of a store: the facts, and what its answer says of the lines
pub record KeepsStore (access : Access) (page line from : ℕ) (piece : List ℕ) (m : MemoryView) (d : DeviceState) (m' : MemoryView) (d' : DeviceState) : Type 0 where
  pub located : IsLocated m' d'
  pub stored : StoresBy access page line from piece m d m' d'

frame-stores : (home : Home) (entry : Option Slot) (f p line from : ℕ) (piece : List ℕ) (m : MemoryView) (d : DeviceState) (access : Access)
    (m' : MemoryView) (d' : DeviceState) → IsStoreGiven p line from piece m d → home_at m p ≡ home → entry_at m p ≡ entry
    → store_frame_for home entry line ≡ Some f → IsFrameStore f p line from piece m d access m' d' → StoresLine p f line from piece m d m' d'
frame-stores Ssd None f p line from piece m d access m' d' given home none goes is = absurd (none-some f goes)
frame-stores (Host at) None f p line from piece m d access m' d' given home none goes is =
    rest-stores f p line from piece m d access m' d' given (home ∙ ap Host (same_Some at f goes)) none is
frame-stores home (Some s) f p line from piece m d access m' d' given home_is some goes is =
    flight-stores f p line from piece m d access m' d' s given some goes is

pub store-keeps : (to : Option ℕ) (resident : Bool) (p line from : ℕ) (piece : List ℕ) (position : ℕ) (m : MemoryView) (d : DeviceState)
    (access : Access) (m' : MemoryView) (d' : DeviceState) → IsStoreGiven p line from piece m d → storing_frame m p line ≡ to
    → IsStoreBy false to resident p line from piece position m d access m' d' → KeepsStore access p line from piece m d m' d'
store-keeps (Some f) resident p line from piece position m d access m' d' given goes is =
    let stores = frame-stores (home_at m p) (entry_at m p) f p line from piece m d access m' d' given refl refl goes is in
    record { located = stores.located; stored = rw is.access_is stores.stored }
store-keeps None true p line from piece position m d access m' d' given goes is =
    let stores = device-stores p line from piece position m d d' given goes is.device in
    rw (is.memory, is.access_is) record { located = stores.located; stored = stores.stored }
store-keeps None false p line from piece position m d access m' d' given goes is =
    rw (is.memory, is.device, is.access_is) record { located = given.located; stored = λ page j low. refl }
