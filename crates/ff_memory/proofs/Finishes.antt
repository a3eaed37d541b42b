-- A page in flight whose lines are all copied comes to its new home.
use Rattle.std.proofs.Common.{◌≡◌, ◌≢◌, ℕ, ◌<◌, ◌==◌, Bool, true, false, List, length, get_or, set, Option, None, Some, inl, inr, refl, sym, ap, ◌∙◌, length-set}
use Rattle.std.proofs.lemmas.Bool.{cases_eq, eq-eqb, ne_eqb}
use Rattle.std.proofs.lemmas.List.{get_or-set_same, get_or-set_other}
use Rattle.std.proofs.lemmas.Option.{none-some, same_Some}
use Rattle.ff_frames.specs.Frame.{free_frame, given_frame}
use Rattle.ff_frames.specs.Frames.{frame_at}
use Rattle.ff_frames.specs.declared.frame.Frame.{Frame}
use Rattle.ff_lines.specs.DeviceState.{DeviceState, IsPinned}
use Rattle.ff_lines.specs.LineMask.{HasEveryLine, has_line}
use Rattle.ff_lines.specs.Posts.{waits_in}
use Rattle.ff_lines.proofs.DeviceLines.{line_at-pinned}
use Rattle.ff_memory.specs.Advances.{IsFinished, finished_by}
use Rattle.ff_memory.specs.Memory.{MemoryView, entry_at, home_at, numbered}
use Rattle.ff_memory.specs.LineBytes.{Holds}
use Rattle.ff_plb.specs.Plb.{entry_if, entry_of, slot_at}
use Rattle.ff_plb.specs.declared.slot.Slot.{Slot}
use Rattle.ff_plb.specs.declared.slot.Way.{Way}
use Rattle.ff_plb.specs.declared.slot.Way.TheVariants.{Coming, Leaving}
use Rattle.ff_plb.proofs.Entries.{entry-gone, entry-other, entry_if-other}
use Rattle.ff_table.specs.declared.table.Home.{Home}
use Rattle.ff_table.specs.declared.table.Home.TheVariants.{Ssd, Host}
use Rattle.ff_memory.proofs.FlightMoves.{line-before}
use Rattle.ff_memory.proofs.Flights.{IsEntryOf, as-coming, entry-is, flies, held-within, page-within}
use Rattle.ff_memory.proofs.Lifts.{KeepsLinesOf}
use Rattle.ff_memory.proofs.Sites.{SameAt, one-page}

-- a device of which a page was pinned or let go
pub pinned-same : (p : ℕ) (on : Bool) (d d' : DeviceState) (q : ℕ) → IsPinned p on d d' → SameAt d d' q
pinned-same p on d d' q is = record {
  lines = λ j. line_at-pinned p on d d' q j is;
  idle = λ idle. ap (λ posts. waits_in posts q) is.lines.posts ∙ idle;
  resident = λ pinned resident. is.residence.resident q ∙ resident;
}

pub pinned-here : (p : ℕ) (on : Bool) (d d' : DeviceState) → IsPinned p on d d' → d'.pinned p ≡ on
pinned-here p on d d' is = let test : (p == p) ≡ true = eq-eqb p p refl in is.pinned p ∙ rw test refl

pub pinned-other : (p : ℕ) (on : Bool) (d d' : DeviceState) (q : ℕ) → IsPinned p on d d' → q ≢ p → d'.pinned q ≡ d.pinned q
pinned-other p on d d' q is other = let test : (q == p) ≡ false = ne_eqb q p other in is.pinned q ∙ rw test refl

-- the entries after one was closed
entries-closed : (slots : List (Option Slot)) (k : ℕ) (s : Slot) → slot_at slots k ≡ Some s
    → (q : ℕ) → q ≢ s.page.0 → entry_of (set slots k None) q ≡ entry_of slots q
entries-closed slots k s there q other =
    let apart : s.page.0 ≢ q = λ e. other (sym e) in
    entry-other slots k None q refl (ap (λ (x : Option Slot). entry_if x q) there ∙ entry_if-other s q apart)

-- a home that was set
pub home-here : (homes : List Home) (p : ℕ) (home : Home) → p < length homes → get_or (set homes p home) p Ssd ≡ home
home-here homes p home within = get_or-set_same homes p home Ssd within

pub home-other : (homes : List Home) (p q : ℕ) (home : Home) → q ≢ p → get_or (set homes p home) q Ssd ≡ get_or homes q Ssd
home-other homes p q home other = get_or-set_other homes p q home Ssd other

-- a coming page is at home in its frame
finished_coming-keeps : (m : MemoryView) (d : DeviceState) (k : ℕ) (s : Slot) (d' : DeviceState) → IsEntryOf m d k s → s.way ≡ Coming
    → HasEveryLine s.bits → IsPinned s.page.0 false d d' → KeepsLinesOf s.page.0 s.frame m d (finished_by Coming k s m) d'
finished_coming-keeps m d k s d' e way all is =
    let p = s.page.0 in
    let frame : Frame = frame_at m.frames s.frame in
    let fl = flies m d k s e in
    let coming = as-coming s.way frame d p (home_at m p) s way fl.by_way in
    let before = entry-is m d k s e in
    let within = page-within m d k s e in
    let next : MemoryView = finished_by Coming k s m in
    let home : home_at next p ≡ Host s.frame = home-here m.table.homes p (Host s.frame) within in
    let gone : entry_at next p ≡ None = entry-gone m.slots k s e.sound.pages_apart e.has.in_range e.has.there in
    record {
      move = record {
        homes = λ q other. home-other m.table.homes p q (Host s.frame) other;
        entries = λ q other. entries-closed m.slots k s e.has.there q other;
        frames = λ g other. refl;
        owner = λ q holds. one-page m.frames s.frame p q fl.holds holds;
        new_owner = λ q holds. one-page m.frames s.frame p q fl.holds holds;
        device = λ q other. pinned-same p false d d' q is;
        pins = λ q other. pinned-other p false d d' q is other;
        site = rw (home, gone) (
          fl.holds,
          λ j low clean. coming.clean j low clean (all j low) ∙ sym (line_at-pinned p false d d' p j is),
        );
        used = λ g holds. rw (home, gone) (rw before at (e.located.used g p holds));
        pin = rw gone (pinned-here p false d d' is);
        dirty_born = λ j low holds dirty. e.located.accounts.dirty_born s.frame p j low holds dirty;
        written_born = λ q written. e.located.accounts.written_born q (sym (is.written q) ∙ written);
        born_more = λ q b. b;
        few_born = e.located.accounts.few_born;
        room = is.residence.sizes.room ∙ e.located.accounts.room;
        pages = is.residence.sizes.pages ∙ e.located.accounts.pages ∙ sym (length-set m.table.homes p (Host s.frame));
        marks = λ q. refl;
        unmarked = λ marked. absurd (none-some s.frame (sym (rw before at (e.located.accounts.marked_home p marked))));
      };
      lines = λ j low.
          let copied : has_line s.bits j ≡ true = all j low in
          let old = line-before m d k s j e in
          rw (home, gone) (sym (old ∙ rw (way, copied) refl));
    }

-- a leaving page is at home on the SSD, and its frame is free
finished_leaving-keeps : (m : MemoryView) (d : DeviceState) (k : ℕ) (s : Slot) (d' : DeviceState) → IsEntryOf m d k s → s.way ≡ Leaving
    → HasEveryLine s.bits → IsPinned s.page.0 false d d' → KeepsLinesOf s.page.0 s.frame m d (finished_by Leaving k s m) d'
finished_leaving-keeps m d k s d' e way all is =
    let p = s.page.0 in
    let frame : Frame = frame_at m.frames s.frame in
    let fl = flies m d k s e in
    let before = entry-is m d k s e in
    let within = page-within m d k s e in
    let in_frames = held-within m.frames s.frame p fl.holds in
    let next : MemoryView = finished_by Leaving k s m in
    let home : home_at next p ≡ Ssd = home-here m.table.homes p Ssd within in
    let gone : entry_at next p ≡ None = entry-gone m.slots k s e.sound.pages_apart e.has.in_range e.has.there in
    let now : frame_at next.frames s.frame ≡ given_frame frame = get_or-set_same m.frames s.frame (given_frame frame) free_frame in_frames in
    let free : (q : ℕ) → Holds next.frames s.frame q → ⊥ =
    λ q holds. none-some (numbered q) (sym (ap (λ (f : Frame). f.page) now) ∙ holds) in
    let others : (g : ℕ) → g ≢ s.frame → frame_at next.frames g ≡ frame_at m.frames g =
    λ g other. get_or-set_other m.frames s.frame g (given_frame frame) free_frame other in
    record {
      move = record {
        homes = λ q other. home-other m.table.homes p q Ssd other;
        entries = λ q other. entries-closed m.slots k s e.has.there q other;
        frames = others;
        owner = λ q holds. one-page m.frames s.frame p q fl.holds holds;
        new_owner = λ q holds. absurd (free q holds);
        device = λ q other. pinned-same p false d d' q is;
        pins = λ q other. pinned-other p false d d' q is other;
        site = rw (home, gone) tt;
        used = λ g holds. elim (cases_eq g s.frame) [
          | inl same ↦ absurd (free p (ap (λ (i : ℕ). (frame_at next.frames i).page) (sym same) ∙ holds))
          | inr other ↦
              let held = ap (λ (f : Frame). f.page) (sym (others g other)) ∙ holds in
              let there : Some s.frame ≡ Some g = rw before at (e.located.used g p held) in
              absurd (other (sym (same_Some s.frame g there)))
        ];
        pin = rw gone (pinned-here p false d d' is);
        dirty_born = λ j low holds dirty. absurd (free p holds);
        written_born = λ q written. e.located.accounts.written_born q (sym (is.written q) ∙ written);
        born_more = λ q b. b;
        few_born = e.located.accounts.few_born;
        room = is.residence.sizes.room ∙ e.located.accounts.room;
        pages = is.residence.sizes.pages ∙ e.located.accounts.pages ∙ sym (length-set m.table.homes p Ssd);
        marks = λ q. refl;
        unmarked = λ marked. absurd (none-some s.frame (sym (rw before at (e.located.accounts.marked_home p marked))));
      };
      lines = λ j low.
          let copied : has_line s.bits j ≡ true = all j low in
          let old = line-before m d k s j e in
          rw (home, gone) (line_at-pinned p false d d' p j is ∙ sym (old ∙ rw (way, copied) refl));
    }

finished-by : (way : Way) (m : MemoryView) (d : DeviceState) (k : ℕ) (s : Slot) (d' : DeviceState) → IsEntryOf m d k s → s.way ≡ way
    → HasEveryLine s.bits → IsPinned s.page.0 false d d' → KeepsLinesOf s.page.0 s.frame m d (finished_by way k s m) d'
finished-by Coming m d k s d' e way all is = finished_coming-keeps m d k s d' e way all is
finished-by Leaving m d k s d' e way all is = finished_leaving-keeps m d k s d' e way all is

pub finished-keeps : (m : MemoryView) (d : DeviceState) (k : ℕ) (s : Slot) (m' : MemoryView) (d' : DeviceState) → IsEntryOf m d k s
    → IsFinished k s m d m' d' → KeepsLinesOf s.page.0 s.frame m d m' d'
finished-keeps m d k s m' d' e is = rw is.memory (finished-by s.way m d k s d' e refl is.all is.device)
