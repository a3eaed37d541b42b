-- The beginnings of migrations keep the facts and every line.
use Rattle.std.proofs.Common.{◌≡◌, ◌≢◌, ℕ, ◌<◌, not, Bool, true, false, List, length, set, Option, None, Some, inl, inr, refl, sym, ap, ◌∙◌, length-set}
use Rattle.std.proofs.lemmas.Bool.{cases_eq, not-false}
use Rattle.std.proofs.lemmas.List.{get_or-set_same, get_or-set_other}
use Rattle.std.proofs.lemmas.Option.{none-some}
use Rattle.ff_base.specs.Page.{line_of}
use Rattle.ff_base.specs.declared.numbers.PageNo.{PageNo}
use Rattle.ff_frames.specs.Frame.{free_frame, taken_frame}
use Rattle.ff_frames.specs.Frames.{frame_at}
use Rattle.ff_frames.specs.declared.frame.Frame.{Frame}
use Rattle.ff_lines.specs.DeviceState.{DeviceState, line_at}
use Rattle.ff_lines.specs.LineMask.{has_line, mask_others, no_lines}
use Rattle.ff_lines.specs.Posts.{waits_in}
use Rattle.ff_lines.proofs.DeviceLines.{line_at-drained, line_at-pinned, waits-all_drained}
use Rattle.ff_lines.proofs.MaskLines.{has_line-no_lines}
use Rattle.ff_memory.specs.Begins.{CanPromote, CanRetreat, IsDrainedAndPinned, IsPromoted, IsRetreated}
use Rattle.ff_memory.specs.Located.{IsAtRest, IsLocated}
use Rattle.ff_memory.specs.Memory.{IsMemorySound, MemoryView, entry_at, frame_set, home_at, home_set, numbered, slot_set}
use Rattle.ff_memory.specs.LineBytes.{Holds, frame_in_flight, line_from, line_bytes}
use Rattle.ff_plb.specs.Plb.{entry_if, entry_of, slot_at}
use Rattle.ff_plb.specs.Slot.{after_turn}
use Rattle.ff_plb.specs.declared.slot.Slot.{Slot}
use Rattle.ff_plb.specs.declared.slot.Way.TheVariants.{Coming, Leaving}
use Rattle.ff_plb.proofs.Entries.{apart-begin, entry-now, entry-other, entry_if-other}
use Rattle.ff_table.specs.declared.table.Home.TheVariants.{Host}
use Rattle.ff_memory.proofs.Finishes.{home-here, home-other, pinned-here, pinned-other, pinned-same}
use Rattle.ff_memory.proofs.FlightMoves.{IsFlightStep, flight-move, line-after, line-before}
use Rattle.ff_memory.proofs.Flights.{IsEntryOf, as-coming, flies, page-within}
use Rattle.ff_memory.proofs.Lifts.{KeepsLinesOf}
use Rattle.ff_memory.proofs.Sites.{SameAt, one-page, same-device}

begun-entry : (m : MemoryView) (k : ℕ) (t : Slot) → IsMemorySound m → k < length m.slots → entry_at m t.page.0 ≡ None
    → entry_of (set m.slots k (Some t)) t.page.0 ≡ Some t
begun-entry m k t sound within none =
    entry-now m.slots k t within (apart-begin m.slots k t sound.pages_apart within none)

begun-other : (m : MemoryView) (k : ℕ) (t : Slot) → slot_at m.slots k ≡ None → (q : ℕ) → q ≢ t.page.0
    → entry_of (set m.slots k (Some t)) q ≡ entry_of m.slots q
begun-other m k t empty q other =
    entry-other m.slots k (Some t) q (entry_if-other t q (λ e. other (sym e))) (ap (λ (x : Option Slot). entry_if x q) empty)

-- a device whose window was drained and of which a page was pinned
drained_pinned-same : (p : ℕ) (d d' : DeviceState) (q : ℕ) → IsDrainedAndPinned p d d' → SameAt d d' q
drained_pinned-same p d d' q is = record {
  lines = λ j. line_at-pinned p true is.mid d' q j is.pinned ∙ line_at-drained d is.mid q j is.drained;
  idle = λ idle. ap (λ posts. waits_in posts q) is.pinned.lines.posts ∙ waits-all_drained d is.mid q is.drained.lines;
  resident = λ pinned resident. is.pinned.residence.resident q ∙ is.drained.residence.resident q ∙ resident;
}

-- a page begins to come
pub promoted-keeps : (m : MemoryView) (d : DeviceState) (p : ℕ) (m' : MemoryView) (d' : DeviceState) → IsMemorySound m → IsLocated m d
    → CanPromote m d p → (is : IsPromoted p m d m' d') → KeepsLinesOf p is.frame m d m' d'
promoted-keeps m d p m' d' sound located can is =
    let f = is.frame in
    let k = is.slot in
    let page : PageNo = numbered p in
    let old : Frame = frame_at m.frames f in
    let new : Frame = taken_frame page old in
    let t : Slot = record { page = page; frame = f; way = Coming; bits = no_lines; flight = None } in
    let next : MemoryView = slot_set k (Some t) (frame_set f (taken_frame page) m) in
    let in_frames = is.least_frame.free.in_range in
    let now : frame_at next.frames f ≡ new = get_or-set_same m.frames f new free_frame in_frames in
    let others : (g : ℕ) → g ≢ f → frame_at next.frames g ≡ frame_at m.frames g =
    λ g other. get_or-set_other m.frames f g new free_frame other in
    let after : entry_at next p ≡ Some t = begun-entry m k t sound is.least_slot.has.in_range can.at_rest in
    let holds : Holds next.frames f p = ap (λ (x : Frame). x.page) now in
    let none_dirty : (j : ℕ) → has_line (frame_at next.frames f).dirty j ≡ false =
    λ j. ap (λ (x : Frame). has_line x.dirty j) now ∙ has_line-no_lines j in
    rw is.memory record {
      move = record {
        homes = λ q other. refl;
        entries = λ q other. begun-other m k t is.least_slot.has.empty q other;
        frames = others;
        owner = λ q held. absurd (none-some (numbered q) (sym is.least_frame.free.no_page ∙ held));
        new_owner = λ q held. one-page next.frames f p q holds held;
        device = λ q other. drained_pinned-same p d d' q is.device;
        pins = λ q other. pinned-other p true is.device.mid d' q is.device.pinned other ∙ is.device.drained.pinned q;
        site = rw after record {
          holds = holds;
          resident = is.device.pinned.residence.resident p ∙ is.device.drained.residence.resident p ∙ can.resident;
          by_way = record {
            home_is = can.home;
            idle = ap (λ posts. waits_in posts p) is.device.pinned.lines.posts ∙ waits-all_drained d is.device.mid p is.device.drained.lines;
            clean = λ j low clean copied. absurd (let a = has_line-no_lines j in cc);
            copied = λ j low dirty. absurd (let a = none_dirty j in cc);
            flies = tt;
          };
        };
        used = λ g held. rw after (elim (cases_eq g f) [
          | inl same ↦ ap Some (sym same)
          | inr other ↦
              let before = ap (λ (x : Frame). x.page) (sym (others g other)) ∙ held in
              let there = rw (can.home, can.at_rest) at (located.used g p before) in
              absurd (none-some g there)
        ]);
        pin = rw after (pinned-here p true is.device.mid d' is.device.pinned);
        dirty_born = λ j low held dirty. absurd (let a = none_dirty j in cc);
        written_born = λ q written.
            located.accounts.written_born q (sym (is.device.drained.written q) ∙ sym (is.device.pinned.written q) ∙ written);
        born_more = λ q b. b;
        few_born = located.accounts.few_born;
        room = is.device.pinned.residence.sizes.room ∙ is.device.drained.residence.sizes.room ∙ located.accounts.room;
        pages = is.device.pinned.residence.sizes.pages ∙ is.device.drained.residence.sizes.pages ∙ located.accounts.pages;
        marks = λ q. refl;
        unmarked = λ marked. absurd (marked can.unmarked);
      };
      lines = λ j low.
          let bit : has_line no_lines j ≡ false = has_line-no_lines j in
          rw (after, can.home, can.at_rest, bit) ((drained_pinned-same p d d' p is.device).lines j);
    }

-- a line of a page that leaves: it is in the frame where it is dirty, and else on the device
leaving-lines : (b : Bool) (frames : List Frame) (d : DeviceState) (p j f : ℕ) (before : List ℕ)
    → (b ≡ true → line_of (frame_at frames f).bytes j ≡ before) → (b ≡ false → line_at d p j ≡ before)
    → line_from frames d p j (frame_in_flight Leaving f (not b)) ≡ before
leaving-lines true frames d p j f before dirty clean = dirty refl
leaving-lines false frames d p j f before dirty clean = clean refl

-- a page at rest begins to leave
pub retreated-keeps : (m : MemoryView) (d : DeviceState) (p : ℕ) (m' : MemoryView) (d' : DeviceState) → IsMemorySound m → IsLocated m d
    → CanRetreat m d p → (is : IsRetreated p m d m' d')
    → ((line : ℕ) → line < 64 → has_line (mask_others (frame_at m.frames is.frame).dirty) line ≡ not (has_line (frame_at m.frames is.frame).dirty line))
    → KeepsLinesOf p is.frame m d m' d'
retreated-keeps m d p m' d' sound located can is whole =
    let f = is.frame in
    let k = is.slot in
    let frame : Frame = frame_at m.frames f in
    let t : Slot = record { page = numbered p; frame = f; way = Leaving; bits = mask_others frame.dirty; flight = None } in
    let next : MemoryView = slot_set k (Some t) m in
    let rest : IsAtRest m.frames d p (Host f) = rw (is.home, can.at_rest) at (located.sites p) in
    let after : entry_at next p ≡ Some t = begun-entry m k t sound is.least_slot.has.in_range can.at_rest in
    rw is.memory record {
      move = record {
        homes = λ q other. refl;
        entries = λ q other. begun-other m k t is.least_slot.has.empty q other;
        frames = λ g other. refl;
        owner = λ q held. one-page m.frames f p q rest.0 held;
        new_owner = λ q held. one-page m.frames f p q rest.0 held;
        device = λ q other. pinned-same p true d d' q is.device;
        pins = λ q other. pinned-other p true d d' q is.device other;
        site = rw after record {
          holds = rest.0;
          resident = is.device.residence.resident p ∙ can.resident;
          by_way = record {
            home_is = is.home;
            dirty = λ j low clear. not-false (has_line frame.dirty j) (sym (whole j low) ∙ clear);
            flies = tt;
          };
        };
        used = λ g held. rw after (rw (is.home, can.at_rest) at (located.used g p held));
        pin = rw after (pinned-here p true d d' is.device);
        dirty_born = λ j low held dirty. located.accounts.dirty_born f p j low held dirty;
        written_born = λ q written. located.accounts.written_born q (sym (is.device.written q) ∙ written);
        born_more = λ q b. b;
        few_born = located.accounts.few_born;
        room = is.device.residence.sizes.room ∙ located.accounts.room;
        pages = is.device.residence.sizes.pages ∙ located.accounts.pages;
        marks = λ q. refl;
        unmarked = λ marked.
            let home = rw (is.home, can.at_rest) at (located.accounts.marked_home p marked) in absurd (none-some f (sym home));
      };
      lines = λ j low.
          let bit : has_line (mask_others frame.dirty) j ≡ not (has_line frame.dirty j) = whole j low in
          rw (after, is.home, can.at_rest, bit) (
          leaving-lines (has_line frame.dirty j) m.frames d' p j f (line_of frame.bytes j) (λ dirty. refl)
          (λ clean. line_at-pinned p true d d' p j is.device ∙ sym (rest.1 j low clean)));
    }

coming-before : (b : Bool) (frames : List Frame) (d : DeviceState) (p j f : ℕ) (line : List ℕ)
    → (b ≡ true → line_of (frame_at frames f).bytes j ≡ line) → (b ≡ false → line_at d p j ≡ line)
    → line_from frames d p j (frame_in_flight Coming f b) ≡ line
coming-before true frames d p j f line copied clear = copied refl
coming-before false frames d p j f line copied clear = clear refl

-- a coming page turns back
pub turned-keeps : (m : MemoryView) (d : DeviceState) (k : ℕ) (s : Slot) → IsEntryOf m d k s → s.way ≡ Coming
    → ((line : ℕ) → line < 64 → has_line (mask_others (frame_at m.frames s.frame).dirty) line ≡ not (has_line (frame_at m.frames s.frame).dirty line))
    → KeepsLinesOf s.page.0 s.frame m d
    (home_set s.page.0 (Host s.frame) (slot_set k (Some (after_turn (frame_at m.frames s.frame).dirty s)) m)) d
turned-keeps m d k s e way whole =
    let p = s.page.0 in
    let f = s.frame in
    let frame : Frame = frame_at m.frames f in
    let t : Slot = after_turn frame.dirty s in
    let next : MemoryView = home_set p (Host f) (slot_set k (Some t) m) in
    let fl = flies m d k s e in
    let coming = as-coming s.way frame d p (home_at m p) s way fl.by_way in
    let home : home_at next p ≡ Host f = home-here m.table.homes p (Host f) (page-within m d k s e) in
    let step : IsFlightStep m d k s t next d = record {
      entry = e;
      same_page = refl;
      same_frame = refl;
      slots = refl;
      others = λ g other. refl;
      held = refl;
      homes = λ q other. home-other m.table.homes p q (Host f) other;
      device = λ q other. same-device d q;
      pins = λ q. refl;
      resident = fl.resident;
      by_way = record {
        home_is = home;
        dirty = λ j low clear. not-false (has_line frame.dirty j) (sym (whole j low) ∙ clear);
        flies = tt;
      };
      dirty_born = λ j low dirty. e.located.accounts.dirty_born f p j low fl.holds dirty;
      written_born = e.located.accounts.written_born;
      born_more = λ q b. b;
      few_born = e.located.accounts.few_born;
      room = e.located.accounts.room;
      pages = e.located.accounts.pages ∙ sym (length-set m.table.homes p (Host f));
      marks = λ q. refl;
    } in
    record {
      move = flight-move m d k s t next d step;
      lines = λ j low.
          let bit : has_line (mask_others frame.dirty) j ≡ not (has_line frame.dirty j) = whole j low in
          let was = line-before m d k s j e in
          line-after m d k s t next d j step
          ∙ rw bit (
          leaving-lines (has_line frame.dirty j) next.frames d p j f (line_bytes m d p j)
          (λ dirty.
          let copied : has_line s.bits j ≡ true = coming.copied j low dirty in
          sym (was ∙ rw (way, copied) refl))
          (λ clean. sym (was ∙ rw way (
          coming-before (has_line s.bits j) m.frames d p j f (line_at d p j) (λ copied. coming.clean j low clean copied) (λ clear. refl)))));
    }

-- the frame of a retreat is the page's home
pub retreat-frame : (m : MemoryView) (d : DeviceState) (p frame : ℕ) (m' : MemoryView) (d' : DeviceState) → (is : IsRetreated p m d m' d')
    → home_at m p ≡ Host frame → is.frame ≡ frame
retreat-frame m d p frame m' d' is home = let same : Host is.frame ≡ Host frame = sym is.home ∙ home in cc
