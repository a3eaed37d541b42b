-- The facts and the lines stay where the frames change in their referred flags alone, and no line of the device changes.
use Rattle.std.proofs.Common.{◌≡◌, ℕ, Bool, true, false, List, length, Option, None, Some, inl, inr, refl, sym, ap, ◌∙◌}
use Rattle.ff_base.specs.Page.{line_of}
use Rattle.ff_frames.specs.Frames.{frame_at}
use Rattle.ff_frames.specs.declared.frame.Frame.{Frame}
use Rattle.ff_lines.specs.DeviceState.{DeviceState, IsDrained}
use Rattle.ff_lines.specs.LineMask.{has_line}
use Rattle.ff_lines.specs.Posts.{waits_in}
use Rattle.ff_lines.specs.Works.{KeepsLines}
use Rattle.ff_lines.specs.declared.line_mask.LineMask.{LineMask}
use Rattle.ff_lines.proofs.DeviceLines.{line_at-drained, line_at-worked, waits-all_drained}
use Rattle.std.proofs.Common.{get_or, set, arith, length-set}
use Rattle.std.proofs.lemmas.Bool.{cases_eq, cases_lt}
use Rattle.std.proofs.lemmas.Grind.{get_or-set_at}
use Rattle.std.proofs.lemmas.List.{get_or-set_other, get_or_past}
use Rattle.ff_frames.specs.Frame.{free_frame, referred_frame}
use Rattle.ff_memory.specs.Located.{IsLocated}
use Rattle.ff_memory.specs.Loads.{IsLoadBy}
use Rattle.ff_memory.specs.declared.access.Access.{Access}
use Rattle.ff_memory.specs.Memory.{MemoryView, entry_at, frame_set, home_at}
use Rattle.ff_memory.specs.LineBytes.{Holds, SameLineBytes, line_from, serving_frame}
use Rattle.ff_plb.specs.Plb.{entry_of}
use Rattle.ff_table.specs.Table.{TableView, home_of}
use Rattle.ff_memory.proofs.Sites.{IsAlike, SameAt, alike-same, same-device, sited-other}

-- nothing changed but referred flags, and what a device may do by itself
pub record IsLike (m : MemoryView) (d : DeviceState) (m' : MemoryView) (d' : DeviceState) : Type 0 where
  pub frames : (frame : ℕ) → IsAlike (frame_at m.frames frame) (frame_at m'.frames frame)
  pub table : m'.table ≡ m.table
  pub slots : m'.slots ≡ m.slots
  pub capacity : m'.capacity ≡ m.capacity
  pub device : (page : ℕ) → SameAt d d' page
  pub pinned : (page : ℕ) → d'.pinned page ≡ d.pinned page
  pub written : (page : ℕ) → d'.written page ≡ d.written page
  pub room : d'.room ≡ d.room
  pub pages : d'.pages ≡ d.pages

home-like : (m : MemoryView) (d : DeviceState) (m' : MemoryView) (d' : DeviceState) (page : ℕ) → IsLike m d m' d' → home_at m' page ≡ home_at m page
home-like m d m' d' page is = ap (λ (t : TableView). home_of t page) is.table

entry-like : (m : MemoryView) (d : DeviceState) (m' : MemoryView) (d' : DeviceState) (page : ℕ) → IsLike m d m' d' → entry_at m' page ≡ entry_at m page
entry-like m d m' d' page is = ap (λ s. entry_of s page) is.slots

pub like-located : (m : MemoryView) (d : DeviceState) (m' : MemoryView) (d' : DeviceState) → IsLocated m d → IsLike m d m' d'
    → IsLocated m' d'
like-located m d m' d' located is =
    let held : (frame page : ℕ) → Holds m'.frames frame page → Holds m.frames frame page =
    λ frame page holds. sym (is.frames frame).page ∙ holds in
    record {
      sites = λ page.
          rw (is.table, is.slots) (
          sited-other m.frames m'.frames d d' page (home_at m page) (entry_at m page) (λ frame holds. is.frames frame) (is.device page)
          (located.pins page) (located.sites page));
      used = λ frame page holds. rw (is.table, is.slots) (located.used frame page (held frame page holds));
      pins = λ page. rw is.slots (is.pinned page ∙ located.pins page);
      accounts = record {
        dirty_born = λ frame page line within holds dirty.
            rw is.table (
            located.accounts.dirty_born frame page line within (held frame page holds)
            (ap (λ (m : LineMask). has_line m line) (sym (is.frames frame).dirty) ∙ dirty));
        written_born = λ page written. rw is.table (located.accounts.written_born page (sym (is.written page) ∙ written));
        few_born = rw (is.table, is.capacity) located.accounts.few_born;
        room = is.room ∙ located.accounts.room ∙ sym is.capacity;
        pages = rw is.table (is.pages ∙ located.accounts.pages);
        marked_home = rw (is.table, is.slots) located.accounts.marked_home;
      };
    }

pub line-like : (frames frames' : List Frame) (d d' : DeviceState) (page line : ℕ) (from : Option ℕ)
    → ((frame : ℕ) → IsAlike (frame_at frames frame) (frame_at frames' frame)) → SameAt d d' page
    → line_from frames' d' page line from ≡ line_from frames d page line from
line-like frames frames' d d' page line None alike same = same.lines line
line-like frames frames' d d' page line (Some frame) alike same = ap (λ (b : List ℕ). line_of b line) (alike frame).bytes

pub like-lines : (m : MemoryView) (d : DeviceState) (m' : MemoryView) (d' : DeviceState) → IsLike m d m' d' → SameLineBytes m d m' d'
like-lines m d m' d' is page line within =
    rw (is.table, is.slots) (line-like m.frames m'.frames d d' page line (serving_frame m page line) is.frames (is.device page))

pub like-drained : (m : MemoryView) (d d' : DeviceState) → IsDrained d d' → IsLike m d m d'
like-drained m d d' is = record {
  frames = λ frame. alike-same (frame_at m.frames frame) (frame_at m.frames frame) refl;
  table = refl;
  slots = refl;
  capacity = refl;
  device = λ page. record {
    lines = λ line. line_at-drained d d' page line is;
    idle = λ idle. waits-all_drained d d' page is.lines;
    resident = λ pinned resident. is.residence.resident page ∙ resident;
  };
  pinned = is.pinned;
  written = is.written;
  room = is.residence.sizes.room;
  pages = is.residence.sizes.pages;
}

alike-referred : (frames : List Frame) (frame other : ℕ) (on : Bool)
    → IsAlike (frame_at frames other) (get_or (set frames frame (referred_frame on (frame_at frames frame))) other free_frame)
alike-referred frames frame other on =
    let new : Frame = referred_frame on (frame_at frames frame) in
    elim (cases_eq other frame) [
      | inl same ↦ elim (cases_lt frame (length frames)) [
        | inl within ↦
            let is = get_or-set_at frames frame other new free_frame same within in
            let one : frame_at frames frame ≡ frame_at frames other = ap (λ (g : ℕ). frame_at frames g) (sym same) in
            record {
              page = ap (λ (f : Frame). f.page) is ∙ ap (λ (f : Frame). f.page) one;
              bytes = ap (λ (f : Frame). f.bytes) is ∙ ap (λ (f : Frame). f.bytes) one;
              dirty = ap (λ (f : Frame). f.dirty) is ∙ ap (λ (f : Frame). f.dirty) one;
            }
        | inr past ↦
            let size = length-set frames frame new in
            alike-same (frame_at frames other) (get_or (set frames frame new) other free_frame)
            (get_or_past (set frames frame new) other free_frame (omega arith) ∙ sym (get_or_past frames other free_frame (omega arith)))
      ]
      | inr apart ↦
          alike-same (frame_at frames other) (get_or (set frames frame new) other free_frame)
          (get_or-set_other frames frame other new free_frame apart)
    ]

-- a frame's referred flag was set or cleared
pub like-referred : (m : MemoryView) (d : DeviceState) (frame : ℕ) (on : Bool) → IsLike m d (frame_set frame (referred_frame on) m) d
like-referred m d frame on = record {
  frames = λ other. alike-referred m.frames frame other on;
  table = refl;
  slots = refl;
  capacity = refl;
  device = λ page. same-device d page;
  pinned = λ page. refl;
  written = λ page. refl;
  room = refl;
  pages = refl;
}

pub like-none : (m : MemoryView) (d : DeviceState) → IsLike m d m d
like-none m d = record {
  frames = λ frame. alike-same (frame_at m.frames frame) (frame_at m.frames frame) refl;
  table = refl;
  slots = refl;
  capacity = refl;
  device = λ page. same-device d page;
  pinned = λ page. refl;
  written = λ page. refl;
  room = refl;
  pages = refl;
}

-- a load that the device serves, or a miss
pub like-device_load : (resident : Bool) (page : ℕ) (bytes : List ℕ) (m : MemoryView) (d : DeviceState) (access : Access) (d' : DeviceState)
    → IsLoadBy None resident page bytes m d access m d' → IsLike m d m d'
like-device_load true page bytes m d access d' is = like-drained m d d' is.device
like-device_load false page bytes m d access d' is = rw is.device (like-none m d)

-- a step of work
pub like-worked : (m : MemoryView) (d d' : DeviceState) → KeepsLines d d' → IsLike m d m d'
like-worked m d d' is = record {
  frames = λ frame. alike-same (frame_at m.frames frame) (frame_at m.frames frame) refl;
  table = refl;
  slots = refl;
  capacity = refl;
  device = λ page. record {
    lines = λ line. line_at-worked d d' page line is;
    idle = λ idle. elim is.lines [
      | inl same ↦ ap (λ posts. waits_in posts page) same.posts ∙ idle
      | inr drained ↦ waits-all_drained d d' page drained
    ];
    resident = λ pinned resident. is.stay page (inl pinned) resident;
  };
  pinned = is.pinned;
  written = is.written;
  room = is.sizes.room;
  pages = is.sizes.pages;
}
