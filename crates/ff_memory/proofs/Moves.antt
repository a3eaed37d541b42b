-- One page and one frame change: the facts and the lines of all others stay.
use Rattle.std.specs.Prelude.{is_some}
use Rattle.std.proofs.Common.{◌≡◌, ◌≢◌, ℕ, ◌<◌, ◌≤◌, true, length, Option, None, Some, inl, inr, refl, sym, ap, ◌∙◌}
use Rattle.std.proofs.lemmas.Bool.{cases_eq}
use Rattle.ff_base.specs.Page.{line_of}
use Rattle.ff_frames.specs.Frames.{frame_at}
use Rattle.ff_frames.specs.declared.frame.Frame.{Frame}
use Rattle.ff_lines.specs.DeviceState.{DeviceState}
use Rattle.ff_lines.specs.LineMask.{has_line}
use Rattle.ff_memory.specs.Located.{IsLocated, IsSited}
use Rattle.ff_memory.specs.Memory.{MemoryView, entry_at, home_at}
use Rattle.ff_memory.specs.LineBytes.{Holds, SameLineBytes, frame_of_page, line_from, line_bytes, serving_frame}
use Rattle.ff_table.specs.Table.{born_count_in, is_born_in, marks_of}
use Rattle.ff_memory.proofs.Sites.{SameAt, alike-same, serving-holds, sited-other}

-- one page and one frame change, and the page's own facts hold again
pub record IsMove (p f : ℕ) (m : MemoryView) (d : DeviceState) (m' : MemoryView) (d' : DeviceState) : Type 0 where
  pub homes : (q : ℕ) → q ≢ p → home_at m' q ≡ home_at m q
  pub entries : (q : ℕ) → q ≢ p → entry_at m' q ≡ entry_at m q
  pub frames : (g : ℕ) → g ≢ f → frame_at m'.frames g ≡ frame_at m.frames g
  pub owner : (q : ℕ) → Holds m.frames f q → q ≡ p
  pub new_owner : (q : ℕ) → Holds m'.frames f q → q ≡ p
  pub device : (q : ℕ) → q ≢ p → SameAt d d' q
  pub pins : (q : ℕ) → q ≢ p → d'.pinned q ≡ d.pinned q
  pub site : IsSited m'.frames d' p (home_at m' p) (entry_at m' p)
  pub used : (g : ℕ) → Holds m'.frames g p → frame_of_page (home_at m' p) (entry_at m' p) ≡ Some g
  pub pin : d'.pinned p ≡ is_some (entry_at m' p)
  pub dirty_born : (line : ℕ) → line < 64 → Holds m'.frames f p → has_line (frame_at m'.frames f).dirty line ≡ true
      → is_born_in m'.table p ≡ true
  pub written_born : (q : ℕ) → d'.written q ≡ true → is_born_in m'.table q ≡ true
  pub born_more : (q : ℕ) → is_born_in m.table q ≡ true → is_born_in m'.table q ≡ true
  pub few_born : born_count_in m'.table ≤ m'.capacity
  pub room : d'.room ≡ m'.capacity
  pub pages : d'.pages ≡ length m'.table.homes
  pub marks : (q : ℕ) → marks_of m'.table q ≡ marks_of m.table q
  pub unmarked : marks_of m.table p ≢ 0 → frame_of_page (home_at m' p) (entry_at m' p) ≡ None

-- another page's frame is another frame
apart : (p f : ℕ) (m : MemoryView) (d : DeviceState) (m' : MemoryView) (d' : DeviceState) → IsMove p f m d m' d'
    → (q frame : ℕ) → q ≢ p → Holds m.frames frame q → frame ≢ f
apart p f m d m' d' move q frame other holds same =
    other (move.owner q (ap (λ (g : ℕ). (frame_at m.frames g).page) (sym same) ∙ holds))

apart_now : (p f : ℕ) (m : MemoryView) (d : DeviceState) (m' : MemoryView) (d' : DeviceState) → IsMove p f m d m' d'
    → (q frame : ℕ) → q ≢ p → Holds m'.frames frame q → frame ≢ f
apart_now p f m d m' d' move q frame other holds same =
    other (move.new_owner q (ap (λ (g : ℕ). (frame_at m'.frames g).page) (sym same) ∙ holds))

-- a frame that another page has now is that page's as before
held-before : (p f : ℕ) (m : MemoryView) (d : DeviceState) (m' : MemoryView) (d' : DeviceState) → IsMove p f m d m' d'
    → (q frame : ℕ) → q ≢ p → Holds m'.frames frame q → Holds m.frames frame q
held-before p f m d m' d' move q frame other holds =
    ap (λ (x : Frame). x.page) (sym (move.frames frame (apart_now p f m d m' d' move q frame other holds))) ∙ holds

move-sites : (p f : ℕ) (m : MemoryView) (d : DeviceState) (m' : MemoryView) (d' : DeviceState) → IsLocated m d
    → IsMove p f m d m' d' → (q : ℕ) → IsSited m'.frames d' q (home_at m' q) (entry_at m' q)
move-sites p f m d m' d' located move q = elim (cases_eq q p) [
  | inl same ↦ rw same move.site
  | inr other ↦
      let home = move.homes q other in
      let entry = move.entries q other in
      rw (home, entry) (
      sited-other m.frames m'.frames d d' q (home_at m q) (entry_at m q)
      (λ frame holds. alike-same (frame_at m.frames frame) (frame_at m'.frames frame) (move.frames frame (apart p f m d m' d' move q frame other holds)))
      (move.device q other) (located.pins q) (located.sites q))
]

move-used : (p f : ℕ) (m : MemoryView) (d : DeviceState) (m' : MemoryView) (d' : DeviceState) → IsLocated m d
    → IsMove p f m d m' d' → (frame q : ℕ) → Holds m'.frames frame q → frame_of_page (home_at m' q) (entry_at m' q) ≡ Some frame
move-used p f m d m' d' located move frame q holds = elim (cases_eq q p) [
  | inl same ↦ rw same (move.used frame (rw same at holds))
  | inr other ↦ rw (move.homes q other, move.entries q other) (located.used frame q (held-before p f m d m' d' move q frame other holds))
]

move-pins : (p f : ℕ) (m : MemoryView) (d : DeviceState) (m' : MemoryView) (d' : DeviceState) → IsLocated m d
    → IsMove p f m d m' d' → (q : ℕ) → d'.pinned q ≡ is_some (entry_at m' q)
move-pins p f m d m' d' located move q = elim (cases_eq q p) [
  | inl same ↦ rw same move.pin
  | inr other ↦ rw (move.entries q other) (move.pins q other ∙ located.pins q)
]

move-dirty : (p f : ℕ) (m : MemoryView) (d : DeviceState) (m' : MemoryView) (d' : DeviceState) → IsLocated m d
    → IsMove p f m d m' d' → (frame q line : ℕ) → line < 64 → Holds m'.frames frame q
    → has_line (frame_at m'.frames frame).dirty line ≡ true → is_born_in m'.table q ≡ true
move-dirty p f m d m' d' located move frame q line within holds dirty = elim (cases_eq frame f) [
  | inl here ↦
      let holds_f : Holds m'.frames f q = ap (λ (g : ℕ). (frame_at m'.frames g).page) (sym here) ∙ holds in
      let same : q ≡ p = move.new_owner q holds_f in
      rw same (
      move.dirty_born line within (rw same at holds_f)
      (ap (λ (g : ℕ). has_line (frame_at m'.frames g).dirty line) (sym here) ∙ dirty))
  | inr elsewhere ↦
      let same : frame_at m'.frames frame ≡ frame_at m.frames frame = move.frames frame elsewhere in
      move.born_more q (
      located.accounts.dirty_born frame q line within (ap (λ (x : Frame). x.page) (sym same) ∙ holds)
      (ap (λ (x : Frame). has_line x.dirty line) (sym same) ∙ dirty))
]

move-marked : (p f : ℕ) (m : MemoryView) (d : DeviceState) (m' : MemoryView) (d' : DeviceState) → IsLocated m d
    → IsMove p f m d m' d' → (q : ℕ) → marks_of m'.table q ≢ 0 → frame_of_page (home_at m' q) (entry_at m' q) ≡ None
move-marked p f m d m' d' located move q marked =
    let before : marks_of m.table q ≢ 0 = λ none. marked (move.marks q ∙ none) in
    elim (cases_eq q p) [
      | inl same ↦ rw same (move.unmarked (rw same at before))
      | inr other ↦ rw (move.homes q other, move.entries q other) (located.accounts.marked_home q before)
    ]

-- the facts stay
pub move-located : (p f : ℕ) (m : MemoryView) (d : DeviceState) (m' : MemoryView) (d' : DeviceState) → IsLocated m d
    → IsMove p f m d m' d' → IsLocated m' d'
move-located p f m d m' d' located move = record {
  sites = move-sites p f m d m' d' located move;
  used = move-used p f m d m' d' located move;
  pins = move-pins p f m d m' d' located move;
  accounts = record {
    dirty_born = move-dirty p f m d m' d' located move;
    written_born = move.written_born;
    few_born = move.few_born;
    room = move.room;
    pages = move.pages;
    marked_home = move-marked p f m d m' d' located move;
  };
}

line-other : (p f : ℕ) (m : MemoryView) (d : DeviceState) (m' : MemoryView) (d' : DeviceState) → IsLocated m d
    → IsMove p f m d m' d' → (q line : ℕ) → q ≢ p → (from : Option ℕ) → serving_frame m q line ≡ from
    → line_from m'.frames d' q line from ≡ line_from m.frames d q line from
line-other p f m d m' d' located move q line other None is = (move.device q other).lines line
line-other p f m d m' d' located move q line other (Some frame) is =
    let holds = serving-holds m d q line frame located is in
    ap (λ (x : Frame). line_of x.bytes line) (move.frames frame (apart p f m d m' d' move q frame other holds))

-- the lines of other pages stay
pub line_bytes-other : (p f : ℕ) (m : MemoryView) (d : DeviceState) (m' : MemoryView) (d' : DeviceState) → IsLocated m d
    → IsMove p f m d m' d' → (q line : ℕ) → q ≢ p → line_bytes m' d' q line ≡ line_bytes m d q line
line_bytes-other p f m d m' d' located move q line other =
    rw (move.homes q other, move.entries q other) (line-other p f m d m' d' located move q line other (serving_frame m q line) refl)

-- every line stays, where those of the page do
pub move-lines : (p f : ℕ) (m : MemoryView) (d : DeviceState) (m' : MemoryView) (d' : DeviceState) → IsLocated m d
    → IsMove p f m d m' d' → ((line : ℕ) → line < 64 → line_bytes m' d' p line ≡ line_bytes m d p line) → SameLineBytes m d m' d'
move-lines p f m d m' d' located move lines q line within = elim (cases_eq q p) [
  | inl same ↦ rw same (lines line within)
  | inr other ↦ line_bytes-other p f m d m' d' located move q line other
]
