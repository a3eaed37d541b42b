-- A session begins: a fresh memory over a device of zeros holds what an empty history says.
use Rattle.std.specs.Prelude.{◌||◌, is_some, replicate}
use Rattle.std.proofs.Common.{◌≡◌, ◌≤◌, inl, inr, ℕ, zero, ◌+◌, ◌-◌, ◌*◌, ◌/◌, ◌%◌, false, List, [], take, drop, get_or, Option, Some, None, refl, sym, ap, ◌∙◌, arith}
use Rattle.std.proofs.lemmas.Bool.{cases_lt, le-ltb, lt-ltb}
use Rattle.std.proofs.lemmas.List.{get_or-drop, get_or-replicate, get_or-take, get_or_past, length-replicate, length-take}
use Rattle.std.proofs.lemmas.Option.{unwrap_or-slice_get}
use Rattle.ff_base.specs.Page.{blank_line, blank_page, line_of}
use Rattle.ff_kept.proofs.KeepingAnswered.{keeping-opened}
use Rattle.ff_lines.specs.BlankLine.{line_or_blank}
use Rattle.ff_lines.specs.DeviceState.{DeviceState}
use Rattle.ff_memory.specs.Located.{IsLocated}
use Rattle.ff_memory.specs.Memory.{MemoryView, entry_at, fresh_memory, home_at}
use Rattle.ff_memory.specs.LineBytes.{byte_of}
use Rattle.ff_memory.proofs.Worked.{located-fresh}
use Rattle.ff_model.specs.Callers.{is_marked}
use Rattle.ff_model.specs.Flat.{is_born}
use Rattle.ff_model.specs.Image.{Content, byte_at, byte_in, empty_content, held_page}
use Rattle.ff_model.specs.Legal.{Opening}
use Rattle.ff_plb.specs.declared.slot.Slot.{Slot}
use Rattle.ff_table.specs.declared.table.Home.TheVariants.{Ssd}
use Rattle.ff_calls.specs.Told.{IsTold}

repeated : {A : Type 0} (n i : ℕ) (a : A) → get_or (replicate n a) i a ≡ a
repeated {A} n i a = elim (cases_lt i n) [
  | inl within ↦ get_or-replicate n i a a within
  | inr past ↦ get_or_past (replicate n a) i a (omega (arith, length-replicate n a))
]

-- a line of zeros has a zero at each offset
pub zero-blank_line : (i : ℕ) → get_or blank_line i 0 ≡ 0
unfolding blank_line
zero-blank_line i = repeated 64 i zero

repeated-part : {A : Type 0} (n from count i : ℕ) (a : A) → get_or (take count (drop from (replicate n a))) i a ≡ a
repeated-part {A} n from count i a = elim (cases_lt i count) [
  | inl within ↦
      get_or-take count (drop from (replicate n a)) i a within ∙ get_or-drop from (replicate n a) i a ∙ repeated n (from + i) a
  | inr past ↦
      get_or_past (take count (drop from (replicate n a))) i a
      (omega (arith, length-take count (drop from (replicate n a))))
]

zero-blank_page : (line i : ℕ) → get_or (line_of blank_page line) i 0 ≡ 0
unfolding blank_page
zero-blank_page line i = repeated-part 4096 (64 * line) (64 * line + 64 - 64 * line) i zero

-- each line of a page of zeros has a zero at each offset
pub zero-line_or_blank : (line i : ℕ) → get_or (line_or_blank blank_page line) i 0 ≡ 0
zero-line_or_blank line i = elim (cases_lt line 64) [
  | inl within ↦ rw (lt-ltb line 64 within) (zero-blank_page line i)
  | inr past ↦ rw (le-ltb line 64 past) (zero-blank_line i)
]

-- nothing is held
held-none : (pages page : ℕ) → held_page (empty_content pages) page ≡ None
held-none pages page =
    unwrap_or-slice_get (replicate pages None) page None ∙ repeated pages page None

-- an empty image reads as zeros
byte_at-empty : (pages address : ℕ) → byte_at (empty_content pages) address ≡ 0
byte_at-empty pages address =
    ap (λ (held : Option (List ℕ)). byte_in held (address % 4096)) (held-none pages (address / 4096))

no-entry : (entry : Option Slot) → false ≡ is_some entry → entry ≡ None
no-entry None is = refl
no-entry (Some entry) is = absurd (cc is)

-- the first session: the device has no posts and nothing pinned or written, and reads as zeros
pub record IsFreshDevice (opening : Opening) (d : DeviceState) : Type 0 where
  pub posts : d.posts ≡ []
  pub below : (page line i : ℕ) → get_or (d.below page line) i 0 ≡ 0
  pub pinned : (page : ℕ) → d.pinned page ≡ false
  pub written : (page : ℕ) → d.written page ≡ false
  pub room : d.room ≡ opening.capacity
  pub pages : d.pages ≡ opening.pages

-- a session begins with nothing stored and nothing marked
pub told-fresh : (opening : Opening) (frames slots : ℕ) (m : MemoryView) (d : DeviceState)
    → opening.base ≡ empty_content opening.pages → opening.faults ≤ d.faults
    → m ≡ fresh_memory frames opening.pages (replicate opening.pages 0) slots opening.capacity → IsFreshDevice opening d
    → IsTold opening [] m d
told-fresh opening frames slots m d base faults memory fresh =
    let pages : ℕ = opening.pages in
    let marks : List ℕ = replicate pages 0 in
    let start : MemoryView = fresh_memory frames pages marks slots opening.capacity in
    let located : IsLocated start d =
    located-fresh frames pages slots opening.capacity marks d fresh.pinned fresh.written fresh.room fresh.pages in
    let entry : (page : ℕ) → entry_at start page ≡ None =
    λ page. no-entry (entry_at start page) (sym (fresh.pinned page) ∙ located.pins page) in
    let home : (page : ℕ) → home_at start page ≡ Ssd = λ page. repeated pages page Ssd in
    let zero_at : (address : ℕ) → byte_at opening.base address ≡ 0 =
    λ address. ap (λ (image : Content). byte_at image address) base ∙ byte_at-empty pages address in
    let reads : (address : ℕ) → byte_of start d address ≡ 0 =
    λ address.
    let h = home (address / 4096) in
    let e = entry (address / 4096) in
    let p = fresh.posts in
    rw (h, e, p) (fresh.below (address / 4096) (address % 4096 / 64) (address % 64)) in
    rw memory record {
      legal = tt;
      faults = faults;
      pages = length-replicate pages Ssd;
      capacity = refl;
      flat = λ address within. reads address ∙ sym (zero_at address);
      born = λ page within.
          repeated pages page false
          ∙ ap (λ (held : Option (List ℕ)). is_some held || false) (sym (held-none pages page))
          ∙ ap (λ (image : Content). is_born image [] page) (sym base);
      marks = λ page line low. ap (λ (image : Content). is_marked image [] page line) (sym base);
      located = located;
      keeping = keeping-opened opening.base d fresh.posts
          (λ address.
          fresh.below (address / 4096) (address % 4096 / 64) (address % 64) ∙ sym (zero_at address));
    }
