-- A later session begins: a memory of which the held pages are born, over a device that reads as the image, holds what an
-- empty history says.
use Rattle.std.specs.Prelude.{◌==◌, ◌||◌, is_some, replicate}
use Rattle.std.specs.Int.{bit_at}
use Rattle.std.proofs.Common.{◌≡◌, ◌≤◌, inl, inr, ℕ, ◌/◌, ◌%◌, Bool, true, false, List, [], count_by, get_or, Option, Some, None, refl, sym, ap, ◌∙◌, arith}
use Rattle.std.proofs.lemmas.Bool.{cases_lt}
use Rattle.std.proofs.lemmas.List.{get_or-replicate, get_or_past, length-replicate}
use Rattle.std.proofs.lemmas.Option.{none-some}
use Rattle.ff_kept.proofs.KeepingAnswered.{keeping-opened}
use Rattle.ff_lines.specs.DeviceState.{DeviceState}
use Rattle.ff_memory.specs.Located.{IsLocated}
use Rattle.ff_memory.specs.Memory.{MemoryView, entry_at, fresh_memory, home_at}
use Rattle.ff_memory.specs.LineBytes.{Holds, frame_of_page}
use Rattle.ff_memory.proofs.Worked.{located-fresh}
use Rattle.ff_model.specs.Image.{byte_at, held_page}
use Rattle.ff_model.specs.Legal.{Opening}
use Rattle.ff_plb.specs.declared.slot.Slot.{Slot}
use Rattle.ff_table.specs.Table.{fresh_table}
use Rattle.ff_table.specs.declared.table.Home.TheVariants.{Ssd}
use Rattle.ff_calls.specs.Told.{IsTold}

-- a device without posts and without pinned pages reads as the image, which holds each page that is written
pub record IsResumedDevice (opening : Opening) (d : DeviceState) : Type 0 where
  pub posts : d.posts ≡ []
  pub below : (address : ℕ) → get_or (d.below (address / 4096) (address % 4096 / 64)) (address % 64) 0 ≡ byte_at opening.base address
  pub pinned : (page : ℕ) → d.pinned page ≡ false
  pub written : (page : ℕ) → d.written page ≡ true → is_some (held_page opening.base page) ≡ true
  pub room : d.room ≡ opening.capacity
  pub pages : d.pages ≡ opening.pages

-- exactly the held pages are born, and no more than fit
pub record AreHeldBorn (opening : Opening) (born : List Bool) : Type 0 where
  pub each : (page : ℕ) → get_or born page false ≡ is_some (held_page opening.base page)
  pub few : count_by (λ b. b) born ≤ opening.capacity

-- a memory in which every page is at home on the SSD, and these are born
abbrev pub begun_memory : ℕ → ℕ → List ℕ → List Bool → ℕ → ℕ → MemoryView
begun_memory frames pages marks born slots capacity =
    record (fresh_memory frames pages marks slots capacity) { table = record (fresh_table pages marks) { born = born } }

or-false : (b : Bool) → (b || false) ≡ b
or-false false = refl
or-false true = refl

no-entry : (entry : Option Slot) → false ≡ is_some entry → entry ≡ None
no-entry None is = refl
no-entry (Some entry) is = absurd (cc is)

-- where every page of a memory is
record AreHome (m : MemoryView) : Type 0 where
  home : (page : ℕ) → home_at m page ≡ Ssd
  entry : (page : ℕ) → entry_at m page ≡ None
  free : (frame page : ℕ) → Holds m.frames frame page → ⊥

homes : (pages page : ℕ) → get_or (replicate pages Ssd) page Ssd ≡ Ssd
homes pages page = elim (cases_lt page pages) [
  | inl within ↦ get_or-replicate pages page Ssd Ssd within
  | inr past ↦ get_or_past (replicate pages Ssd) page Ssd (omega (arith, length-replicate pages Ssd))
]

all-home : (opening : Opening) (frames slots : ℕ) (marks : List ℕ) (born : List Bool) (d : DeviceState) → IsResumedDevice opening d
    → AreHome (begun_memory frames opening.pages marks born slots opening.capacity)
all-home opening frames slots marks born d resumed =
    let pages : ℕ = opening.pages in
    let bare : DeviceState = record d { written = λ (page : ℕ). false } in
    let start : MemoryView = fresh_memory frames pages marks slots opening.capacity in
    let located : IsLocated start bare =
    located-fresh frames pages slots opening.capacity marks bare resumed.pinned (λ page. refl) resumed.room resumed.pages in
    let entry : (page : ℕ) → entry_at start page ≡ None =
    λ page. no-entry (entry_at start page) (sym (resumed.pinned page) ∙ located.pins page) in
    let home : (page : ℕ) → home_at start page ≡ Ssd = λ page. homes pages page in
    record {
      home = home;
      entry = entry;
      free = λ frame page holds.
          let has : frame_of_page (home_at start page) (entry_at start page) ≡ Some frame = located.used frame page holds in
          let h = home page in
          let e = entry page in
          let some : None ≡ Some frame = rw (h, e) at has in
          none-some frame some;
    }

located-resumed : (opening : Opening) (frames slots : ℕ) (marks : List ℕ) (born : List Bool) (d : DeviceState)
    → AreHeldBorn opening born → IsResumedDevice opening d
    → IsLocated (begun_memory frames opening.pages marks born slots opening.capacity) d
located-resumed opening frames slots marks born d held resumed =
    let m : MemoryView = begun_memory frames opening.pages marks born slots opening.capacity in
    let at = all-home opening frames slots marks born d resumed in
    record {
      sites = λ page. let h = at.home page in let e = at.entry page in rw (h, e) tt;
      used = λ frame page holds. absurd (at.free frame page holds);
      pins = λ page. let e = at.entry page in rw e (resumed.pinned page);
      accounts = record {
        dirty_born = λ frame page line low holds dirty. absurd (at.free frame page holds);
        written_born = λ page is. held.each page ∙ resumed.written page is;
        few_born = held.few;
        room = resumed.room;
        pages = resumed.pages ∙ sym (length-replicate opening.pages Ssd);
        marked_home = λ page marked. let h = at.home page in let e = at.entry page in rw (h, e) refl;
      };
    }

-- a session begins with what the image holds stored, and what it marks marked
pub told-resumed : (opening : Opening) (frames slots : ℕ) (marks : List ℕ) (born : List Bool) (d : DeviceState)
    → opening.base.marks ≡ marks → opening.faults ≤ d.faults → AreHeldBorn opening born → IsResumedDevice opening d
    → IsTold opening [] (begun_memory frames opening.pages marks born slots opening.capacity) d
told-resumed opening frames slots marks born d marked faults held resumed =
    let m : MemoryView = begun_memory frames opening.pages marks born slots opening.capacity in
    let at = all-home opening frames slots marks born d resumed in
    record {
      legal = tt;
      faults = faults;
      pages = length-replicate opening.pages Ssd;
      capacity = refl;
      flat = λ address within.
          let h = at.home (address / 4096) in
          let e = at.entry (address / 4096) in
          let p = resumed.posts in
          rw (h, e, p) (resumed.below address);
      born = λ page within. held.each page ∙ sym (or-false (is_some (held_page opening.base page)));
      marks = λ page line low. ap (λ (masks : List ℕ). bit_at (get_or masks page 0) line == 1) (sym marked);
      located = located-resumed opening frames slots marks born d held resumed;
      keeping = keeping-opened opening.base d resumed.posts resumed.below;
    }
