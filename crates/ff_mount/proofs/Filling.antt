-- The pages of an image, put into it one after another.
use Rattle.std.proofs.Common.{◌≡◌, ◌≢◌, ◌<◌, ◌≤◌, ◌+◌, ℕ, zero, suc, Bool, List, length, get_or, set, Option, None, Some, inl, inr, refl, sym, ap, ap₂, subst, ◌∙◌, arith, length-set, get_or-set_same, get_or-set_other}
use Rattle.std.specs.Prelude.{Result, Ok, Err, map, replicate}
use Rattle.std.specs.List.{range_with_len}
use Rattle.std.proofs.lemmas.Bool.{cases_lt}
use Rattle.std.proofs.lemmas.List.{get_or-replicate, get_or_default, get_or_past, length-map, length-replicate, same_lists}
use Rattle.std.proofs.lemmas.List.FromFn.{get_or-map-range_with_len, length-range_with_len}
use Rattle.ff_cache.specs.Nv.{NvView, NvWay}
use Rattle.ff_flash.specs.Cells.{Cell}
use Rattle.ff_lines.proofs.PageCounts.{count_below-most}
use Rattle.ff_lines.specs.PageSets.{count_below}
use Rattle.ff_model.specs.Image.{Content}
use Rattle.ff_mount.proofs.Planning.{planned_both, planned_stop}
use Rattle.ff_mount.proofs.ReadSteps.{after_more, after_none, can_read_more, none_planned, stopped_later}
use Rattle.ff_mount.specs.Filled.{with_found}
use Rattle.ff_mount.specs.Held.{held_content, image_page, image_reads, is_read, page_reads}
use Rattle.ff_mount.specs.Reading.{CanRead, GoesAsTold, HasStoppedReading, Reads, after_reads}
use Rattle.ff_mount.specs.declared.stop.MountStop.{MountStop}
use Rattle.ff_store.specs.PageStore.{PageStoreView}

-- the first pages are as they are held, and no other is held yet
pub record IsFilled (ways : List NvWay) (cells : List Cell) (count : ℕ) (found : List (Option (List ℕ))) : Type 0 where
  pub done : (page : ℕ) → page < count → get_or found page None ≡ image_page ways cells page
  pub rest : (page : ℕ) → count ≤ page → get_or found page None ≡ None

-- so many pages were put into an image with these marks, and the others are to come
pub record IsUnderWay (ways : List NvWay) (pages : ℕ) (marks : List ℕ) (old : PageStoreView) (count : ℕ) (image : Content)
    (new : PageStoreView) : Type 0 where
  pub filled : IsFilled ways old.world.flash.cells count image.pages
  pub size : length image.pages ≡ pages
  pub marks_are : image.marks ≡ marks
  pub store : new ≡ after_reads old (image_reads count ways old.world.flash.cells)
  pub planned : GoesAsTold {T = Unit {0}} old.world.flash (image_reads count ways old.world.flash.cells) (Ok tt)

none_filled : (ways : List NvWay) (cells : List Cell) (pages : ℕ) (found : List (Option (List ℕ))) → found ≡ replicate pages None
    → IsFilled ways cells 0 found
none_filled ways cells pages found is = record {
  done = λ page below. absurd (omega arith);
  rest = λ page past. rw is (elim (cases_lt page pages) [
    | inl below ↦ get_or-replicate pages page None None below
    | inr beyond ↦ get_or_past (replicate pages None) page None (let size = length-replicate {A = Option (List ℕ)} pages None in omega arith)
  ]);
}

found_more : (ways : List NvWay) (cells : List Cell) (page : ℕ) (image : Content) (one : Option (List ℕ)) → page < length image.pages
    → IsFilled ways cells page image.pages → image_page ways cells page ≡ one
    → IsFilled ways cells (page + 1) (with_found image page one).pages
found_more ways cells page image None within filled is = record {
  done = λ p below. elim (cases_lt p page) [
    | inl before ↦ filled.done p before
    | inr here ↦ (let same : p ≡ page = omega arith in rw same (filled.rest page (omega arith) ∙ sym is))
  ];
  rest = λ p past. filled.rest p (omega arith);
}
found_more ways cells page image (Some bytes) within filled is = record {
  done = λ p below. elim (cases_lt p page) [
    | inl before ↦
        (let apart : p ≢ page = omega arith in
        get_or-set_other image.pages page p (Some bytes) None apart ∙ filled.done p before)
    | inr here ↦
        (let same : p ≡ page = omega arith in
        rw same (get_or-set_same image.pages page (Some bytes) None within ∙ sym is))
  ];
  rest = λ p past.
      (let apart : p ≢ page = omega arith in
      get_or-set_other image.pages page p (Some bytes) None apart ∙ filled.rest p (omega arith));
}

found_size : (image : Content) (page : ℕ) (one : Option (List ℕ)) → length (with_found image page one).pages ≡ length image.pages
found_size image page None = refl
found_size image page (Some bytes) = length-set image.pages page (Some bytes)

found_marks : (image : Content) (page : ℕ) (one : Option (List ℕ)) → (with_found image page one).marks ≡ image.marks
found_marks image page None = refl
found_marks image page (Some bytes) = refl

-- the pages are all put in
all_filled : (pages : ℕ) (nv : NvView) (cells : List Cell) (image : Content) → IsFilled nv.slots cells pages image.pages
    → length image.pages ≡ pages → image.marks ≡ nv.marks → image ≡ held_content pages nv cells
unfolding held_content
all_filled pages nv cells image filled size marks =
    let numbers = length-range_with_len 0 pages in
    let all : List (Option (List ℕ)) = map (image_page nv.slots cells) (range_with_len 0 pages) in
    let many : length all ≡ pages = length-map (range_with_len 0 pages) (image_page nv.slots cells) ∙ numbers in
    let same : image.pages ≡ all = same_lists image.pages all (size ∙ sym many)
    (λ k d within.
    let below : k < pages = omega arith in
    get_or_default image.pages k d None within ∙ filled.done k below
    ∙ sym (get_or-map-range_with_len (image_page nv.slots cells) 0 pages k k d below (omega arith))) in
    let made : List (Option (List ℕ)) → List ℕ → Content = λ p m. record { pages = p; marks = m } in
    ap₂ made same marks

-- the reads of the pages before, and of one page, are among all
reads_within : (set : ℕ → Bool) (page pages : ℕ) → page < pages → count_below set (page + 1) ≤ count_below set pages
reads_within set page zero below = absurd (omega arith)
reads_within set page (suc n) below = elim (cases_lt page n) [
  | inl before ↦ (let rest = reads_within set page n before in omega arith)
  | inr here ↦ (let last : page + 1 ≡ suc n = omega arith in rw last (omega arith))
]

-- nothing is put in yet
pub way_begun : (ways : List NvWay) (pages : ℕ) (old : PageStoreView) (image : Content) → image.pages ≡ replicate pages None
    → IsUnderWay ways pages image.marks old 0 image old
way_begun ways pages old image blank = record {
  filled = none_filled ways old.world.flash.cells pages image.pages blank;
  size = (ap (λ (x : List (Option (List ℕ))). length x) blank ∙ length-replicate pages None);
  marks_are = refl;
  store = after_none old;
  planned = none_planned old.world.flash 0 (Ok tt) refl tt;
}

one_more : (ways : List NvWay) (cells : List Cell) (page : ℕ)
    → image_reads (page + 1) ways cells ≡ image_reads page ways cells + page_reads ways cells page
one_more ways cells page =
    let next : page + 1 ≡ suc page = omega arith in
    ap (λ k. image_reads k ways cells) next

-- what a page adds, behind so many reads
abbrev AddsPage : List NvWay → ℕ → Content → Result (Unit {0}) MountStop → Content → PageStoreView → PageStoreView → Type 0
AddsPage ways page image result image' new' new =
    (image' ≡ with_found image page (image_page ways new.world.flash.cells page))
    × Reads new (page_reads ways new.world.flash.cells page) result new'
    × GoesAsTold new.world.flash (page_reads ways new.world.flash.cells page) result

more_at : (ways : List NvWay) (pages : ℕ) (marks : List ℕ) (old : PageStoreView) (page : ℕ) (image : Content) (image' : Content)
    (new new' : PageStoreView) → page < pages → IsUnderWay ways pages marks old page image new
    → AddsPage ways page image (Ok tt) image' new' (after_reads old (image_reads page ways old.world.flash.cells))
    → IsUnderWay ways pages marks old (page + 1) image' new'
more_at ways pages marks old page image image' new new' within way adds =
    let cells : List Cell = old.world.flash.cells in
    let found : Option (List ℕ) = image_page ways cells page in
    let n = image_reads page ways cells in
    let m = page_reads ways cells page in
    let count = one_more ways cells page in
    let is : image' ≡ with_found image page found = adds.0 in
    record {
      filled = subst (λ (x : Content). IsFilled ways cells (page + 1) x.pages) (sym is)
          (found_more ways cells page image found (let size = way.size in omega arith) way.filled refl);
      size = ap (λ (x : Content). length x.pages) is ∙ found_size image page found ∙ way.size;
      marks_are = ap (λ (x : Content). x.marks) is ∙ found_marks image page found ∙ way.marks_are;
      store = adds.1 ∙ after_more old n m ∙ ap (λ k. after_reads old k) (sym count);
      planned = subst (λ k. GoesAsTold {T = Unit {0}} old.world.flash k (Ok tt)) (sym count)
          (planned_both old.world.flash.plan old.world.flash.operations n m way.planned adds.2);
    }

-- one more page was put in
pub way_more : (ways : List NvWay) (pages : ℕ) (marks : List ℕ) (old : PageStoreView) (page : ℕ) (image image' : Content)
    (new new' : PageStoreView) → page < pages → IsUnderWay ways pages marks old page image new
    → image' ≡ with_found image page (image_page ways new.world.flash.cells page)
    → Reads {T = Unit {0}} new (page_reads ways new.world.flash.cells page) (Ok tt) new'
    → GoesAsTold {T = Unit {0}} new.world.flash (page_reads ways new.world.flash.cells page) (Ok tt)
    → IsUnderWay ways pages marks old (page + 1) image' new'
way_more ways pages marks old page image image' new new' within way found reads planned =
    more_at ways pages marks old page image image' new new' within way
    (subst (λ (x : PageStoreView). AddsPage ways page image (Ok tt) image' new' x) way.store (found, reads, planned))

-- what a page that was stopped leaves, behind so many reads
abbrev StopsPage : List NvWay → ℕ → MountStop → PageStoreView → PageStoreView → Type 0
StopsPage ways page stop new' new =
    HasStoppedReading new stop new'
    × GoesAsTold {T = Unit {0}} new.world.flash (page_reads ways new.world.flash.cells page) (Err stop)

-- a page was stopped
pub way_stopped : (ways : List NvWay) (pages : ℕ) (marks : List ℕ) (old : PageStoreView) (page : ℕ) (image : Content)
    (new new' : PageStoreView) (stop : MountStop) → page < pages → IsUnderWay ways pages marks old page image new
    → HasStoppedReading new stop new'
    → GoesAsTold {T = Unit {0}} new.world.flash (page_reads ways new.world.flash.cells page) (Err stop)
    → HasStoppedReading old stop new'
    × GoesAsTold {T = Unit {0}} old.world.flash (image_reads pages ways old.world.flash.cells) (Err stop)
way_stopped ways pages marks old page image new new' stop within way reads planned =
    let cells : List Cell = old.world.flash.cells in
    let n = image_reads page ways cells in
    let m = page_reads ways cells page in
    let all = image_reads pages ways cells in
    let at : StopsPage ways page stop new' (after_reads old n) =
    subst (λ (x : PageStoreView). StopsPage ways page stop new' x) way.store (reads, planned) in
    let count = one_more ways cells page in
    let few = reads_within (is_read ways cells) page pages within in
    let among : n + m ≤ all = omega arith in (
      stopped_later old new' n stop at.0,
      planned_stop old.world.flash.plan old.world.flash.operations n m all stop among way.planned at.1,
    )

-- a page can be read next
pub way_ready : (ways : List NvWay) (pages : ℕ) (marks : List ℕ) (old : PageStoreView) (page : ℕ) (image : Content)
    (new : PageStoreView) → page < pages → CanRead pages old → IsUnderWay ways pages marks old page image new → CanRead 1 new
way_ready ways pages marks old page image new within can way =
    let few = count_below-most (is_read ways old.world.flash.cells) page in
    can_read_more old new (image_reads page ways old.world.flash.cells) 1 pages (omega arith) can way.store

-- all pages are put in
pub way_done : (pages : ℕ) (nv : NvView) (old : PageStoreView) (image : Content) (new : PageStoreView)
    → IsUnderWay nv.slots pages nv.marks old pages image new → image ≡ held_content pages nv old.world.flash.cells
way_done pages nv old image new way = all_filled pages nv old.world.flash.cells image way.filled way.size way.marks_are
