-- A page table of which the pages that an image holds are born, one after another.
use Rattle.std.specs.Prelude.{if◌then◌else◌, is_some, replicate}
use Rattle.std.proofs.Common.{◌≡◌, ◌≢◌, ◌≤◌, ◌<◌, ◌+◌, ℕ, Bool, true, false, List, length, get_or, Option, inl, inr, refl, sym, ap, ap₂, ◌∙◌, arith, length-set, get_or-set_same, get_or-set_other}
use Rattle.std.proofs.lemmas.Bool.{cases_lt}
use Rattle.std.proofs.lemmas.List.{get_or-replicate, get_or_default, get_or_past, length-map, length-replicate, same_lists}
use Rattle.ff_model.specs.Image.{Content, held_page}
use Rattle.ff_table.specs.Table.{TableView, with_born}
use Rattle.ff_table.specs.declared.table.Home.{Home}
use Rattle.ff_core.specs.Resume.{pages_held}
use Rattle.ff_core.proofs.ResumeHeld.{held-each}

-- of the first pages those are born that an image holds, and no other is born yet
pub record IsBearing (base : Content) (pages count : ℕ) (old table : TableView) : Type 0 where
  pub homes : table.homes ≡ old.homes
  pub marks : table.marks ≡ old.marks
  pub size : length table.born ≡ pages
  pub done : (page : ℕ) → page < count → get_or table.born page false ≡ is_some (held_page base page)
  pub rest : (page : ℕ) → count ≤ page → get_or table.born page false ≡ false

none-born : (pages page : ℕ) → get_or (replicate pages false) page false ≡ false
none-born pages page = elim (cases_lt page pages) [
  | inl within ↦ get_or-replicate pages page false false within
  | inr past ↦ get_or_past (replicate pages false) page false (omega (arith, length-replicate pages false))
]

pub bearing-begun : (base : Content) (pages : ℕ) (table : TableView) → table.born ≡ replicate pages false
    → IsBearing base pages 0 table table
bearing-begun base pages table unborn = record {
  homes = refl;
  marks = refl;
  size = ap (λ (born : List Bool). length born) unborn ∙ length-replicate pages false;
  done = λ page below. absurd (omega arith);
  rest = λ page past. ap (λ (born : List Bool). get_or born page false) unborn ∙ none-born pages page;
}

pub bearing-more : (base : Content) (pages page : ℕ) (old table : TableView) (holds : Bool) → page < pages
    → IsBearing base pages page old table → holds ≡ is_some (held_page base page)
    → IsBearing base pages (page + 1) old (if holds then with_born page table else table)
bearing-more base pages page old table false within bearing is = record {
  homes = bearing.homes;
  marks = bearing.marks;
  size = bearing.size;
  done = λ p below. elim (cases_lt p page) [
    | inl before ↦ bearing.done p before
    | inr here ↦ (let same : p ≡ page = omega arith in rw same (bearing.rest page (omega arith) ∙ is))
  ];
  rest = λ p past. bearing.rest p (omega arith);
}
bearing-more base pages page old table true within bearing is = record {
  homes = bearing.homes;
  marks = bearing.marks;
  size = length-set table.born page true ∙ bearing.size;
  done = λ p below. elim (cases_lt p page) [
    | inl before ↦
        (let apart : p ≢ page = omega arith in
        get_or-set_other table.born page p true false apart ∙ bearing.done p before)
    | inr here ↦
        (let same : p ≡ page = omega arith in
        let size = bearing.size in
        rw same (get_or-set_same table.born page true false (omega arith) ∙ is))
  ];
  rest = λ p past.
      (let apart : p ≢ page = omega arith in
      get_or-set_other table.born page p true false apart ∙ bearing.rest p (omega arith));
}

table-of : (old table : TableView) (born : List Bool) → table.homes ≡ old.homes → table.marks ≡ old.marks → table.born ≡ born
    → table ≡ record old { born = born }
table-of old table born homes marks same =
    let sites : List Home → List ℕ → TableView = λ h m. record { homes = h; marks = m; born = table.born } in
    let made : List Bool → TableView = λ b. record { homes = old.homes; marks = old.marks; born = b } in
    ap₂ sites homes marks ∙ ap made same

pub bearing-done : (base : Content) (pages : ℕ) (old table : TableView) → length base.pages ≡ pages
    → IsBearing base pages pages old table → table ≡ record old { born = pages_held base }
bearing-done base pages old table size bearing =
    let count : length (pages_held base) ≡ pages = length-map base.pages (λ (held : Option (List ℕ)). is_some held) ∙ size in
    let same : table.born ≡ pages_held base = same_lists table.born (pages_held base) (bearing.size ∙ sym count)
    (λ k d within.
    let born = bearing.size in
    let below : k < pages = omega arith in
    let inside : k < length (pages_held base) = omega arith in
    get_or_default table.born k d false within ∙ bearing.done k below ∙ sym (held-each base k)
    ∙ sym (get_or_default (pages_held base) k d false inside)) in
    table-of old table (pages_held base) bearing.homes bearing.marks same
