-- Cells as the simulated states of pages with their bytes.
use Rattle.std.proofs.Common.{◌≡◌, ◌≢◌, ◌≤◌, ◌<◌, ◌+◌, ◌*◌, ◌/◌, ◌%◌, inl, inr, ℕ, zero, suc, Bool, true, false, List, [], ◌∷◌, length, get_or, set, refl, sym, ap, subst, ◌∙◌, arith}
use Rattle.std.specs.Prelude.{replicate, ◌==◌, ◌⊎◌, if◌then◌else◌}
use Rattle.std.specs.Int.{bit_at}
use Rattle.std.proofs.Math.Nat.{div-add-mod, mod-lt, mul-le-mul_left, mul_comm}
use Rattle.std.proofs.lemmas.Bool.{cases_eq, cases_lt}
use Rattle.std.proofs.lemmas.Bool.Decides.{nat_tests}
use Rattle.std.proofs.lemmas.List.{set-get_or, get_or-set_same, get_or-set_other, length-set, get_or_default, get_or_past}
use Rattle.ff_base.specs.declared.numbers.TheConstants.{PAGE_BYTES}
use Rattle.ff_flash.specs.Cells.{Cell, Operation, erased, spoiled, closed, sealed, program, seal, erase, cell_after, cell_after_erase, cell_at, cells_after, cell_bytes, sealed_cell, ChangesEach, IsSealed}
use Rattle.ff_flash.specs.PageState.{ChangesState, ErasesStates, cell_of, cells_of, page_state_at}
use Rattle.ff_flash.specs.SimFlash.{HasPageBytes}
use Rattle.ff_flash.specs.declared.injected.Injected.{Injected}
use Rattle.ff_flash.specs.declared.injected.Injected.TheVariants.{Nothing, Failure, Cut, PowerOff}
use Rattle.ff_flash.specs.declared.page_states.PageState.{PageState}
use Rattle.ff_flash.specs.declared.spare.Spare.{Spare}
use Rattle.ff_flash.specs.declared.page_states.PageState.TheVariants.{Erased, Spoiled, Closed, Sealed}

-- there is a cell for each page
pub length-cells_of : (states : List PageState) (pages : List (List ℕ)) → length pages ≡ length states
    → length (cells_of states pages) ≡ length states
length-cells_of [] pages size = refl
length-cells_of (state ∷ states) [] size = absurd (omega arith)
length-cells_of (state ∷ states) (page ∷ pages) size = ap suc (length-cells_of states pages (omega arith))

-- the cell at a place is of the state and the bytes there
pub cell_at-cells_of : (states : List PageState) (pages : List (List ℕ)) (at : ℕ)
    → length pages ≡ length states
    → cell_at (cells_of states pages) at ≡ cell_of (page_state_at states at) (get_or pages at [])
cell_at-cells_of [] pages at size = refl
cell_at-cells_of (state ∷ states) [] at size = absurd (omega arith)
cell_at-cells_of (state ∷ states) (page ∷ pages) zero size = refl
cell_at-cells_of (state ∷ states) (page ∷ pages) (suc at) size =
    cell_at-cells_of states pages at (omega arith)

cells_of-set : (states : List PageState) (pages : List (List ℕ)) (at : ℕ) (state : PageState) (page : List ℕ)
    → length pages ≡ length states
    → cells_of (set states at state) (set pages at page) ≡ set (cells_of states pages) at (cell_of state page)
cells_of-set [] pages at state page size = refl
cells_of-set (s ∷ states) [] at state page size = absurd (omega arith)
cells_of-set (s ∷ states) (p ∷ pages) zero state page size = refl
cells_of-set (s ∷ states) (p ∷ pages) (suc at) state page size =
    ap (λ (cells : List Cell). cell_of s p ∷ cells) (cells_of-set states pages at state page (omega arith))

-- a place of the cells is one of the states
pub place_within : (states : List PageState) (pages : List (List ℕ)) (at : ℕ) → length pages ≡ length states
    → at < length (cells_of states pages) → at < length states
place_within states pages at size lies = let same = length-cells_of states pages size in omega arith

-- what an index answers at a place
pub state_is : (states : List PageState) (at : ℕ) (state : PageState) → at < length states
    → state ≡ get_or states at state → state ≡ page_state_at states at
state_is states at state lies is = is ∙ get_or_default states at state Erased lies

-- the state of an erased page
pub erased_state : (state : PageState) (page : List ℕ) → cell_of state page ≡ erased → state ≡ Erased
erased_state Erased page is = refl
erased_state Spoiled page is = cc
erased_state (Closed spare) page is = cc
erased_state (Sealed spare) page is = cc

-- the cells after the state at a place changed, by what the change makes of cells
pub changed_cells : (operation : List ℕ → Operation) (injected : Injected) (old new : List PageState)
    (pages : List (List ℕ)) (at : ℕ) → length pages ≡ length old
    → ChangesState old at new (λ bytes. cell_after (operation bytes) injected)
    → cells_of new pages ≡ cells_after (operation (get_or pages at [])) injected (cells_of old pages) at
changed_cells operation injected old new pages at size changes =
    let state : PageState = page_state_at new at in
    let page : List ℕ = get_or pages at [] in
    ap (λ (states : List PageState). cells_of states pages) changes.only
    ∙ ap (λ (all : List (List ℕ)). cells_of (set old at state) all) (sym (set-get_or pages at []))
    ∙ cells_of-set old pages at state page size
    ∙ ap (λ (cell : Cell). set (cells_of old pages) at cell)
    (changes.there page ∙ ap (λ (cell : Cell). cell_after (operation page) injected cell) (sym (cell_at-cells_of old pages at size)))

-- an erased page's bytes do not show
pub put_erased : (states : List PageState) (pages : List (List ℕ)) (at : ℕ) (bytes : List ℕ)
    → length pages ≡ length states → cell_at (cells_of states pages) at ≡ erased
    → cells_of states (set pages at bytes) ≡ cells_of states pages
put_erased states pages at bytes size is =
    let state : page_state_at states at ≡ Erased =
    erased_state (page_state_at states at) (get_or pages at []) (sym (cell_at-cells_of states pages at size) ∙ is) in
    ap (λ (all : List PageState). cells_of all (set pages at bytes)) (sym (set-get_or states at Erased))
    ∙ cells_of-set states pages at (page_state_at states at) bytes size
    ∙ ap (λ (s : PageState). set (cells_of states pages) at (cell_of s bytes)) state
    ∙ ap (λ (cell : Cell). set (cells_of states pages) at cell) (sym is)
    ∙ set-get_or (cells_of states pages) at erased

-- the cells after a program of an erased page, whose bytes are put in any case
pub programmed_cells : (bytes : List ℕ) (spare : Spare) (injected : Injected) (old new : List PageState)
    (pages pages2 : List (List ℕ)) (at : ℕ) → at < length old → length pages ≡ length old
    → cell_at (cells_of old pages) at ≡ erased → pages2 ≡ set pages at bytes
    → ChangesState old at new (λ page. cell_after (program page spare) injected)
    → cells_of new pages2 ≡ cells_after (program bytes spare) injected (cells_of old pages) at
programmed_cells bytes spare injected old new pages pages2 at lies size is put changes =
    let there : at < length pages = omega arith in
    let put_size = length-set pages at bytes in
    let new_size : length (set pages at bytes) ≡ length old = omega arith in
    ap (λ (all : List (List ℕ)). cells_of new all) put
    ∙ changed_cells (λ page. program page spare) injected old new (set pages at bytes) at new_size changes
    ∙ ap (λ (page : List ℕ). cells_after (program page spare) injected (cells_of old (set pages at bytes)) at) (get_or-set_same pages at bytes [] there)
    ∙ ap (λ (cells : List Cell). cells_after (program bytes spare) injected cells at) (put_erased old pages at bytes size is)

one_more_le : (a b : ℕ) → a < b → a + 1 ≤ b
one_more_le a b lt = omega arith

-- a place that lies in no block's range is of another block
elsewhere : (n block place : ℕ) → 0 < n → place / n ≢ block → (place < block * n) ⊎ (block * n + n ≤ place)
elsewhere n block place some other =
    let whole = div-add-mod place n in
    let rest : place % n < n = mod-lt place some in
    let swap = mul_comm block n in
    elim (cases_lt (place / n) block) [
      | inl before ↦
          let most = mul-le-mul_left n (one_more_le (place / n) block before) in
          let split : n * (place / n + 1) ≡ n * (place / n) + n = omega arith in
          inl (omega arith)
      | inr not_before ↦
          let after : block < place / n = omega arith in
          let most = mul-le-mul_left n (one_more_le block (place / n) after) in
          let split : n * (block + 1) ≡ n * block + n = omega arith in
          inr (omega arith)
    ]

-- a place of a block is behind the block's first
in_block : (n block place : ℕ) → place / n ≡ block → block * n + place % n ≡ place
in_block n block place here =
    let whole = div-add-mod place n in
    let swap = mul_comm block n in
    let at : n * (place / n) ≡ n * block = ap (λ (q : ℕ). n * q) here in
    omega arith

-- the cell at a place after the states of a block were erased
pub erased_cell_at : (n block : ℕ) (injected : Injected) (old new : List PageState) (bytes : List ℕ) (place : ℕ) → 0 < n
    → ErasesStates (block * n) n injected old new
    → cell_of (page_state_at new place) bytes
    ≡ cell_after_erase n block injected place (cell_of (page_state_at old place) bytes)
erased_cell_at n block injected old new bytes place some erases = elim (cases_eq (place / n) block) [
  | inl here ↦
      let test : (place / n == block) ≡ true = grind (arith, nat_tests) in
      rw test
      (subst (λ (at : ℕ). cell_of (page_state_at new at) bytes ≡ cell_after (erase (place % n)) injected (cell_of (page_state_at old at) bytes))
      (in_block n block place here) (erases.inside (place % n) bytes (mod-lt place some)))
  | inr other ↦
      let test : (place / n == block) ≡ false = grind (arith, nat_tests) in
      rw test (ap (λ (s : PageState). cell_of s bytes) (erases.outside place (elsewhere n block place some other)))
]

-- the cells after the states of a block were erased
pub erased_cells : (n block : ℕ) (injected : Injected) (old new : List PageState) (pages : List (List ℕ)) → 0 < n
    → length pages ≡ length old → ErasesStates (block * n) n injected old new
    → ChangesEach (cell_after_erase n block injected) (cells_of old pages) (cells_of new pages)
erased_cells n block injected old new pages some size erases =
    let sizes = erases.size in
    let new_size : length pages ≡ length new = omega arith in
    let old_cells = length-cells_of old pages size in
    let new_cells = length-cells_of new pages new_size in
    record {
      size = omega arith;
      each = λ place within.
          cell_at-cells_of new pages place new_size
          ∙ erased_cell_at n block injected old new (get_or pages place []) place some erases
          ∙ ap (λ (cell : Cell). cell_after_erase n block injected place cell) (sym (cell_at-cells_of old pages place size));
    }

-- the bytes that an operation programs are those of a page
abbrev pub WritesPage : Operation → Type 0
WritesPage (program bytes spare) = length bytes ≡ PAGE_BYTES
WritesPage _ = Unit {0}

full_either : (b : Bool) (one other : Cell) → HasPageBytes one → HasPageBytes other → HasPageBytes (if b then one else other)
full_either true one other first second = first
full_either false one other first second = second

full_sealed : (cell : Cell) → HasPageBytes cell → HasPageBytes (sealed_cell cell)
full_sealed erased full = tt
full_sealed spoiled full = tt
full_sealed (closed bytes spare) full = full
full_sealed (sealed bytes spare) full = full

-- a programmed page has its bytes after each operation
pub full_after : (operation : Operation) (injected : Injected) (cell : Cell) → WritesPage operation → HasPageBytes cell
    → HasPageBytes (cell_after operation injected cell)
full_after (program bytes spare) Nothing cell page full = page
full_after (program bytes spare) Failure cell page full = tt
full_after (program bytes spare) (Cut mask) cell page full = full_either (bit_at mask 0 == 1) spoiled cell tt full
full_after (program bytes spare) PowerOff cell page full = full
full_after seal Nothing cell page full = full_sealed cell full
full_after seal Failure cell page full = full
full_after seal (Cut mask) cell page full =
    full_either (bit_at mask 0 == 1) (sealed_cell cell) cell (full_sealed cell full) full
full_after seal PowerOff cell page full = full
full_after (erase i) Nothing cell page full = tt
full_after (erase i) Failure cell page full = full
full_after (erase i) (Cut mask) cell page full = full_either (bit_at mask (i % 32) == 1) spoiled cell tt full
full_after (erase i) PowerOff cell page full = full

full-set : (cells : List Cell) (at : ℕ) (cell : Cell) → ((place : ℕ) → HasPageBytes (cell_at cells place)) → HasPageBytes cell
    → (place : ℕ) → HasPageBytes (cell_at (set cells at cell) place)
full-set [] at cell all full place = all place
full-set (c ∷ cells) zero cell all full zero = full
full-set (c ∷ cells) zero cell all full (suc place) = all (suc place)
full-set (c ∷ cells) (suc at) cell all full zero = all zero
full-set (c ∷ cells) (suc at) cell all full (suc place) = full-set cells at cell (λ p. all (suc p)) full place

pub full_cells : (operation : Operation) (injected : Injected) (cells : List Cell) (at : ℕ) → WritesPage operation
    → ((place : ℕ) → HasPageBytes (cell_at cells place)) → (place : ℕ) → HasPageBytes (cell_at (cells_after operation injected cells at) place)
full_cells operation injected cells at page all place =
    full-set cells at (cell_after operation injected (cell_at cells at)) all
    (full_after operation injected (cell_at cells at) page (all at)) place

pub full_block : (n block : ℕ) (injected : Injected) (old new : List Cell) → ChangesEach (cell_after_erase n block injected) old new
    → ((place : ℕ) → HasPageBytes (cell_at old place)) → (place : ℕ) → HasPageBytes (cell_at new place)
full_block n block injected old new changes all place = elim (cases_lt place (length old)) [
  | inl within ↦
      subst (λ (cell : Cell). HasPageBytes cell) (sym (changes.each place within))
      (full_either (place / n == block) (cell_after (erase (place % n)) injected (cell_at old place)) (cell_at old place)
      (full_after (erase (place % n)) injected (cell_at old place) tt (all place)) (all place))
  | inr past ↦
      let size = changes.size in
      subst (λ (cell : Cell). HasPageBytes cell) (sym (get_or_past new place erased (omega arith))) tt
]

-- a sealed page's bytes are those of its place
pub read_is : (state : PageState) (page : List ℕ) → IsSealed (cell_of state page) → page ≡ cell_bytes (cell_of state page)
read_is Erased page is = absurd is
read_is Spoiled page is = absurd is
read_is (Closed spare) page is = absurd is
read_is (Sealed spare) page is = refl

-- a sealed page has the bytes of a page
pub read_size : (cell : Cell) → IsSealed cell → HasPageBytes cell → length (cell_bytes cell) ≡ PAGE_BYTES
read_size erased is full = absurd is
read_size spoiled is full = absurd is
read_size (closed bytes spare) is full = absurd is
read_size (sealed bytes spare) is full = full

-- the cells of pages that were never programmed
pub fresh_cells : (n : ℕ) → cells_of (replicate n Erased) (replicate n []) ≡ replicate n erased
fresh_cells zero = refl
fresh_cells (suc n) = ap (λ (cells : List Cell). erased ∷ cells) (fresh_cells n)

pub full_fresh : (n place : ℕ) → HasPageBytes (cell_at (replicate n erased) place)
full_fresh zero place = tt
full_fresh (suc n) zero = tt
full_fresh (suc n) (suc place) = full_fresh n place

-- one more page of a block was erased
pub erases_more : (first i : ℕ) (injected : Injected) (old mid : List PageState) (state : PageState)
    → first + i < length mid → ErasesStates first i injected old mid
    → ((bytes : List ℕ) → cell_of state bytes ≡ cell_after (erase i) injected (cell_of (page_state_at mid (first + i)) bytes))
    → ErasesStates first (i + 1) injected old (set mid (first + i) state)
erases_more first i injected old mid state lies erases now = record {
  size = length-set mid (first + i) state ∙ erases.size;
  inside = λ page bytes within. elim (cases_eq page i) [
    | inl here ↦
        subst (λ (p : ℕ). cell_of (page_state_at (set mid (first + i) state) (first + p)) bytes ≡ cell_after (erase p) injected (cell_of (page_state_at old (first + p)) bytes))
        (sym here)
        (ap (λ (s : PageState). cell_of s bytes) (get_or-set_same mid (first + i) state Erased lies) ∙ now bytes
        ∙ ap (λ (s : PageState). cell_after (erase i) injected (cell_of s bytes)) (erases.outside (first + i) (inr (omega arith))))
    | inr other ↦
        let apart : first + page ≢ first + i = λ e. other (omega arith) in
        ap (λ (s : PageState). cell_of s bytes) (get_or-set_other mid (first + i) (first + page) state Erased apart)
        ∙ erases.inside page bytes (omega arith)
  ];
  outside = λ place past. elim past [
    | inl before ↦
        let apart : place ≢ first + i = omega arith in
        get_or-set_other mid (first + i) place state Erased apart ∙ erases.outside place (inl before)
    | inr behind ↦
        let apart : place ≢ first + i = omega arith in
        get_or-set_other mid (first + i) place state Erased apart ∙ erases.outside place (inr (omega arith))
  ];
}
