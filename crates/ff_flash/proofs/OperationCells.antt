-- What one operation does to a sealed cell elsewhere, to the cell at its place, and to all other cells.
use Rattle.std.proofs.Common.{◌≡◌, ◌≢◌, ◌<◌, ◌/◌, ◌%◌, inl, inr, ℕ, Bool, true, false, List, length, set, Result, refl, sym, ap, subst, ◌∙◌, arith}
use Rattle.std.specs.Prelude.{◌==◌, ◌⊎◌, if◌then◌else◌, Ok, Err}
use Rattle.std.specs.Int.{bit_at}
use Rattle.std.proofs.lemmas.Bool.{cases_lt}
use Rattle.std.proofs.lemmas.Bool.Decides.{nat_tests}
use Rattle.std.proofs.lemmas.List.{get_or-set_other, get_or-set_same, get_or_default, get_or_past, length-set, same_lists, set-get_or}
use Rattle.ff_flash.proofs.SealedCells.{closed_unsealed, never_sealed, sealed_before, sealed_stays}
use Rattle.ff_flash.specs.Cells.{Cell, ChangesEach, Erases, IsUnsealed, Programs, Seals, cell_after, cell_after_erase, cell_at, cells_after, closed, erase, erased, program, seal, sealed, sealed_cell, spoiled}
use Rattle.ff_flash.specs.Injected.{Went}
use Rattle.ff_flash.specs.declared.flash.FlashStop.{FlashStop}
use Rattle.ff_flash.specs.declared.flash.FlashStop.TheVariants.{Failed, Off}
use Rattle.ff_flash.specs.declared.injected.Injected.{Injected}
use Rattle.ff_flash.specs.declared.injected.Injected.TheVariants.{Nothing, Failure, Cut, PowerOff}
use Rattle.ff_flash.specs.declared.spare.Spare.{Spare}

-- a way in which the operation went
pub went_somehow : {T : Type 0} (result : Result T FlashStop) (Holds : Injected → Type 0) → Went result Holds
    → (injected : Injected) × Holds injected
went_somehow (Ok value) Holds went = (Nothing, went)
went_somehow (Err Failed) Holds went = (Failure, went)
went_somehow (Err Off) Holds went = (Cut went.0, went.1)

either : (b : Bool) (one other : Cell) → ((if b then one else other) ≡ one) ⊎ ((if b then one else other) ≡ other)
either true one other = inl refl
either false one other = inr refl

either_unsealed : (b : Bool) (one other : Cell) → IsUnsealed one → IsUnsealed other → IsUnsealed (if b then one else other)
either_unsealed true one other first second = first
either_unsealed false one other first second = second

-- Programs

-- no program seals
pub program_unsealed : (bytes : List ℕ) (spare : Spare) (injected : Injected) (cell : Cell) → IsUnsealed cell
    → IsUnsealed (cell_after (program bytes spare) injected cell)
program_unsealed bytes spare Nothing cell unsealed = tt
program_unsealed bytes spare Failure cell unsealed = tt
program_unsealed bytes spare (Cut mask) cell unsealed = either_unsealed (bit_at mask 0 == 1) spoiled cell tt unsealed
program_unsealed bytes spare PowerOff cell unsealed = unsealed

-- the cells with one replaced by one that is not sealed
pub record ReplacesUnsealed (old : List Cell) (at : ℕ) (new : List Cell) : Type 0 where
  pub cell : Cell
  pub unsealed : IsUnsealed cell
  pub is : new ≡ set old at cell

-- whatever becomes of a program, one cell alone is replaced, by one that is not sealed
pub program_replaces : (old : List Cell) (at : ℕ) (bytes : List ℕ) (spare : Spare) (result : Result (Unit {0}) FlashStop)
    (new : List Cell) → IsUnsealed (cell_at old at) → Programs old at bytes spare result new → ReplacesUnsealed old at new
program_replaces old at bytes spare result new unsealed programs =
    let how = went_somehow result (λ injected. new ≡ cells_after (program bytes spare) injected old at) programs in
    record {
      cell = cell_after (program bytes spare) how.0 (cell_at old at);
      unsealed = program_unsealed bytes spare how.0 (cell_at old at) unsealed;
      is = how.1;
    }

pub program_length : (old : List Cell) (at : ℕ) (bytes : List ℕ) (spare : Spare) (result : Result (Unit {0}) FlashStop)
    (new : List Cell) → Programs old at bytes spare result new → length new ≡ length old
program_length old at bytes spare result new programs =
    let how = went_somehow result (λ injected. new ≡ cells_after (program bytes spare) injected old at) programs in
    ap length how.1 ∙ length-set old at (cell_after (program bytes spare) how.0 (cell_at old at))

-- cells elsewhere stay
pub program_elsewhere : (old : List Cell) (at : ℕ) (bytes : List ℕ) (spare : Spare) (result : Result (Unit {0}) FlashStop)
    (new : List Cell) (place : ℕ) → Programs old at bytes spare result new → place ≢ at
    → cell_at new place ≡ cell_at old place
program_elsewhere old at bytes spare result new place programs apart =
    let how = went_somehow result (λ injected. new ≡ cells_after (program bytes spare) injected old at) programs in
    ap (λ (cells : List Cell). cell_at cells place) how.1
    ∙ get_or-set_other old at place (cell_after (program bytes spare) how.0 (cell_at old at)) erased apart

-- a sealed cell stays
pub program_keeps_sealed : (old : List Cell) (at : ℕ) (bytes : List ℕ) (spare : Spare)
    (result : Result (Unit {0}) FlashStop) (new : List Cell) (place : ℕ) (other_bytes : List ℕ) (other : Spare)
    → IsUnsealed (cell_at old at) → Programs old at bytes spare result new
    → cell_at old place ≡ sealed other_bytes other → cell_at new place ≡ sealed other_bytes other
program_keeps_sealed old at bytes spare result new place other_bytes other unsealed programs is =
    let replaces = program_replaces old at bytes spare result new unsealed programs in
    ap (λ (cells : List Cell). cell_at cells place) replaces.is
    ∙ sealed_stays old at replaces.cell place other_bytes other unsealed is

-- no cell is newly sealed
pub program_seals_none : (old : List Cell) (at : ℕ) (bytes : List ℕ) (spare : Spare)
    (result : Result (Unit {0}) FlashStop) (new : List Cell) (place : ℕ) (other_bytes : List ℕ) (other : Spare)
    → IsUnsealed (cell_at old at) → Programs old at bytes spare result new
    → cell_at new place ≡ sealed other_bytes other → cell_at old place ≡ sealed other_bytes other
program_seals_none old at bytes spare result new place other_bytes other unsealed programs is =
    let replaces = program_replaces old at bytes spare result new unsealed programs in
    sealed_before old at replaces.cell place other_bytes other replaces.unsealed
    (ap (λ (cells : List Cell). cell_at cells place) (sym replaces.is) ∙ is)

-- the page is closed where the program works
pub program_worked : (old : List Cell) (at : ℕ) (bytes : List ℕ) (spare : Spare) (new : List Cell) → at < length old
    → Programs old at bytes spare (Ok tt) new → cell_at new at ≡ closed bytes spare
program_worked old at bytes spare new within programs =
    ap (λ (cells : List Cell). cell_at cells at) programs ∙ get_or-set_same old at (closed bytes spare) erased within

-- it is spoiled where the program fails
pub program_failed : (old : List Cell) (at : ℕ) (bytes : List ℕ) (spare : Spare) (new : List Cell) → at < length old
    → Programs old at bytes spare (Err Failed) new → cell_at new at ≡ spoiled
program_failed old at bytes spare new within programs =
    ap (λ (cells : List Cell). cell_at cells at) programs ∙ get_or-set_same old at spoiled erased within

-- it is as before or spoiled where the power is off after it
pub program_cut : (old : List Cell) (at : ℕ) (bytes : List ℕ) (spare : Spare) (new : List Cell) → at < length old
    → Programs old at bytes spare (Err Off) new → (cell_at new at ≡ spoiled) ⊎ (cell_at new at ≡ cell_at old at)
program_cut old at bytes spare new within programs =
    let is : cell_at new at ≡ (if bit_at programs.0 0 == 1 then spoiled else cell_at old at) =
    ap (λ (cells : List Cell). cell_at cells at) programs.1
    ∙ get_or-set_same old at (cell_after (program bytes spare) (Cut programs.0) (cell_at old at)) erased within in
    elim (either (bit_at programs.0 0 == 1) spoiled (cell_at old at)) [
      | inl one ↦ inl (is ∙ one)
      | inr other ↦ inr (is ∙ other)
    ]

-- Seals

-- the page is sealed with its bytes and spare where the seal works
pub seal_worked : (old : List Cell) (at : ℕ) (bytes : List ℕ) (spare : Spare) (new : List Cell)
    → cell_at old at ≡ closed bytes spare → Seals old at (Ok tt) new → new ≡ set old at (sealed bytes spare)
seal_worked old at bytes spare new is seals = seals ∙ ap (λ (cell : Cell). set old at (sealed_cell cell)) is

-- no cell changes where the seal fails
pub seal_failed : (old : List Cell) (at : ℕ) (new : List Cell) → Seals old at (Err Failed) new → new ≡ old
seal_failed old at new seals = seals ∙ set-get_or old at erased

-- whatever becomes of a seal, no cell changes or the page is sealed
pub seal_either : (old : List Cell) (at : ℕ) (bytes : List ℕ) (spare : Spare) (result : Result (Unit {0}) FlashStop)
    (new : List Cell) → cell_at old at ≡ closed bytes spare → Seals old at result new
    → (new ≡ set old at (sealed bytes spare)) ⊎ (new ≡ old)
seal_either old at bytes spare (Ok tt) new is seals = inl (seal_worked old at bytes spare new is seals)
seal_either old at bytes spare (Err Failed) new is seals = inr (seal_failed old at new seals)
seal_either old at bytes spare (Err Off) new is seals =
    elim (either (bit_at seals.0 0 == 1) (sealed_cell (cell_at old at)) (cell_at old at)) [
      | inl one ↦ inl (seals.1 ∙ ap (λ (cell : Cell). set old at cell) (one ∙ ap sealed_cell is))
      | inr other ↦ inr (seals.1 ∙ ap (λ (cell : Cell). set old at cell) other ∙ set-get_or old at erased)
    ]

pub seal_length : (old : List Cell) (at : ℕ) (result : Result (Unit {0}) FlashStop) (new : List Cell)
    → Seals old at result new → length new ≡ length old
seal_length old at result new seals =
    let how = went_somehow result (λ injected. new ≡ cells_after seal injected old at) seals in
    ap length how.1 ∙ length-set old at (cell_after seal how.0 (cell_at old at))

-- cells elsewhere stay
pub seal_elsewhere : (old : List Cell) (at : ℕ) (result : Result (Unit {0}) FlashStop) (new : List Cell) (place : ℕ)
    → Seals old at result new → place ≢ at → cell_at new place ≡ cell_at old place
seal_elsewhere old at result new place seals apart =
    let how = went_somehow result (λ injected. new ≡ cells_after seal injected old at) seals in
    ap (λ (cells : List Cell). cell_at cells place) how.1
    ∙ get_or-set_other old at place (cell_after seal how.0 (cell_at old at)) erased apart

-- a sealed cell stays
pub seal_keeps_sealed : (old : List Cell) (at : ℕ) (bytes : List ℕ) (spare : Spare)
    (result : Result (Unit {0}) FlashStop) (new : List Cell) (place : ℕ) (other_bytes : List ℕ) (other : Spare)
    → cell_at old at ≡ closed bytes spare → Seals old at result new
    → cell_at old place ≡ sealed other_bytes other → cell_at new place ≡ sealed other_bytes other
seal_keeps_sealed old at bytes spare result new place other_bytes other closed_is seals is =
    elim (seal_either old at bytes spare result new closed_is seals) [
      | inl one ↦
          ap (λ (cells : List Cell). cell_at cells place) one
          ∙ sealed_stays old at (sealed bytes spare) place other_bytes other
          (closed_unsealed (cell_at old at) bytes spare closed_is) is
      | inr same ↦ ap (λ (cells : List Cell). cell_at cells place) same ∙ is
    ]

-- Erases

pub erase_length : (per_block : ℕ) (old : List Cell) (block : ℕ) (result : Result (Unit {0}) FlashStop)
    (new : List Cell) → Erases per_block old block result new → length new ≡ length old
erase_length per_block old block result new erases =
    let how = went_somehow result (λ injected. ChangesEach (cell_after_erase per_block block injected) old new) erases in
    how.1.size

-- a cell after a change of each: a place past the end stays
changed_cell : (per_block : ℕ) (old : List Cell) (block : ℕ) (injected : Injected) (new : List Cell) (place : ℕ)
    → ChangesEach (cell_after_erase per_block block injected) old new
    → (cell_at new place ≡ cell_after_erase per_block block injected place (cell_at old place))
    ⊎ (cell_at new place ≡ cell_at old place)
changed_cell per_block old block injected new place changes = elim (cases_lt place (length old)) [
  | inl within ↦ inl (changes.each place within)
  | inr past ↦
      let size = changes.size in
      inr (get_or_past new place erased (omega arith) ∙ sym (get_or_past old place erased past))
]

-- cells of other blocks stay
pub erase_elsewhere : (per_block : ℕ) (old : List Cell) (block : ℕ) (result : Result (Unit {0}) FlashStop)
    (new : List Cell) (place : ℕ) → Erases per_block old block result new → place / per_block ≢ block
    → cell_at new place ≡ cell_at old place
erase_elsewhere per_block old block result new place erases apart =
    let how = went_somehow result (λ injected. ChangesEach (cell_after_erase per_block block injected) old new) erases in
    let test : (place / per_block == block) ≡ false = grind (arith, nat_tests) in
    elim (changed_cell per_block old block how.0 new place how.1) [
      | inl changed ↦
          changed
          ∙ ap (λ (b : Bool). if b then cell_after (erase (place % per_block)) how.0 (cell_at old place) else cell_at old place) test
      | inr same ↦ same
    ]

-- the pages of the block are erased where the erase works
pub erase_worked : (per_block : ℕ) (old : List Cell) (block : ℕ) (new : List Cell) (place : ℕ)
    → Erases per_block old block (Ok tt) new → place / per_block ≡ block → cell_at new place ≡ erased
erase_worked per_block old block new place erases here = elim (cases_lt place (length old)) [
  | inl within ↦
      let test : (place / per_block == block) ≡ true = grind (arith, nat_tests) in
      erases.each place within ∙ ap (λ (b : Bool). if b then erased else cell_at old place) test
  | inr past ↦ let size = erases.size in get_or_past new place erased (omega arith)
]

either_same : (b : Bool) (cell : Cell) → (if b then cell else cell) ≡ cell
either_same true cell = refl
either_same false cell = refl

-- cells that stay at each place are the same
same_cells : (per_block : ℕ) (old : List Cell) (block : ℕ) (injected : Injected) (new : List Cell)
    → ((page : ℕ) (cell : Cell) → cell_after (erase page) injected cell ≡ cell)
    → ChangesEach (cell_after_erase per_block block injected) old new → new ≡ old
same_cells per_block old block injected new stays changes = same_lists new old changes.size (λ place d within.
    let size = changes.size in
    let inside : place < length old = omega arith in
    get_or_default new place d erased within
    ∙ changes.each place inside
    ∙ ap (λ (cell : Cell). if place / per_block == block then cell else cell_at old place) (stays (place % per_block) (cell_at old place))
    ∙ either_same (place / per_block == block) (cell_at old place)
    ∙ get_or_default old place erased d inside)

-- no cell changes where the erase fails
pub erase_failed : (per_block : ℕ) (old : List Cell) (block : ℕ) (new : List Cell)
    → Erases per_block old block (Err Failed) new → new ≡ old
erase_failed per_block old block new erases = same_cells per_block old block Failure new (λ page cell. refl) erases

-- nor where the power was off before it
pub erase_off : (per_block : ℕ) (old : List Cell) (block : ℕ) (injected : Injected) (new : List Cell)
    → injected ≡ PowerOff → ChangesEach (cell_after_erase per_block block injected) old new → new ≡ old
erase_off per_block old block injected new off changes =
    same_cells per_block old block PowerOff new (λ page cell. refl)
    (subst (λ (how : Injected). ChangesEach (cell_after_erase per_block block how) old new) off changes)

-- a cell that is sealed after an erase of it was so before
erase_unseals : (injected : Injected) (page : ℕ) (cell : Cell) (bytes : List ℕ) (spare : Spare)
    → cell_after (erase page) injected cell ≡ sealed bytes spare → cell ≡ sealed bytes spare
erase_unseals Nothing page cell bytes spare is = cc
erase_unseals Failure page cell bytes spare is = is
erase_unseals (Cut mask) page cell bytes spare is = elim (either (bit_at mask (page % 32) == 1) spoiled cell) [
  | inl one ↦ absurd (never_sealed spoiled bytes spare tt (sym one ∙ is))
  | inr other ↦ sym other ∙ is
]
erase_unseals PowerOff page cell bytes spare is = is

sealed_either : (b : Bool) (one other : Cell) (bytes : List ℕ) (spare : Spare)
    → (one ≡ sealed bytes spare → other ≡ sealed bytes spare)
    → (if b then one else other) ≡ sealed bytes spare → other ≡ sealed bytes spare
sealed_either true one other bytes spare from is = from is
sealed_either false one other bytes spare from is = is

-- no cell is newly sealed
pub erase_seals_none : (per_block : ℕ) (old : List Cell) (block : ℕ) (result : Result (Unit {0}) FlashStop)
    (new : List Cell) (place : ℕ) (bytes : List ℕ) (spare : Spare) → Erases per_block old block result new
    → cell_at new place ≡ sealed bytes spare → cell_at old place ≡ sealed bytes spare
erase_seals_none per_block old block result new place bytes spare erases is =
    let how = went_somehow result (λ injected. ChangesEach (cell_after_erase per_block block injected) old new) erases in
    elim (changed_cell per_block old block how.0 new place how.1) [
      | inl changed ↦
          sealed_either (place / per_block == block) (cell_after (erase (place % per_block)) how.0 (cell_at old place))
          (cell_at old place) bytes spare
          (erase_unseals how.0 (place % per_block) (cell_at old place) bytes spare) (sym changed ∙ is)
      | inr same ↦ sym same ∙ is
    ]

-- a page of the block is as before or spoiled where the power is off after the erase
pub erase_cut : (per_block : ℕ) (old : List Cell) (block : ℕ) (new : List Cell) (place : ℕ)
    → Erases per_block old block (Err Off) new → (cell_at new place ≡ spoiled) ⊎ (cell_at new place ≡ cell_at old place)
erase_cut per_block old block new place erases = elim (changed_cell per_block old block (Cut erases.0) new place erases.1) [
  | inl changed ↦
      elim (either (place / per_block == block) (cell_after (erase (place % per_block)) (Cut erases.0) (cell_at old place)) (cell_at old place)) [
        | inl one ↦
            elim (either (bit_at erases.0 (place % per_block % 32) == 1) spoiled (cell_at old place)) [
              | inl spoils ↦ inl (changed ∙ one ∙ spoils)
              | inr stays ↦ inr (changed ∙ one ∙ stays)
            ]
        | inr other ↦ inr (changed ∙ other)
      ]
  | inr same ↦ inr same
]
