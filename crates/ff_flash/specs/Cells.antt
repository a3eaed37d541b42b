-- The cells of a flash, a list by their places, and what each operation makes of them.
use Rattle.std.specs.Prelude.{ℕ, ◌/◌, ◌%◌, ◌<◌, ◌≡◌, ◌==◌, if◌then◌else◌, List, [], length, slice_index_or, slice_set, Result, Ok, Err}
use Rattle.std.specs.Int.{bit_at}
use Rattle.ff_flash.specs.Injected.{Went}
use Rattle.ff_flash.specs.declared.spare.Spare.{Spare}
use Rattle.ff_flash.specs.declared.flash.Probe.{Probe}
use Rattle.ff_flash.specs.declared.flash.Probe.TheVariants.{Erased, Spoiled, Closed, Sealed}
use Rattle.ff_flash.specs.declared.flash.FlashStop.{FlashStop}
use Rattle.ff_flash.specs.declared.injected.Injected.{Injected}
use Rattle.ff_flash.specs.declared.injected.Injected.TheVariants.{Nothing, Failure, Cut, PowerOff}

-- what a page of the flash holds
pub data Cell : Type 0 where
  erased : Cell
  spoiled : Cell
  closed : List ℕ → Spare → Cell
  sealed : List ℕ → Spare → Cell

-- the cell at a place; past the end it reads as erased
abbrev pub cell_at : List Cell → ℕ → Cell
cell_at cells at = slice_index_or cells at erased

-- the page was programmed and not yet sealed
abbrev pub IsClosed : Cell → Type 0
IsClosed (closed bytes spare) = Unit {0}
IsClosed _ = ⊥

-- the page was programmed and sealed
abbrev pub IsSealed : Cell → Type 0
IsSealed (sealed bytes spare) = Unit {0}
IsSealed _ = ⊥

-- the page is erased, spoiled or closed
abbrev pub IsUnsealed : Cell → Type 0
IsUnsealed (sealed bytes spare) = ⊥
IsUnsealed _ = Unit {0}

-- the bytes of a programmed page
abbrev pub cell_bytes : Cell → List ℕ
cell_bytes (closed bytes spare) = bytes
cell_bytes (sealed bytes spare) = bytes
cell_bytes _ = []

-- what a probe tells of a cell
abbrev pub cell_probe : Cell → Probe
cell_probe erased = Erased
cell_probe spoiled = Spoiled
cell_probe (closed bytes spare) = Closed
cell_probe (sealed bytes spare) = Sealed spare

-- a closed page's cell, sealed with the same bytes and spare
abbrev pub sealed_cell : Cell → Cell
sealed_cell (closed bytes spare) = sealed bytes spare
sealed_cell cell = cell

-- an operation that may change a page: a program of these bytes and this spare, a seal, or an erase of the block
-- of which it is the page of this number
pub data Operation : Type 0 where
  program : List ℕ → Spare → Operation
  seal : Operation
  erase : ℕ → Operation

-- what an operation makes of a page's cell, by how it goes. One that is cut is half done by a mask, of which a
-- program and a seal look at bit 0, and an erase at the bit of the page's number modulo 32
abbrev pub cell_after : Operation → Injected → Cell → Cell
cell_after (program bytes spare) Nothing cell = closed bytes spare
cell_after (program bytes spare) Failure cell = spoiled
cell_after (program bytes spare) (Cut mask) cell = if bit_at mask 0 == 1 then spoiled else cell
cell_after (program bytes spare) PowerOff cell = cell
cell_after seal Nothing cell = sealed_cell cell
cell_after seal Failure cell = cell
cell_after seal (Cut mask) cell = if bit_at mask 0 == 1 then sealed_cell cell else cell
cell_after seal PowerOff cell = cell
cell_after (erase page) Nothing cell = erased
cell_after (erase page) Failure cell = cell
cell_after (erase page) (Cut mask) cell = if bit_at mask (page % 32) == 1 then spoiled else cell
cell_after (erase page) PowerOff cell = cell

-- the cells after an operation on the page at a place, by how it goes
abbrev pub cells_after : Operation → Injected → List Cell → ℕ → List Cell
cells_after operation injected cells at =
    slice_set cells at (cell_after operation injected (cell_at cells at))

-- the cell at a place after an erase of its block, or of another, by how it goes
abbrev pub cell_after_erase : ℕ → ℕ → Injected → ℕ → Cell → Cell
cell_after_erase per_block block injected place cell =
    if place / per_block == block
    then cell_after (erase (place % per_block)) injected cell
    else cell

-- each cell becomes what the change makes of it at its place
pub record ChangesEach (change : ℕ → Cell → Cell) (old new : List Cell) : Type 0 where
  pub size : length new ≡ length old
  pub each : (place : ℕ) → place < length old → cell_at new place ≡ change place (cell_at old place)

-- a probe tells of its cell; no cell changes
abbrev pub Probes : List Cell → ℕ → Result Probe FlashStop → List Cell → Type 0
Probes old at (Ok probe) new = (probe ≡ cell_probe (cell_at old at)) × (new ≡ old)
Probes old at (Err _) new = new ≡ old

-- a read gives its cell's bytes in place of those before, or leaves these; no cell changes
abbrev pub ReadsBytes : List Cell → ℕ → List ℕ → Result (Unit {0}) FlashStop → List ℕ → List Cell
    → Type 0
ReadsBytes old at before (Ok _) after new = (after ≡ cell_bytes (cell_at old at)) × (new ≡ old)
ReadsBytes old at before (Err _) after new = (after ≡ before) × (new ≡ old)

-- a program of an erased page
abbrev pub Programs : List Cell → ℕ → List ℕ → Spare → Result (Unit {0}) FlashStop → List Cell
    → Type 0
Programs old at bytes spare result new =
    Went result (λ injected. new ≡ cells_after (program bytes spare) injected old at)

-- a seal of a closed page
abbrev pub Seals : List Cell → ℕ → Result (Unit {0}) FlashStop → List Cell → Type 0
Seals old at result new = Went result (λ injected. new ≡ cells_after seal injected old at)

-- an erase of a block
abbrev pub Erases : ℕ → List Cell → ℕ → Result (Unit {0}) FlashStop → List Cell → Type 0
Erases per_block old block result new =
    Went result (λ injected. ChangesEach (cell_after_erase per_block block injected) old new)
