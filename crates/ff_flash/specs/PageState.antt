-- The simulated states of pages, and the cells that they are with the pages' bytes.
use Rattle.std.specs.Prelude.{ℕ, ◌+◌, ◌<◌, ◌≤◌, ◌≡◌, ◌⊎◌, List, [], ◌∷◌, length, slice_index_or, slice_set}
use Rattle.ff_flash.specs.Cells.{Cell, cell_after, erase, erased, spoiled, closed, sealed}
use Rattle.ff_flash.specs.declared.injected.Injected.{Injected}
use Rattle.ff_flash.specs.declared.page_states.PageState.{PageState}
use Rattle.ff_flash.specs.declared.page_states.PageState.TheVariants.{Erased, Spoiled, Closed, Sealed}

-- the cell of a page in this state with these bytes
abbrev pub cell_of : PageState → List ℕ → Cell
cell_of Erased bytes = erased
cell_of Spoiled bytes = spoiled
cell_of (Closed spare) bytes = closed bytes spare
cell_of (Sealed spare) bytes = sealed bytes spare

-- the cells of pages in these states with their bytes, one by one
abbrev pub cells_of : List PageState → List (List ℕ) → List Cell
cells_of [] pages = []
cells_of (state ∷ states) [] = []
cells_of (state ∷ states) (page ∷ pages) = cell_of state page ∷ cells_of states pages

-- the simulated state at a place; past the end it reads as erased
abbrev pub page_state_at : List PageState → ℕ → PageState
page_state_at states place = slice_index_or states place Erased

-- the state at a place alone changes, and whatever bytes its page has, its cell becomes what the change makes of it
pub record ChangesState (old : List PageState) (at : ℕ) (new : List PageState)
    (change : List ℕ → Cell → Cell) : Type 0 where
  pub only : new ≡ slice_set old at (page_state_at new at)
  pub there : (bytes : List ℕ)
      → cell_of (page_state_at new at) bytes ≡ change bytes (cell_of (page_state_at old at) bytes)

-- the states of so many pages of a block, from its first on, change as by an erase, whatever bytes they have
pub record ErasesStates (first count : ℕ) (injected : Injected) (old new : List PageState)
    : Type 0 where
  pub size : length new ≡ length old
  pub inside : (page : ℕ) (bytes : List ℕ) → page < count
      → cell_of (page_state_at new (first + page)) bytes
      ≡ cell_after (erase page) injected (cell_of (page_state_at old (first + page)) bytes)
  pub outside : (place : ℕ) → (place < first) ⊎ (first + count ≤ place)
      → page_state_at new place ≡ page_state_at old place
