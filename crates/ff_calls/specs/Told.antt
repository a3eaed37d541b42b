-- What a history, the memory and its device are to each other.
use Rattle.std.specs.Prelude.{ℕ, ◌<◌, ◌≤◌, ◌≡◌, ◌==◌, List, length}
use Rattle.std.specs.Int.{bit_at}
use Rattle.ff_base.specs.declared.numbers.TheConstants.{PAGE_LINES}
use Rattle.ff_kept.specs.Keeping.{IsKeepingDevice}
use Rattle.ff_lines.specs.DeviceState.{DeviceState}
use Rattle.ff_memory.specs.Located.{IsLocated}
use Rattle.ff_memory.specs.Memory.{MemoryView}
use Rattle.ff_memory.specs.LineBytes.{byte_of}
use Rattle.ff_model.specs.Callers.{is_marked}
use Rattle.ff_model.specs.Flat.{IsFlat, is_born}
use Rattle.ff_model.specs.Legal.{Opening, IsLegal, faults_after}
use Rattle.ff_model.specs.declared.history.Entry.{Entry}
use Rattle.ff_table.specs.Table.{is_born_in, marks_of}

-- the memory and its device hold what the history says: each byte is the flat one, the born pages and the marked lines
-- are those of the history, and a power loss leaves what was acknowledged
pub record IsTold (opening : Opening) (entries : List Entry) (m : MemoryView) (d : DeviceState)
    : Type 0 where
  pub legal : IsLegal opening entries
  pub faults : faults_after opening entries ≤ d.faults
  pub pages : length m.table.homes ≡ opening.pages
  pub capacity : m.capacity ≡ opening.capacity
  pub flat : IsFlat opening.base entries opening.pages (byte_of m d)
  pub born : (page : ℕ) → page < opening.pages
      → is_born_in m.table page ≡ is_born opening.base entries page
  pub marks : (page line : ℕ) → line < PAGE_LINES
      → (bit_at (marks_of m.table page) line == 1) ≡ is_marked opening.base entries page line
  pub located : IsLocated m d
  pub keeping : IsKeepingDevice opening.base entries d
