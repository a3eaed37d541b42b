-- A mask as a set of lines below 64.
use Rattle.std.specs.Prelude.{ℕ, ◌≡◌, ◌<◌, ◌==◌, ◌-◌, ◌*◌, ◌%◌, ◌^◌, Bool, true, false, bit_and, bit_or}
use Rattle.std.specs.Int.{bit_at}
use Rattle.ff_base.specs.declared.numbers.TheConstants.{PAGE_LINES}
use Rattle.ff_lines.specs.declared.line_mask.LineMask.{LineMask}
use Rattle.ff_model.specs.Callers.{is_in_lines}

-- the line is in the set: its bit is 1
abbrev pub has_line : LineMask → ℕ → Bool
has_line mask line = bit_at mask.0 line == 1

-- every line is in the set
abbrev pub HasEveryLine : LineMask → Type 0
HasEveryLine mask = (q : ℕ) → q < PAGE_LINES → has_line mask q ≡ true

-- the set has so many lines, from one on
abbrev pub IsLineRange : ℕ → ℕ → LineMask → Type 0
IsLineRange from count mask = (line : ℕ) → line < PAGE_LINES → has_line mask line ≡ is_in_lines line from count

-- the line is the least that isn't in the set
pub record IsLeastClear (mask : LineMask) (line : ℕ) : Type 0 where
  pub in_page : line < PAGE_LINES
  pub clear : has_line mask line ≡ false
  pub least : (q : ℕ) → q < line → has_line mask q ≡ true

-- no line
abbrev pub no_lines : LineMask
no_lines = record { 0 = 0 }

-- the set with a line put in
unfoldable pub mask_with : LineMask → ℕ → LineMask
mask_with mask line = record { 0 = bit_or mask.0 (1 * 2 ^ line % 2 ^ 64) }

-- the set with a line taken out
unfoldable pub mask_without : LineMask → ℕ → LineMask
mask_without mask line = record { 0 = bit_and mask.0 (2 ^ 64 - 1 - 1 * 2 ^ line % 2 ^ 64) }

-- the lines that aren't in the set
unfoldable pub mask_others : LineMask → LineMask
mask_others mask = record { 0 = 2 ^ 64 - 1 - mask.0 }
