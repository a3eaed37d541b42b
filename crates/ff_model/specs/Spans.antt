-- Which bytes and lines a call may name.
use Rattle.std.specs.Prelude.{ℕ, ◌+◌, ◌*◌, ◌%◌, ◌&&◌, nat_le, nat_lt, Bool, true, length}
use Rattle.ff_base.specs.Page.{page_lines}
use Rattle.ff_base.specs.declared.numbers.TheConstants.{LINE_BYTES, PAGE_BYTES}
use Rattle.ff_model.specs.declared.op.Op.{Op}
use Rattle.ff_model.specs.declared.op.Op.TheVariants.{Load, Store, Verify, Mark, Release}

-- a span of bytes is some bytes of one line of the pages
abbrev pub is_span : ℕ → ℕ → ℕ → Bool
is_span pages at len =
    nat_le 1 len && nat_le len LINE_BYTES && nat_le (at % LINE_BYTES + len) LINE_BYTES
    && nat_le (at + len) (pages * PAGE_BYTES)

-- a range of lines is some lines of one of the pages
abbrev pub is_line_range : ℕ → ℕ → ℕ → ℕ → Bool
is_line_range pages page from count = nat_lt page pages && nat_le 1 count && nat_le (from + count) page_lines

-- the call is in range
abbrev pub is_in_range : ℕ → Op → Bool
is_in_range pages (Load at len) = is_span pages at len
is_in_range pages (Store at bytes) = is_span pages at (length bytes)
is_in_range pages Verify = true
is_in_range pages (Mark page from count) = is_line_range pages page.0 from count
is_in_range pages (Release page from count) = is_line_range pages page.0 from count
