-- Marked lines by address, and the stores to them.
use Rattle.std.specs.Prelude.{ℕ, ◌/◌, ◌%◌, ◌&&◌, Bool, false, List, count_by}
use Rattle.ff_base.specs.declared.numbers.TheConstants.{LINE_BYTES, PAGE_BYTES}
use Rattle.ff_model.specs.Callers.{is_marked}
use Rattle.ff_model.specs.Flat.{is_done}
use Rattle.ff_model.specs.Image.{Content}
use Rattle.ff_model.specs.declared.history.Entry.{Entry}
use Rattle.ff_model.specs.declared.op.Op.{Op}
use Rattle.ff_model.specs.declared.op.Op.TheVariants.{Load, Store, Verify, Mark, Release}

-- the line of an address is marked after a history
abbrev pub marked_at : Content → List Entry → ℕ → Bool
marked_at base history address =
    is_marked base history (address / PAGE_BYTES) (address % PAGE_BYTES / LINE_BYTES)

-- the call is a store to a marked line, by whether the line of each address is marked
abbrev pub stores_marked : (ℕ → Bool) → Op → Bool
stores_marked marked (Store at bytes) = marked at
stores_marked marked (Load at len) = false
stores_marked marked Verify = false
stores_marked marked (Mark page from count) = false
stores_marked marked (Release page from count) = false

-- an entry is a store to a marked line that was answered Done
abbrev pub is_marked_store : (ℕ → Bool) → Entry → Bool
is_marked_store marked entry = is_done entry.reply && stores_marked marked entry.op

-- how many entries are
abbrev pub marked_stores : (ℕ → Bool) → List Entry → ℕ
marked_stores marked entries = count_by (is_marked_store marked) entries
