-- Posts and lines by address: the bytes that posts lay over a device.
use Rattle.std.specs.Prelude.{ℕ, ◌+◌, ◌*◌, ◌/◌, ◌%◌, List, [], ◌∷◌, Option, unwrap_or, slice_index}
use Rattle.ff_base.specs.declared.numbers.TheConstants.{LINE_BYTES, PAGE_BYTES}
use Rattle.ff_lines.specs.DeviceState.{DeviceState, line_at}
use Rattle.ff_lines.specs.declared.post.Post.{Post}
use Rattle.ff_model.specs.Flat.{covering_byte}
use Rattle.ff_model.specs.declared.op.Op.{Op}
use Rattle.ff_model.specs.declared.op.Op.TheVariants.{Store}

-- the store that a post is
abbrev pub store_of : Post → Op
store_of post = Store (PAGE_BYTES * post.page.0 + (LINE_BYTES * post.line + post.from)) post.bytes

-- the byte that a post stores at an address
abbrev pub posted_byte : ℕ → Post → Option ℕ
posted_byte address post = covering_byte address (store_of post)

-- the byte at an address after posts, in their order, over the one that was there
abbrev pub byte_over : ℕ → List Post → ℕ → ℕ
byte_over address [] byte = byte
byte_over address (post ∷ later) byte =
    byte_over address later (unwrap_or (posted_byte address post) byte)

-- the byte at an address, by the lines of each page
abbrev pub byte_in_lines : (ℕ → ℕ → List ℕ) → ℕ → ℕ
byte_in_lines lines address =
    slice_index
    (lines (address / PAGE_BYTES) (address % PAGE_BYTES / LINE_BYTES))
    (address % LINE_BYTES)

-- the byte of a device at an address below its posts
abbrev pub below_byte : DeviceState → ℕ → ℕ
below_byte d = byte_in_lines d.below

-- the byte of a device at an address
abbrev pub device_byte : DeviceState → ℕ → ℕ
device_byte d = byte_in_lines (line_at d)
