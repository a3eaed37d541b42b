-- What the fields of a record say.
use Rattle.std.specs.Prelude.{ℕ, ◌+◌, ◌-◌, ◌*◌, ◌^◌, ◌==◌, ◌&&◌, nat_le, nat_lt, Bool, false, if◌then◌else◌, List, [], ◌∷◌, length, fold, codes, Option, Some, None, option_map, unwrap_or, take, drop, position}
use Rattle.std.specs.Char.{is_ascii_digit}
use Rattle.std.specs.List.{list_all}
use Rattle.std.specs.Str.{bytes_eq}
use Rattle.hex.specs.Hex.{decode_of, hex_digit_value}
use Rattle.std.specs.Result.{result_ok}
use Rattle.ff_base.specs.Page.{page_lines}
use Rattle.ff_base.specs.declared.numbers.TheConstants.{LINE_BYTES}
use Rattle.ff_model.specs.declared.counts.Kind.{Kind}
use Rattle.ff_model.specs.declared.counts.Kind.TheVariants.{Promote, Evict, Collect, Drain}
use Rattle.ff_model.specs.declared.op.Op.{Op}
use Rattle.ff_model.specs.declared.op.Op.TheVariants.{Load, Store, Verify, Mark, Release}
use Rattle.ff_trace.specs.declared.fields.LineRange.{LineRange}
use Rattle.ff_trace.specs.declared.row.Row.{Row}
use Rattle.ff_trace.specs.declared.row.Row.TheVariants.{Call, Turns, Power}

-- the value of decimal digits
abbrev pub digits_value : List ℕ → ℕ
digits_value digits = fold (λ value digit. 10 * value + (digit - 48)) 0 digits

-- one to ten decimal digits of a value below 2^32
abbrev pub is_number : List ℕ → Bool
is_number field =
    nat_le 1 (length field) && nat_le (length field) 10 && list_all is_ascii_digit field
    && nat_lt (digits_value field) (2 ^ 32)

-- a number
abbrev pub number_of : List ℕ → Option ℕ
number_of field = if is_number field then Some (digits_value field) else None

-- at most 64 bytes, as an even count of hexadecimal digits of either case
abbrev pub hex_bytes_of : List ℕ → Option (List ℕ)
hex_bytes_of field = if nat_le (length field) (2 * LINE_BYTES) then result_ok (decode_of field) else None

-- the value of a hexadecimal digit, and 16 for any other byte
abbrev pub digit_or_sixteen : ℕ → ℕ
digit_or_sixteen byte = unwrap_or (hex_digit_value byte) 16

-- what two values make, where both are there
abbrev pub both_of : {A B C : Type 0} → (A → B → C) → Option A → Option B → Option C
both_of make (Some a) (Some b) = Some (make a b)
both_of make (Some a) None = None
both_of make None b = None

-- a field that is to be empty
abbrev pub if_empty : {A : Type 0} → List ℕ → Option A → Option A
if_empty [] found = found
if_empty (byte ∷ bytes) found = None

-- the position in a field of its first `+`
abbrev pub plus_at : List ℕ → Option ℕ
plus_at field = position (λ byte. byte == 43) field

-- a first line and a count of lines
abbrev pub make_range : ℕ → ℕ → LineRange
make_range from count = record { from = from; count = count }

-- the two numbers before and behind the `+` at a position
abbrev pub range_at : List ℕ → Option ℕ → Option LineRange
range_at field None = None
range_at field (Some at) = both_of make_range (number_of (take at field)) (number_of (drop (at + 1) field))

-- a range of lines: all lines where the field is empty, else the first line and the count with a `+` between
abbrev pub line_range_of : List ℕ → Option LineRange
line_range_of [] = Some (record { from = 0; count = page_lines })
line_range_of (byte ∷ bytes) = range_at (byte ∷ bytes) (plus_at (byte ∷ bytes))

-- a mark and a release of some lines of a page
abbrev pub make_mark : ℕ → LineRange → Op
make_mark page lines = Mark (record { 0 = page }) lines.from lines.count

abbrev pub make_release : ℕ → LineRange → Op
make_release page lines = Release (record { 0 = page }) lines.from lines.count

-- a call, from the fields op, a and b
abbrev pub op_of : List ℕ → List ℕ → List ℕ → Option Op
op_of op a b =
    if bytes_eq op (codes "load") then both_of Load (number_of a) (number_of b)
    else if bytes_eq op (codes "store") then both_of Store (number_of a) (hex_bytes_of b)
    else if bytes_eq op (codes "verify") then if_empty a (if_empty b (Some Verify))
    else if bytes_eq op (codes "mark") then both_of make_mark (number_of a) (line_range_of b)
    else if bytes_eq op (codes "release") then both_of make_release (number_of a) (line_range_of b)
    else None

-- how many callers there are
abbrev pub caller_count : ℕ
caller_count = 64

-- one of the callers
abbrev pub caller_in : Option ℕ → Option ℕ
caller_in None = None
caller_in (Some number) = if nat_lt number caller_count then Some number else None

-- a caller
abbrev pub caller_of : List ℕ → Option ℕ
caller_of field = caller_in (number_of field)

-- a call of a caller
abbrev pub make_call : ℕ → Op → Row
make_call caller op = Call (record { 0 = caller }) op

-- a kind of turns
abbrev pub kind_of : List ℕ → Option Kind
kind_of op =
    if bytes_eq op (codes "promote") then Some Promote
    else if bytes_eq op (codes "evict") then Some Evict
    else if bytes_eq op (codes "collect") then Some Collect
    else if bytes_eq op (codes "drain") then Some Drain
    else None

-- a row of no caller, from the fields op and a: a loss of power, or turns of a kind
abbrev pub device_row_of : List ℕ → List ℕ → Option Row
device_row_of op a =
    if bytes_eq op (codes "power") then option_map (λ arrive. Power arrive) (number_of a)
    else both_of Turns (kind_of op) (number_of a)

-- a row, from the fields of a record
abbrev pub row_of : List (List ℕ) → Option Row
row_of (caller ∷ op ∷ a ∷ b ∷ []) =
    if bytes_eq caller (codes "-") then if_empty b (device_row_of op a)
    else both_of make_call (caller_of caller) (op_of op a b)
row_of fields = None

-- the header names the four fields
abbrev pub is_header : List (List ℕ) → Bool
is_header (caller ∷ op ∷ a ∷ b ∷ []) =
    bytes_eq caller (codes "caller") && bytes_eq op (codes "op") && bytes_eq a (codes "a")
    && bytes_eq b (codes "b")
is_header fields = false
