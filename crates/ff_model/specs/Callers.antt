-- What a history says of one caller, of what was acknowledged and of what is marked.
use Rattle.std.specs.Prelude.{ℕ, ◌+◌, ◌==◌, ◌&&◌, ◌≡◌, nat_le, nat_lt, Bool, true, false, if◌then◌else◌, List, [], ◌∷◌, length, map, filter, Option, Some, None, unwrap_or, slice_index}
use Rattle.std.specs.Int.{bit_at}
use Rattle.std.specs.List.{range_with_len}
use Rattle.ff_model.specs.Image.{Content}
use Rattle.ff_model.specs.Flat.{latest, is_done}
use Rattle.ff_model.specs.declared.history.Entry.{Entry}
use Rattle.ff_model.specs.declared.op.Op.{Op}
use Rattle.ff_model.specs.declared.op.Op.TheVariants.{Load, Store, Verify, Mark, Release}

-- the entries of a caller, in their order
abbrev pub entries_of : ℕ → List Entry → List Entry
entries_of caller entries = filter (λ entry. entry.caller.0 == caller) entries

-- the calls of a caller, in their order
abbrev pub calls_of : ℕ → List Entry → List Op
calls_of caller entries = map (λ entry. entry.op) (entries_of caller entries)

-- the calls of a caller are numbered from 0
abbrev pub AreNumbered : ℕ → List Entry → Type 0
AreNumbered caller entries = map (λ entry. entry.number) (entries_of caller entries) ≡ range_with_len 0 (length (entries_of caller entries))

-- a call that acknowledges each store before it
abbrev pub acknowledges : Op → Bool
acknowledges Verify = true
acknowledges (Mark page from count) = true
acknowledges (Load at len) = false
acknowledges (Store at bytes) = false
acknowledges (Release page from count) = false

-- one more than the position of the last entry that acknowledges and was answered Done, and 0 where there is none
abbrev pub acknowledged_length : List Entry → ℕ
acknowledged_length [] = 0
acknowledged_length (entry ∷ later) =
    if nat_lt 0 (acknowledged_length later) then acknowledged_length later + 1
    else if is_done entry.reply && acknowledges entry.op then 1
    else 0

-- a line lies in a range of lines
abbrev pub is_in_lines : ℕ → ℕ → ℕ → Bool
is_in_lines line from count = nat_le from line && nat_lt line (from + count)

-- what a call says of a line's mark: marked, cleared, or nothing
abbrev pub mark_by : ℕ → ℕ → Op → Option Bool
mark_by page line (Mark marked from count) = if (marked.0 == page) && is_in_lines line from count then Some true else None
mark_by page line (Release released from count) = if (released.0 == page) && is_in_lines line from count then Some false else None
mark_by page line (Load at len) = None
mark_by page line (Store at bytes) = None
mark_by page line Verify = None

-- the same of an entry that was answered Done
abbrev pub marked_by : ℕ → ℕ → Entry → Option Bool
marked_by page line entry = if is_done entry.reply then mark_by page line entry.op else None

-- a line is persistent after a history: the last mark or release of it decides, else the image at the start
abbrev pub is_marked : Content → List Entry → ℕ → ℕ → Bool
is_marked base entries page line = unwrap_or (latest (marked_by page line) entries) (bit_at (slice_index base.marks page) line == 1)
