-- The calls that are drawn.
use Rattle.std.specs.Prelude.{ℕ, zero, suc, ◌+◌, ◌*◌, ◌/◌, ◌%◌, ◌==◌, nat_le, if◌then◌else◌, List, [], ◌∷◌}
use Rattle.std.specs.Int.{to_be_bytes, w64}
use Rattle.ff_base.specs.declared.numbers.TheConstants.{LINE_BYTES, PAGE_BYTES, PAGE_LINES}
use Rattle.ff_model.specs.declared.op.Op.{Op}
use Rattle.ff_model.specs.declared.op.Op.TheVariants.{Load, Store, Verify}
use Rattle.ff_gen.specs.Draws.{next_state, drawn_number}

-- a call, and the state behind its draws
pub record Drawn : Type 0 where
  pub op : Op
  pub state : ℕ

-- a page: one of the first 16 three times of four, else one of 256
abbrev pub drawn_page : ℕ → ℕ
drawn_page number = if number % 4 == 0 then number / 4 % 256 else number / 4 % 16

-- the address of a line of a page
abbrev pub address_of : ℕ → ℕ → ℕ
address_of page line = drawn_page page * PAGE_BYTES + line % PAGE_LINES * LINE_BYTES

-- an access, from the state behind its kind: the page and then the line are drawn, and the bytes of a store
abbrev pub access_from : ℕ → ℕ → Drawn
access_from kind state =
    let first = next_state state in
    let second = next_state first in
    let third = next_state second in
    let at = address_of (drawn_number first) (drawn_number second) in
    if nat_le kind 8 then record { op = Load at 8; state = second }
    else record { op = Store at (to_be_bytes w64 third); state = third }

-- a call of a kind: two of sixteen are verifies
abbrev pub call_of_kind : ℕ → ℕ → Drawn
call_of_kind kind state =
    if nat_le 14 kind then record { op = Verify; state = state } else access_from kind state

-- the next call: its kind is drawn first
abbrev pub call_from : ℕ → Drawn
call_from state = call_of_kind (drawn_number (next_state state) % 16) (next_state state)

-- so many calls, one after the other
unfoldable pub calls_from : ℕ → ℕ → List Op
calls_from zero state = []
calls_from (suc count) state = (call_from state).op ∷ calls_from count (call_from state).state
