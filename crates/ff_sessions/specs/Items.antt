-- The items of a trace: what a run does, one after the other.
use Rattle.std.specs.Prelude.{ℕ, ◌+◌, ◌≡◌, ⊤, List, [], ◌∷◌, ◌++◌, replicate}
use Rattle.std.specs.List.{flat_map}
use Rattle.ff_base.specs.declared.numbers.Caller.{Caller}
use Rattle.ff_core.specs.declared.log.Turned.{Turned}
use Rattle.ff_model.specs.declared.counts.Kind.{Kind}
use Rattle.ff_model.specs.declared.history.Entry.{Entry}
use Rattle.ff_model.specs.declared.op.Op.{Op}
use Rattle.ff_trace.specs.declared.row.Row.{Row}
use Rattle.ff_trace.specs.declared.row.Row.TheVariants.{Call, Turns, Power}

-- a call, a background turn, a loss of power at which so many posts arrive, and the end of the input
pub data Item : Type 0 where
  call : Caller → Op → Item
  turn : Kind → Item
  loss : ℕ → Item
  over : Item

-- the items of a row: a call, so many turns, or a loss of power
abbrev pub row_items : Row → List Item
row_items (Call caller op) = call caller op ∷ []
row_items (Turns kind count) = replicate count (turn kind)
row_items (Power arrive) = loss arrive ∷ []

-- the items of rows, and the end
abbrev pub items_of : List Row → List Item
items_of rows = flat_map row_items rows ++ over ∷ []

-- the items are the calls and turns of a session: the calls are those of its entries in order, the turns those of its
-- log in order, and before each turn stand as many calls as its log entry says. So many calls came before these
abbrev pub IsWork : ℕ → List Entry → List Turned → List Item → Type 0
IsWork calls entries turns [] = (entries ≡ []) × (turns ≡ [])
IsWork calls [] turns (call caller op ∷ items) = ⊥
IsWork calls (entry ∷ entries) turns (call caller op ∷ items) =
    (entry.caller ≡ caller) × (entry.op ≡ op) × IsWork (calls + 1) entries turns items
IsWork calls entries [] (turn kind ∷ items) = ⊥
IsWork calls entries (turned ∷ turns) (turn kind ∷ items) =
    (turned.kind ≡ kind) × (turned.calls ≡ calls) × IsWork calls entries turns items
IsWork calls entries turns (loss arrive ∷ items) = ⊥
IsWork calls entries turns (over ∷ items) = ⊥

-- the items begin with a call or a turn
abbrev pub BeginWithWork : List Item → Type 0
BeginWithWork (call caller op ∷ items) = ⊤
BeginWithWork (turn kind ∷ items) = ⊤
BeginWithWork items = ⊥
