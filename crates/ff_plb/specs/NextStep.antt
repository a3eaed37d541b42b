-- What the next step of a page in flight is, and the least slot that has one like it.
use Rattle.std.specs.Prelude.{ℕ, ◌≡◌, ◌≤◌, List, Option, Some, None, IsSome}
use Rattle.ff_lines.specs.LineMask.{HasEveryLine}
use Rattle.ff_plb.specs.Plb.{HasEntry}
use Rattle.ff_plb.specs.declared.slot.NextStep.{NextStep}
use Rattle.ff_plb.specs.declared.slot.NextStep.TheVariants.{Finish, Land, Lift}
use Rattle.ff_plb.specs.declared.slot.Slot.{Slot}
use Rattle.ff_plb.specs.declared.slot.Way.{Way}

-- this is the next step of the entry: a line that is under way lands; else the page's copy is finished where every line is
-- copied, and another line is lifted where one isn't
abbrev pub IsNext : NextStep → Slot → Type 0
IsNext Finish entry = (entry.flight ≡ None) × HasEveryLine entry.bits
IsNext Land entry = IsSome entry.flight
IsNext Lift entry = (entry.flight ≡ None) × (HasEveryLine entry.bits → ⊥)

-- there is an entry, which goes this way and whose next step is this
abbrev pub IsNextIn : Option Slot → Way → NextStep → Type 0
IsNextIn None way step = ⊥
IsNextIn (Some entry) way step = (entry.way ≡ way) × IsNext step entry

-- the slot has an entry that goes this way and whose next step is this
pub record HasNext (slots : List (Option Slot)) (way : Way) (step : NextStep) (slot : ℕ) : Type 0 where
  pub entry : Slot
  pub has : HasEntry slots slot entry
  pub way_is : entry.way ≡ way
  pub next : IsNext step entry

-- the slot is the least of those
pub record IsLeastNext (slots : List (Option Slot)) (way : Way) (step : NextStep) (slot : ℕ) : Type 0 where
  pub has : HasNext slots way step slot
  pub least : (other : ℕ) → HasNext slots way step other → slot ≤ other

-- there is none of those
abbrev pub IsNoneNext : List (Option Slot) → Way → NextStep → Type 0
IsNoneNext slots way step = (slot : ℕ) → HasNext slots way step slot → ⊥
