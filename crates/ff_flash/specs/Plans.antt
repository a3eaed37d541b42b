-- Plans: at which operations a flash fails, and at which the power is cut.
use Rattle.std.specs.Prelude.{ℕ, ◌+◌, ◌≤◌, ◌≡◌, ◌==◌, Bool, true, if◌then◌else◌, nat_le, List, [], ◌∷◌, map, count_by, Option, Some, None}
use Rattle.std.specs.List.{list_any}
use Rattle.ff_flash.specs.declared.flash.FlashStop.{FlashStop}
use Rattle.ff_flash.specs.Injected.{injected_answer, stop_of}
use Rattle.ff_flash.specs.declared.injected.Injected.{Injected}
use Rattle.ff_flash.specs.declared.injected.Injected.TheVariants.{Nothing, Failure, Cut}
use Rattle.ff_flash.specs.declared.plan.CutAt.{CutAt}
use Rattle.ff_flash.specs.declared.plan.Plan.{Plan}

-- the numbers of the operations that fail, and the cuts with the numbers of theirs
pub record Planned : Type 0 where
  pub fail : List ℕ
  pub cuts : List CutAt

-- a plan's two lists
abbrev pub planned_of : Plan → Planned
planned_of plan = record { fail = plan.fail.items; cuts = plan.cuts.items }

-- no operation fails and none is cut
abbrev pub no_plan : Planned
no_plan = record { fail = []; cuts = [] }

-- the operations that are cut
abbrev pub cut_numbers : List CutAt → List ℕ
cut_numbers cuts = map (λ cut. cut.at) cuts

-- an operation is one of these
abbrev pub is_listed : ℕ → List ℕ → Bool
is_listed number numbers = list_any (λ listed. listed == number) numbers

-- the cut of an operation
abbrev pub cut_at : ℕ → List CutAt → Option CutAt
cut_at number [] = None
cut_at number (cut ∷ cuts) = if cut.at == number then Some cut else cut_at number cuts

-- how an operation goes that has this cut, or none
abbrev pub cut_injected : Option CutAt → Injected
cut_injected (Some cut) = Cut cut.mask
cut_injected None = Nothing

-- how the operation of a number goes
abbrev pub due_injected : Planned → ℕ → Injected
due_injected plan number =
    if is_listed number plan.fail then Failure else cut_injected (cut_at number plan.cuts)

-- how the operation of a number stops, if it does
abbrev pub due_stop : Planned → ℕ → Option FlashStop
due_stop plan number = stop_of (injected_answer (due_injected plan number))

-- how many of the operations up to a number are listed
abbrev pub listed_count : ℕ → List ℕ → ℕ
listed_count number numbers = count_by (λ listed. nat_le listed number) numbers

-- the numbers rise, from at least the least on
abbrev pub RisesFrom : ℕ → List ℕ → Type 0
RisesFrom least [] = Unit {0}
RisesFrom least (x ∷ xs) = (least ≤ x) × RisesFrom (x + 1) xs

-- the numbers of both lists rise from 1, and none is in both
pub record IsPlan (plan : Planned) : Type 0 where
  pub fail : RisesFrom 1 plan.fail
  pub cuts : RisesFrom 1 (cut_numbers plan.cuts)
  pub apart : (number : ℕ) → is_listed number plan.fail ≡ true → cut_at number plan.cuts ≡ None
