-- What a step of work makes of a device.
use Rattle.std.specs.Prelude.{ℕ, ◌+◌, ◌<◌, ◌≤◌, ◌≡◌, true, false, ◌⊎◌}
use Rattle.ff_lines.specs.DeviceState.{DeviceState, SameSizes, SameLines, AllDrained, waits}
use Rattle.ff_lines.specs.PageSets.{SameSet}
use Rattle.ff_lines.specs.declared.device.Work.{Work}
use Rattle.ff_lines.specs.declared.device.Work.TheVariants.{Ready, Stepped, Pinned, Failed, Off}

-- the power was on and stayed on, and no operation failed
pub record WentWell (old new : DeviceState) : Type 0 where
  pub was : old.on ≡ true
  pub on : new.on ≡ true
  pub faults : new.faults ≡ old.faults

-- an operation failed, and the power stayed on
pub record HasFailed (old new : DeviceState) : Type 0 where
  pub was : old.on ≡ true
  pub on : new.on ≡ true
  pub faults : new.faults ≡ old.faults + 1
  pub used : new.used ≡ old.used + 1

-- the power is off after, since it was before or since an operation was cut
pub record IsOff (page : ℕ) (old new : DeviceState) : Type 0 where
  pub on : new.on ≡ false
  pub cut : old.on ≡ true → (old.resident page ≡ false) × (new.used ≡ old.used + 1)

-- what each answer of a step for a page says
abbrev pub Works : ℕ → Work → DeviceState → DeviceState → Type 0
Works page Ready old new = (old.resident page ≡ true) × WentWell old new
Works page Stepped old new =
    (old.resident page ≡ false) × (new.steps page < old.steps page) × WentWell old new
Works page (Pinned other) old new =
    (old.resident page ≡ false) × (old.resident other.0 ≡ true) × (old.pinned other.0 ≡ true)
    × WentWell old new
Works page Failed old new = (old.resident page ≡ false) × HasFailed old new
Works page Off old new = IsOff page old new

-- a step of work: no line changes, and what is pinned or waited for stays resident
pub record KeepsLines (old new : DeviceState) : Type 0 where
  pub lines : SameLines old new ⊎ AllDrained old new
  pub pinned : SameSet old.pinned new.pinned
  pub written : SameSet old.written new.written
  pub stay : (page : ℕ) → (old.pinned page ≡ true) ⊎ (waits old page ≡ true)
      → old.resident page ≡ true → new.resident page ≡ true
  pub sizes : SameSizes old new
  pub no_fall : old.used ≤ new.used
  pub one_more : new.used ≤ old.used + 1

-- the answers at which nothing was done
abbrev pub IsIdle : Work → Type 0
IsIdle Ready = Unit {0}
IsIdle (Pinned other) = Unit {0}
IsIdle _ = ⊥
