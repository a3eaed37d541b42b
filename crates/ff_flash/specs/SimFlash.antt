-- What a contract sees of a simulated flash.
use Rattle.std.specs.Prelude.{ℕ, ◌+◌, ◌*◌, ◌≡◌, true, false, if◌then◌else◌, [], length, replicate, Option, Some, None, is_some, option_map, unwrap_or}
use Rattle.ff_base.specs.declared.geometry.Geometry.{Geometry}
use Rattle.ff_base.specs.declared.numbers.TheConstants.{PAGE_BYTES}
use Rattle.ff_flash.specs.Cells.{Cell, erased, closed, sealed, cell_at}
use Rattle.ff_flash.specs.FlashState.{FlashState, IsFlashSound}
use Rattle.ff_flash.specs.Plans.{Planned, IsPlan, no_plan, cut_at, due_injected, listed_count}
use Rattle.ff_flash.specs.declared.injected.Injected.{Injected}
use Rattle.ff_flash.specs.declared.injected.Injected.TheVariants.{PowerOff}

-- the plan of a flash that tells it
abbrev pub told_plan : FlashState → Planned
told_plan flash = unwrap_or flash.plan no_plan

-- how the next operation goes by the plan
abbrev pub next_in : FlashState → Injected
next_in flash =
    if flash.on then due_injected (told_plan flash) (flash.operations + 1) else PowerOff

-- a flash whose pages are all erased, with its power on
abbrev pub fresh_flash : Geometry → Planned → FlashState
fresh_flash geometry plan = record {
  blocks = geometry.blocks;
  per_block = geometry.per_block;
  cells = replicate (geometry.blocks * geometry.per_block) erased;
  faults = 0;
  on = true;
  operations = 0;
  plan = Some plan;
  making = [];
  cut = false;
}

-- how many posts arrive after the cut that turned the power off: what the plan's cut of the last operation says
abbrev pub arrive_of_cut : FlashState → Option ℕ
arrive_of_cut flash =
    if flash.cut
    then option_map (λ cut. cut.arrive) (cut_at flash.operations (told_plan flash).cuts)
    else None

-- a programmed page has as many bytes as a page
abbrev pub HasPageBytes : Cell → Type 0
HasPageBytes (closed bytes spare) = length bytes ≡ PAGE_BYTES
HasPageBytes (sealed bytes spare) = length bytes ≡ PAGE_BYTES
HasPageBytes _ = Unit {0}

-- what every simulated flash keeps
pub record IsSimFlashSound (flash : FlashState) : Type 0 where
  pub sound : IsFlashSound flash
  pub told : flash.plan ≡ Some (told_plan flash)
  pub plan : IsPlan (told_plan flash)
  pub faults : flash.faults ≡ listed_count flash.operations (told_plan flash).fail
  pub cut : flash.cut ≡ true → is_some (cut_at flash.operations (told_plan flash).cuts) ≡ true
  pub making : flash.making ≡ []
  pub full : (place : ℕ) → HasPageBytes (cell_at flash.cells place)
