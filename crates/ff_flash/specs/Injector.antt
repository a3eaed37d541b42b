-- What a contract sees of an injector of faults, and how operations go by its plan, one after another.
use Rattle.std.specs.Prelude.{ℕ, ◌+◌, ◌≡◌, Bool, true, false, if◌then◌else◌, Option, Some, None, option_map}
use Rattle.ff_flash.specs.Plans.{Planned, IsPlan, cut_at, due_injected}
use Rattle.ff_flash.specs.declared.plan.CutAt.{CutAt}
use Rattle.ff_flash.specs.declared.injected.Injected.{Injected}
use Rattle.ff_flash.specs.declared.injected.Injected.TheVariants.{PowerOff}
use Rattle.ff_flash.specs.declared.injector.Power.{Power}
use Rattle.ff_flash.specs.declared.injector.Power.TheVariants.{On, Down, CutOff}

-- an injector
pub record InjectorView : Type 0 where
  -- which operations fail and which are cut
  pub plan : Planned
  -- how many operations were made with the power on
  pub operations : ℕ
  -- whether the power is on, and where not, why
  pub power : Power

-- the power is on
abbrev pub is_powered : Power → Bool
is_powered On = true
is_powered _ = false

-- a cut turned the power off
abbrev pub is_cut_off : Power → Bool
is_cut_off (CutOff arrive) = true
is_cut_off _ = false

-- how many posts arrive after the cut that turned the power off
abbrev pub arrive_of : Power → Option ℕ
arrive_of (CutOff arrive) = Some arrive
arrive_of _ = None

-- the power after an operation that has this cut, or none
abbrev pub power_after : Option CutAt → Power
power_after (Some cut) = CutOff cut.arrive
power_after None = On

-- no operation was made, and the power is on
abbrev pub fresh_injector : Planned → InjectorView
fresh_injector plan = record { plan = plan; operations = 0; power = On }

-- how the next operation goes
abbrev pub next_injected : InjectorView → Injected
next_injected injector =
    if is_powered injector.power
    then due_injected injector.plan (injector.operations + 1)
    else PowerOff

-- the injector after one more operation with the power on
abbrev pub counted_injector : InjectorView → InjectorView
counted_injector injector = record injector {
  operations = injector.operations + 1;
  power = power_after (cut_at (injector.operations + 1) injector.plan.cuts);
}

-- the injector after the next operation, which is counted where the power is on
abbrev pub injector_after : InjectorView → InjectorView
injector_after injector =
    if is_powered injector.power then counted_injector injector else injector

-- the injector after the power was turned off between two operations
abbrev pub powered_down : InjectorView → InjectorView
powered_down injector =
    if is_powered injector.power then record injector { power = Down } else injector

-- where a cut turned the power off, it is this one
abbrev pub IsCutBy : Power → Option CutAt → Type 0
IsCutBy (CutOff arrive) cut = option_map (λ c. c.arrive) cut ≡ Some arrive
IsCutBy _ cut = Unit {0}

-- what every injector keeps
pub record IsInjectorSound (injector : InjectorView) : Type 0 where
  pub plan : IsPlan injector.plan
  pub cut : IsCutBy injector.power (cut_at injector.operations injector.plan.cuts)
