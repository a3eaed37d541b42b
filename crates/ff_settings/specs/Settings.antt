-- Settings as contracts see them.
use Rattle.std.specs.Prelude.{ℕ, Option}
use Rattle.ff_base.specs.declared.geometry.Geometry.{Geometry}
use Rattle.ff_flash.specs.Plans.{Planned}

-- the sizes, the plan of the flash, and the loss of power under threads
pub record SettingsView : Type 0 where
  pub geometry : Geometry
  pub plan : Planned
  pub power_event : Option ℕ
  pub power_arrive : ℕ
