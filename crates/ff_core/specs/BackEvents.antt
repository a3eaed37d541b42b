-- What a background turn leaves of a session, its log and the power.
use Rattle.std.specs.Prelude.{◌+◌, ◌≤◌, ◌≡◌, true, false}
use Rattle.ff_model.specs.declared.counts.Kind.{Kind}
use Rattle.ff_core.specs.Backs.{turned_now, with_logged}
use Rattle.ff_core.specs.Core.{CoreView}
use Rattle.ff_core.specs.Drives.{SameSession}
use Rattle.ff_core.specs.Hierarchy.{flash_under}
use Rattle.ff_core.specs.declared.log.Back.{Back}
use Rattle.ff_core.specs.declared.log.Back.TheVariants.{Off}

-- the log has the turn and the power is on; or the power is off, and the log is as before
abbrev pub IsLogged : {T E : Type 0} → CoreView T E → Kind → Back → CoreView T E → Type 0
IsLogged old kind Off new = (new.log ≡ old.log) × ((flash_under new.hierarchy).on ≡ false)
IsLogged old kind back new = (new.log ≡ with_logged (turned_now old kind back) old.log)
    × ((flash_under new.hierarchy).on ≡ true)

-- one event of a background turn
pub record IsBackEvent {T E : Type 0} (old : CoreView T E) (kind : Kind) (back : Back)
    (new : CoreView T E) : Type 0 where
  pub logged : IsLogged old kind back new
  pub history : new.history ≡ old.history
  pub same : SameSession old new
  pub events : new.events ≤ old.events + 1
  pub no_fall : (flash_under old.hierarchy).operations ≤ (flash_under new.hierarchy).operations
  pub one_more : (flash_under new.hierarchy).operations ≤ (flash_under old.hierarchy).operations + 1
