-- A session that is over and was remounted.
use Rattle.std.specs.Prelude.{◌≡◌, None, IfNone, IfSome, IsSome, option_map}
use Rattle.ff_base.specs.declared.geometry.Geometry.{Geometry}
use Rattle.ff_core.specs.declared.core_state.losing.Lost.{Lost}
use Rattle.ff_flash.specs.FlashState.{FlashState}
use Rattle.ff_flash.specs.SimFlash.{told_plan}
use Rattle.ff_mount.specs.Held.{held_content}
use Rattle.ff_mount.specs.Stops.{mount_stop}
use Rattle.ff_scan.specs.Probing.{first_stop}
use Rattle.ff_sessions.specs.Remounts.{HasRemounted}
use Rattle.ff_sessions.specs.Sessions.{image_unless, remount_operations}
use Rattle.ff_sessions.specs.declared.closing.Closed.{Closed}
use Rattle.ff_sessions.specs.declared.session.Session.{Session}

-- the session of what was left, with the image of it, or the stop of the plan that came first
pub record IsSessionOf {T E : Type 0} (geometry : Geometry) (lost : Lost FlashState T E)
    (session : Session) : Type 0 where
  pub base : session.base ≡ lost.base
  pub account : session.account ≡ lost.account
  pub nv : session.nv ≡ lost.nv
  pub flash : session.flash ≡ lost.flash
  pub stop : session.stop ≡ option_map mount_stop (first_stop (told_plan lost.flash)
      lost.flash.operations (remount_operations geometry lost.nv lost.flash))
  pub image : session.image
      ≡ image_unless session.stop (held_content geometry.pages lost.nv lost.flash.cells)

-- the session is kept, and what it left is mounted where it has an image
pub record IsClosedSession {T E : Type 0} (geometry : Geometry) (lost : Lost FlashState T E)
    (closed : Closed T E) : Type 0 where
  pub session : IsSessionOf geometry lost closed.session
  pub mounted : IfSome closed.mounted (λ m. HasRemounted geometry lost.nv lost.flash m.store m.cache
      m.marks (held_content geometry.pages lost.nv lost.flash.cells))
  pub runs_on : IfSome closed.mounted (λ m. closed.session.stop ≡ None)
  pub stopped : IfNone closed.mounted (IsSome closed.session.stop)
  pub tuner : closed.tuner ≡ lost.tuner
  pub picker : closed.picker ≡ lost.picker
