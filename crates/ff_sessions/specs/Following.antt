-- How far a run has come by whole sessions.
use Rattle.std.specs.Prelude.{ℕ, ◌+◌, ◌≤◌, ◌≡◌, nat_lt, Bool, true, false, List, [], ◌∷◌, length, count_by, Option, None, Some, IfNone, IfSome, IsSome, IsSomeAnd}
use Rattle.ff_base.specs.declared.geometry.Geometry.{Geometry}
use Rattle.ff_cache.specs.Cache.{CacheView}
use Rattle.ff_core.specs.Account.{Start}
use Rattle.ff_core.specs.Resume.{CanResume}
use Rattle.ff_flash.specs.Plans.{Planned, cut_numbers}
use Rattle.ff_flash.specs.SimFlash.{told_plan}
use Rattle.ff_model.specs.Image.{Content}
use Rattle.ff_mount.specs.Held.{held_content, nv_of}
use Rattle.ff_store.specs.PageStore.{PageStoreView}
use Rattle.ff_trace.specs.declared.row.Row.{Row}
use Rattle.ff_sessions.specs.Age.{HasLife, age_at}
use Rattle.ff_sessions.specs.Begun.{IsBegun, resumed_start}
use Rattle.ff_sessions.specs.Items.{Item, items_of, loss}
use Rattle.ff_sessions.specs.Making.{HasRoomFor}
use Rattle.ff_sessions.specs.Sessions.{IsNextSession, Setup, first_start, setup_with, start_after}
use Rattle.ff_sessions.specs.Stops.{items_at}
use Rattle.ff_sessions.specs.declared.chain.Open.{Open}
use Rattle.ff_sessions.specs.declared.chain.Step.{Step}
use Rattle.ff_sessions.specs.declared.closing.Closed.{Closed}
use Rattle.ff_sessions.specs.declared.session.Session.{Session}
use Rattle.ff_sessions.specs.declared.stop.Cursor.{Cursor}
use Rattle.ff_sessions.specs.declared.stop.Stop.{Stop}
use Rattle.ff_sessions.specs.declared.stop.Stop.TheVariants as stops

abbrev pub is_loss : Item → Bool
is_loss (loss arrive) = true
is_loss item = false

-- how many sessions may still end in front of the last one: by the losses among the items, and by the cuts that the plan
-- has past so many operations
abbrev pub stops_left : ℕ → Planned → List Item → ℕ
stops_left operations plan items =
    count_by is_loss items + count_by (λ at. nat_lt operations at) (cut_numbers plan.cuts)

-- sessions that all have an image took items one after the other: these are left, and the next session starts here
abbrev pub Follow : Setup → Start → List Item → List Session → Start → List Item → Type 0
Follow setup start items [] next left = (start ≡ next) × (items ≡ left)
Follow setup start items (session ∷ later) next left =
    (middle : List Item) × IsNextSession setup start session items middle × (session.stop ≡ None)
    × Follow setup (start_after setup session) middle later next left

-- a session that begins so has room and life for the rows from a cursor on, and for all sessions behind it
pub record MayRun {T E : Type 0} (setup : Setup) (start : Start) (rows : List Row) (running : Open T E)
    : Type 0 where
  pub begun : IsBegun setup start running.core
  pub cursor : running.at.row ≤ length rows
  pub room : HasRoomFor running.core (items_at rows running.at)
  pub life : HasLife (age_at start) (length (items_at rows running.at))
      (stops_left start.operations setup.plan (items_at rows running.at))

-- the sessions so far took the items in front of the open one's, and few more may follow
pub record IsUnderWay {T E : Type 0} (setup : Setup) (rows : List Row) (sessions : List Session)
    (running : Open T E) : Type 0 where
  pub start : Start
  pub follow : Follow setup (first_start setup) (items_of rows) sessions start
      (items_at rows running.at)
  pub may_run : MayRun setup start rows running
  pub few : length sessions
      + stops_left start.operations setup.plan (items_at rows running.at) ≤ 16

-- the next session is open behind one that has an image, and a loss of power less is left
pub record GoesOn {T E : Type 0} (setup : Setup) (rows : List Row) (session : Session)
    (items left : List Item) (start : Start) (running : Open T E) : Type 0 where
  pub imaged : session.stop ≡ None
  pub left_is : left ≡ items_at rows running.at
  pub may_run : MayRun setup (start_after setup session) rows running
  pub fewer : stops_left (start_after setup session).operations setup.plan left + 1
      ≤ stops_left start.operations setup.plan items

-- a session took its items and is good. The next one is open, or the run is over
pub record IsNextStep {T E : Type 0} (setup : Setup) (start : Start) (rows : List Row) (at : Cursor)
    (step : Step T E) : Type 0 where
  pub left : List Item
  pub next : IsNextSession setup start step.session (items_at rows at) left
  pub again : IfSome step.next (GoesOn setup rows step.session (items_at rows at) left start)
  pub ends : IfNone step.next (step.session.stop ≡ None → left ≡ [])

-- where the rows go on behind a stop, if they do
abbrev pub cursor_after : Stop → Option Cursor
cursor_after (stops.Cut cursor) = Some cursor
cursor_after (stops.Power row arrive) = Some (record { row = row + 1; made = 0 })
cursor_after stops.End = None

-- the image of a session that is over is that of these mounted parts, and the next one may begin over them
pub record CanGoOn (geometry : Geometry) (session : Session) (store : PageStoreView)
    (cache : CacheView) (marks : List ℕ) : Type 0 where
  pub image : session.image
      ≡ Some (held_content geometry.pages (nv_of cache marks) store.world.flash.cells)
  pub resumes : CanResume geometry store cache marks session.account.events

-- a session began over the mounted parts, from the image of the one that is over, with room for the rows behind the stop
pub record IsOpened {T E : Type 0} (geometry : Geometry) (rows : List Row) (closed : Closed T E)
    (stop : Stop) (running : Open T E) : Type 0 where
  pub cursor : cursor_after stop ≡ Some running.at
  pub begun : IsSomeAnd closed.mounted (λ m. (base : Content) → closed.session.image ≡ Some base
      → IsBegun (setup_with geometry (told_plan m.store.world.flash) closed.tuner.floor)
      (resumed_start base closed.session.account.events m.store.world.flash) running.core)
  pub room : HasRoomFor running.core (items_at rows running.at)

-- the session that is over was kept, and the next one is open, or none where nothing is mounted or no rows are left
pub record IsGoneOn {T E : Type 0} (geometry : Geometry) (rows : List Row) (closed : Closed T E)
    (stop : Stop) (step : Step T E) : Type 0 where
  pub session : step.session ≡ closed.session
  pub next : IfSome step.next (IsOpened geometry rows closed stop)
  pub ends : IfNone step.next (IsSome closed.mounted → cursor_after stop ≡ None)
