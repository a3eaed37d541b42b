-- When a session is good, and how the sessions of a run follow one another.
use Rattle.std.specs.Prelude.{ℕ, ◌+◌, ◌<◌, ◌≡◌, ⊤, List, [], ◌∷◌, ◌++◌, Option, None, Some, option_map}
use Rattle.ff_base.specs.Count.{last_event}
use Rattle.ff_base.specs.declared.geometry.Geometry.{Geometry}
use Rattle.ff_cache.specs.Nv.{NvView}
use Rattle.ff_core.specs.Account.{IsAccountOf, Start}
use Rattle.ff_core.specs.Losing.{IsLossOf}
use Rattle.ff_core.specs.Record.{RecordView}
use Rattle.ff_flash.specs.FlashState.{FlashState}
use Rattle.ff_flash.specs.Plans.{Planned, listed_count}
use Rattle.ff_flash.specs.SimFlash.{arrive_of_cut}
use Rattle.ff_model.specs.Callers.{AreNumbered}
use Rattle.ff_model.specs.Image.{Content, empty_content}
use Rattle.ff_mount.specs.Held.{held_content, image_reads}
use Rattle.ff_mount.specs.Mounted.{mount_probes}
use Rattle.ff_mount.specs.Stops.{mount_stop}
use Rattle.ff_mount.specs.declared.stop.MountStop.{MountStop}
use Rattle.ff_scan.specs.Probing.{first_stop}
use Rattle.ff_trace.specs.declared.row.Row.{Row}
use Rattle.ff_sessions.specs.Items.{BeginWithWork, IsWork, Item, items_of, loss, over}
use Rattle.ff_sessions.specs.declared.session.Session.{Session}

-- what all sessions of a run have in common: the sizes, the plan of the flash, and the least threshold
pub record Setup : Type 0 where
  pub geometry : Geometry
  pub plan : Planned
  pub floor : ℕ

abbrev pub setup_with : Geometry → Planned → ℕ → Setup
setup_with geometry plan floor = record { geometry = geometry; plan = plan; floor = floor }

-- how many operations the mount and the image after a session take
abbrev pub remount_operations : Geometry → NvView → FlashState → ℕ
remount_operations geometry nv flash =
    mount_probes geometry + image_reads geometry.pages nv.slots flash.cells

-- the image, where nothing stopped it
abbrev pub image_unless : Option MountStop → Content → Option Content
image_unless None image = Some image
image_unless (Some stop) image = None

-- a session that began so, and at whose end so many posts arrived, left this: its account is that of its image and its
-- flash, which failed by the plan, and what the battery and the flash hold is what it owes
pub record LeavesDue (setup : Setup) (start : Start) (arrive : ℕ) (base : Content)
    (account : RecordView) (nv : NvView) (flash : FlashState) : Type 0 where
  pub base_is : base ≡ start.base
  pub is_account : IsAccountOf setup.geometry setup.floor start account flash
  pub plan : flash.plan ≡ Some setup.plan
  pub planned : flash.faults ≡ listed_count flash.operations setup.plan.fail
  pub owed : IsLossOf setup.geometry start.base arrive account nv flash

-- a session that began so, and at whose end so many posts arrived, is good: it left what is due, and never ran out of
-- event numbers; and its image is what the battery and the flash hold, where no operation that the plan stops came among
-- those of the mount and of the image
pub record IsGood (setup : Setup) (start : Start) (arrive : ℕ) (session : Session) : Type 0 where
  pub due : LeavesDue setup start arrive session.base session.account session.nv session.flash
  pub unspent : session.account.events < last_event
  pub stop : session.stop ≡ option_map mount_stop (first_stop setup.plan session.flash.operations
      (remount_operations setup.geometry session.nv session.flash))
  pub image : session.image
      ≡ image_unless session.stop (held_content setup.geometry.pages session.nv session.flash.cells)

-- how a session ends: by a cut after which so many posts arrive, at a row of power that says how many, or with the input
pub data Ending : Type 0 where
  by_cut : ℕ → Ending
  by_row : ℕ → Ending
  by_end : Ending

-- the item of an ending: a cut has none, since the call or turn that was cut is made again
abbrev pub ending_items : Ending → List Item
ending_items (by_cut arrive) = []
ending_items (by_row arrive) = loss arrive ∷ []
ending_items by_end = over ∷ []

-- how many posts arrive: with the input as many as the window has
abbrev pub arrive_by : Geometry → Ending → ℕ
arrive_by geometry (by_cut arrive) = arrive
arrive_by geometry (by_row arrive) = arrive
arrive_by geometry by_end = geometry.window

-- how many arrive after the cut, where a cut ended the session
abbrev pub cut_by : Ending → Option ℕ
cut_by (by_cut arrive) = Some arrive
cut_by ending = None

-- what an ending leaves: a cut the call or turn that was cut, and the end of the input nothing
abbrev pub MayLeave : Ending → List Item → Type 0
MayLeave (by_cut arrive) left = BeginWithWork left
MayLeave (by_row arrive) left = ⊤
MayLeave by_end left = left ≡ []

-- a session of this record and this flash takes these items, of which some are left: its calls, each caller's numbered
-- from 0, and turns, and its ending
pub record TakesItems (account : RecordView) (flash : FlashState) (ending : Ending)
    (items left : List Item) : Type 0 where
  pub work : List Item
  pub taken : items ≡ work ++ (ending_items ending ++ left)
  pub is_work : IsWork 0 account.entries account.turns work
  pub numbered : (caller : ℕ) → AreNumbered caller account.entries
  pub cut : arrive_of_cut flash ≡ cut_by ending
  pub leaves : MayLeave ending left

-- the session is good, and takes these items
pub record IsNextSession (setup : Setup) (start : Start) (session : Session) (items left : List Item)
    : Type 0 where
  pub ending : Ending
  pub takes : TakesItems session.account session.flash ending items left
  pub good : IsGood setup start (arrive_by setup.geometry ending) session

-- the first session starts from nothing
abbrev pub first_start : Setup → Start
first_start setup = record {
  base = empty_content setup.geometry.pages;
  event = 0;
  operations = 0;
  faults = 0;
}

-- where the session behind one starts: from its image, with the operations of the mount and of the image counted
abbrev pub start_after : Setup → Session → Start
start_after setup session = record {
  base = held_content setup.geometry.pages session.nv session.flash.cells;
  event = session.account.events;
  operations = session.flash.operations
      + remount_operations setup.geometry session.nv session.flash;
  faults = session.flash.faults;
}

-- a session that has an image is followed so, and one that has none is the last
abbrev pub IsFollowed : Option MountStop → List Session → Type 0 → Type 0
IsFollowed None later Follow = Follow
IsFollowed (Some stop) later Follow = later ≡ []

-- the sessions take these items, one after the other. All items are taken, but where the last session has no image
abbrev pub AreSessions : Setup → Start → List Item → List Session → Type 0
AreSessions setup start items [] = items ≡ []
AreSessions setup start items (session ∷ later) =
    (left : List Item) × IsNextSession setup start session items left
    × IsFollowed session.stop later (AreSessions setup (start_after setup session) left later)

-- the sessions of a run over rows
abbrev pub AreSessionsOf : Setup → List Row → List Session → Type 0
AreSessionsOf setup rows sessions = AreSessions setup (first_start setup) (items_of rows) sessions
