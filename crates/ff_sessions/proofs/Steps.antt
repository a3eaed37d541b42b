-- A session of a run, from what it left and how it was closed.
use Rattle.std.proofs.Common.{◌≡◌, ◌+◌, ◌*◌, ◌^◌, ◌<◌, ◌≤◌, ℕ, List, [], ◌++◌, length, drop, refl, sym, ap, ◌∙◌, subst, arith, length-append}
use Rattle.std.specs.Prelude.{Option, Some, None, IfSome, IsSomeAnd, unwrap_or}
use Rattle.std.proofs.lemmas.Option.{none-some, same_Some}
use Rattle.ff_base.specs.Count.{last_event}
use Rattle.ff_base.specs.Geometry.{IsWithinLimits}
use Rattle.ff_base.specs.declared.geometry.Geometry.{Geometry}
use Rattle.ff_cache.specs.Cache.{CacheView}
use Rattle.ff_cache.specs.Nv.{NvView}
use Rattle.ff_core.specs.Account.{Start}
use Rattle.ff_core.specs.Record.{RecordView}
use Rattle.ff_core.specs.declared.core_state.losing.Lost.{Lost}
use Rattle.ff_flash.specs.FlashState.{FlashState}
use Rattle.ff_flash.specs.Plans.{Planned}
use Rattle.ff_flash.specs.SimFlash.{arrive_of_cut, told_plan}
use Rattle.ff_lines.proofs.PageCounts.{count_below-most}
use Rattle.ff_model.specs.Image.{Content}
use Rattle.ff_mount.specs.Held.{held_content, image_reads, is_read}
use Rattle.ff_store.specs.PageStore.{PageStoreView}
use Rattle.ff_trace.specs.declared.row.Row.{Row}
use Rattle.ff_sessions.specs.Age.{HasLife, age_at, most_for, most_per_item}
use Rattle.ff_sessions.specs.Begun.{IsBegun, IsRun, resumed_start}
use Rattle.ff_sessions.specs.Closing.{IsClosedSession, IsSessionOf}
use Rattle.ff_sessions.specs.Following.{GoesOn, IsOpened, CanGoOn, MayRun, cursor_after, stops_left}
use Rattle.ff_sessions.specs.Items.{Item, items_of}
use Rattle.ff_sessions.specs.Remounts.{HasRemounted}
use Rattle.ff_sessions.specs.Sessions.{IsGood, IsNextSession, Setup, arrive_by, ending_items, remount_operations, setup_with, start_after}
use Rattle.ff_sessions.specs.Stops.{IsStopWithin, ending_of, items_at, items_behind}
use Rattle.ff_sessions.specs.declared.chain.Open.{Open}
use Rattle.ff_sessions.specs.declared.closing.Closed.{Closed}
use Rattle.ff_sessions.specs.declared.session.Session.{Session}
use Rattle.ff_sessions.specs.declared.stop.Cursor.{Cursor}
use Rattle.ff_sessions.specs.declared.stop.Stop.{Stop}
use Rattle.ff_sessions.specs.declared.stop.Stop.TheVariants as stops
use Rattle.ff_sessions.proofs.Fewer.{fewer_cut, fewer_loss}
use Rattle.ff_sessions.proofs.RowItems.{items_whole}

-- a flash that tells this plan
pub told_is : (flash : FlashState) (plan : Planned) → flash.plan ≡ Some plan → told_plan flash ≡ plan
told_is flash plan is = rw is refl

-- the session of what a run of its rows left is good, and took its items
good_of : {T E : Type 0} (setup : Setup) (start : Start) (rows : List Row) (at : Cursor) (stop : Stop) (lost : Lost FlashState T E)
    (session : Session) → IsRun setup start rows at stop lost → lost.account.events < last_event
    → IsSessionOf setup.geometry lost session
    → IsGood setup start (arrive_by setup.geometry (ending_of stop lost.flash)) session
good_of setup start rows at stop lost session ran unspent of =
    let told = told_is lost.flash setup.plan ran.due.plan in
    let account = ap (λ (a : RecordView). a.events) of.account in
    record {
      due = rw (of.base, of.account, of.nv, of.flash) ran.due;
      unspent = omega (arith, account, unspent);
      stop = rw (of.nv, of.flash) (rw told at of.stop);
      image = rw (of.nv, of.flash) of.image;
    }

-- the items that a session took and those that it left are not more than there were
taken_few : {T E : Type 0} (setup : Setup) (start : Start) (rows : List Row) (at : Cursor) (stop : Stop) (lost : Lost FlashState T E)
    → (ran : IsRun setup start rows at stop lost)
    → length ran.takes.work + length (items_behind rows stop) ≤ length (items_at rows at)
taken_few setup start rows at stop lost ran =
    let left = items_behind rows stop in
    let ending = ending_items (ending_of stop lost.flash) in
    let all = ap length ran.takes.taken ∙ length-append ran.takes.work (ending ++ left) in
    let behind = length-append ending left in
    omega arith

-- the life that a session begins with lasts longer than its rows
left_unspent : {T E : Type 0} (setup : Setup) (start : Start) (rows : List Row) (running : Open T E) (stop : Stop)
    (lost : Lost FlashState T E) → MayRun setup start rows running → IsRun setup start rows running.at stop lost
    → lost.account.events < last_event
left_unspent setup start rows running stop lost may ran =
    let taken = taken_few setup start rows running.at stop lost ran in
    let made : lost.account.events ≤ start.event + most_per_item * (length ran.takes.work + 1) = ran.rise.events in
    let life : start.event + most_for (length (items_at rows running.at))
    (stops_left start.operations setup.plan (items_at rows running.at)) ≤ 2 ^ 61 = may.life.events in
    omega arith

pub next_of : {T E : Type 0} (setup : Setup) (start : Start) (rows : List Row) (running : Open T E) (stop : Stop)
    (lost : Lost FlashState T E) (session : Session) → MayRun setup start rows running
    → IsRun setup start rows running.at stop lost → IsSessionOf setup.geometry lost session
    → IsNextSession setup start session (items_at rows running.at) (items_behind rows stop)
next_of setup start rows running stop lost session may ran of = record {
  ending = ending_of stop lost.flash;
  takes = rw (of.account, of.flash) ran.takes;
  good = good_of setup start rows running.at stop lost session ran (left_unspent setup start rows running stop lost may ran) of;
}

-- a mount and an image take few operations
remount_few : (geometry : Geometry) (nv : NvView) (flash : FlashState) → IsWithinLimits geometry
    → remount_operations geometry nv flash ≤ 2 ^ 14 + 2 ^ 16
remount_few geometry nv flash limits =
    let probes = limits.flash_pages.high in
    let pages = limits.pages.high in
    let reads : image_reads geometry.pages nv.slots flash.cells ≤ geometry.pages =
    count_below-most (is_read nv.slots flash.cells) geometry.pages in
    omega arith

-- a session may begin over what a remount of one that is over found
may_follow : {T E : Type 0} (geometry : Geometry) (lost : Lost FlashState T E) (session : Session) (store : PageStoreView)
    (cache : CacheView) (marks : List ℕ) → IsSessionOf geometry lost session → session.stop ≡ None
    → HasRemounted geometry lost.nv lost.flash store cache marks (held_content geometry.pages lost.nv lost.flash.cells)
    → session.account.events ≤ last_event → CanGoOn geometry session store cache marks
may_follow geometry lost session store cache marks of none mounted not_past = record {
  image = of.image ∙ rw none (ap Some mounted.base_is);
  resumes = mounted.resumes session.account.events not_past;
}

-- what both say of a value
both_some : {M : Type 0} {P Q R : M → Type 0} (o : Option M) → IfSome o P → IfSome o Q → ((m : M) → P m → Q m → R m) → IfSome o R
both_some None p q f = tt
both_some (Some m) p q f = f m p q

-- a session may begin over the mounted parts, where there are any
pub parts_of : {T E : Type 0} (setup : Setup) (start : Start) (rows : List Row) (at : Cursor) (stop : Stop) (lost : Lost FlashState T E)
    (geometry : Geometry) (closed : Closed T E) → IsRun setup start rows at stop lost → IsClosedSession geometry lost closed
    → IfSome closed.mounted (λ m. CanGoOn geometry closed.session m.store m.cache m.marks)
parts_of setup start rows at stop lost geometry closed ran closes =
    let account = ap (λ (a : RecordView). a.events) closes.session.account in
    let not_past = ran.due.is_account.not_past in
    both_some closed.mounted closes.mounted closes.runs_on (λ m mounted none.
    may_follow geometry lost closed.session m.store m.cache m.marks closes.session none mounted (omega arith))

-- it starts where the session behind this one does
start_same : {T E : Type 0} (setup : Setup) (lost : Lost FlashState T E) (session : Session) (store : PageStoreView)
    (cache : CacheView) (marks : List ℕ) (image : Content) → IsSessionOf setup.geometry lost session
    → HasRemounted setup.geometry lost.nv lost.flash store cache marks image
    → resumed_start (held_content setup.geometry.pages lost.nv lost.flash.cells) session.account.events store.world.flash
    ≡ start_after setup session
start_same setup lost session store cache marks image of mounted =
    rw (mounted.flash_is, of.nv, of.flash) refl

-- by the same setup
setup_same : {T E : Type 0} (setup : Setup) (start : Start) (rows : List Row) (at : Cursor) (stop : Stop) (lost : Lost FlashState T E)
    (store : PageStoreView) (cache : CacheView) (marks : List ℕ) (image : Content) (floor : ℕ) → IsRun setup start rows at stop lost
    → HasRemounted setup.geometry lost.nv lost.flash store cache marks image → floor ≡ lost.tuner.floor
    → setup_with setup.geometry (told_plan store.world.flash) floor ≡ setup
setup_same setup start rows at stop lost store cache marks image floor ran mounted floor_is =
    let told : told_plan store.world.flash ≡ setup.plan =
    ap told_plan mounted.flash_is ∙ told_is lost.flash setup.plan ran.due.plan in
    rw (told, floor_is, ran.floor) refl

-- where the rows go on, the items behind the stop are those from there on
items_on : (rows : List Row) (stop : Stop) (cursor : Cursor) → cursor_after stop ≡ Some cursor
    → items_behind rows stop ≡ items_at rows cursor
items_on rows (stops.Cut at) cursor is = ap (items_at rows) (same_Some at cursor is)
items_on rows (stops.Power row arrive) cursor is =
    items_whole (drop (row + 1) rows) ∙ ap (items_at rows) (same_Some (record { row = row + 1; made = 0 }) cursor is)
items_on rows stops.End cursor is = absurd (none-some cursor is)

-- where they don't, none is left
pub items_none : (rows : List Row) (stop : Stop) → cursor_after stop ≡ None → items_behind rows stop ≡ []
items_none rows (stops.Cut at) is = absurd (none-some at (sym is))
items_none rows (stops.Power row arrive) is = absurd (none-some (record { row = row + 1; made = 0 }) (sym is))
items_none rows stops.End is = refl

-- where the rows go on is among them, or behind the last
cursor_within : (count : ℕ) (stop : Stop) (cursor : Cursor) → IsStopWithin count stop → cursor_after stop ≡ Some cursor
    → cursor.row ≤ count
cursor_within count (stops.Cut at) cursor within is =
    let same = ap (λ (p : Cursor). p.row) (same_Some at cursor is) in omega arith
cursor_within count (stops.Power row arrive) cursor within is =
    let same = ap (λ (p : Cursor). p.row) (same_Some (record { row = row + 1; made = 0 }) cursor is) in omega arith
cursor_within count stops.End cursor within is = absurd (none-some cursor is)

-- fewer losses of power are left behind a stop
fewer_behind : {T E : Type 0} (setup : Setup) (start : Start) (rows : List Row) (at : Cursor) (stop : Stop) (cursor : Cursor)
    (lost : Lost FlashState T E) (new : ℕ) → IsRun setup start rows at stop lost → cursor_after stop ≡ Some cursor
    → lost.flash.operations ≤ new
    → stops_left new setup.plan (items_behind rows stop) + 1 ≤ stops_left start.operations setup.plan (items_at rows at)
fewer_behind setup start rows at (stops.Cut cut) cursor lost new ran is rise =
    subst (λ (plan : Planned). stops_left new plan (items_at rows cut) + 1 ≤ stops_left start.operations plan (items_at rows at))
    (told_is lost.flash setup.plan ran.due.plan)
    (fewer_cut start.operations new lost.flash (unwrap_or (arrive_of_cut lost.flash) 0) (items_at rows at) ran.takes.work
    (items_at rows cut) ran.takes.cut (ran.counted (unwrap_or (arrive_of_cut lost.flash) 0) ran.takes.cut) rise ran.takes.taken)
fewer_behind setup start rows at (stops.Power row arrive) cursor lost new ran is rise =
    let no_fall : start.operations ≤ lost.flash.operations = ran.rise.no_fall in
    fewer_loss start.operations new setup.plan arrive (items_at rows at) ran.takes.work (items_of (drop (row + 1) rows))
    ran.takes.taken (omega arith)
fewer_behind setup start rows at stops.End cursor lost new ran is rise = absurd (none-some cursor is)

-- the life that is left for the session behind, of events or of operations
life_left : (start new reached between work left items stops stops_new : ℕ) → new ≡ reached + between
    → reached ≤ start + most_per_item * (work + 1) → between ≤ 2 ^ 14 + 2 ^ 16 → work + left ≤ items → stops_new + 1 ≤ stops
    → start + most_for items stops ≤ 2 ^ 61 → new + most_for left stops_new ≤ 2 ^ 61
life_left start new reached between work left items stops stops_new is most few taken fewer life = omega arith

life_behind : {T E : Type 0} (setup : Setup) (start : Start) (rows : List Row) (running : Open T E) (stop : Stop)
    (lost : Lost FlashState T E) (next : Start) (between stops_new : ℕ) → MayRun setup start rows running
    → IsRun setup start rows running.at stop lost → next.event ≡ lost.account.events
    → next.operations ≡ lost.flash.operations + between → between ≤ 2 ^ 14 + 2 ^ 16
    → stops_new + 1 ≤ stops_left start.operations setup.plan (items_at rows running.at)
    → HasLife (age_at next) (length (items_behind rows stop)) stops_new
life_behind setup start rows running stop lost next between stops_new may ran events operations few fewer =
    let taken = taken_few setup start rows running.at stop lost ran in
    let work = length ran.takes.work in
    let left = length (items_behind rows stop) in
    let items = length (items_at rows running.at) in
    let stops = stops_left start.operations setup.plan (items_at rows running.at) in
    record {
      events = life_left start.event next.event lost.account.events 0 work left items stops stops_new (omega arith)
          ran.rise.events (omega arith) taken fewer may.life.events;
      operations = life_left start.operations next.operations lost.flash.operations between work left items stops stops_new
          operations ran.rise.operations few taken fewer may.life.operations;
    }

-- a value, with what is known of it
some_of : {M R : Type 0} {P Q : M → Type 0} (o : Option M) → IsSomeAnd o Q → IfSome o P → ((m : M) → P m → Q m → R) → R
some_of None some p f = absurd some
some_of (Some m) some p f = f m p some

-- the session behind a stop that was opened over what the one before it left
module _ {T E : Type 0} (setup : Setup) (start : Start) (rows : List Row) (running : Open T E) (stop : Stop)
    (lost : Lost FlashState T E) (closed : Closed T E) (later : Open T E) (may : MayRun setup start rows running)
    (ran : IsRun setup start rows running.at stop lost) (closes : IsClosedSession setup.geometry lost closed)
    (opens : IsOpened setup.geometry rows closed stop later) where
  imaged : closed.session.stop ≡ None
  imaged = some_of closed.mounted opens.begun closes.runs_on (λ m none begun. none)

  image_is : closed.session.image ≡ Some (held_content setup.geometry.pages lost.nv lost.flash.cells)
  image_is = closes.session.image ∙ rw imaged refl

  begun_on : IsBegun setup (start_after setup closed.session) later.core
  begun_on = some_of closed.mounted opens.begun closes.mounted (λ m mounted begun.
      let floor : closed.tuner.floor ≡ lost.tuner.floor = ap (λ t. t.floor) closes.tuner in
      subst (λ (s : Setup). IsBegun s (start_after setup closed.session) later.core)
      (setup_same setup start rows running.at stop lost m.store m.cache m.marks _ closed.tuner.floor ran mounted floor)
      (subst (λ (s : Start). IsBegun (setup_with setup.geometry (told_plan m.store.world.flash) closed.tuner.floor) s later.core)
      (start_same setup lost closed.session m.store m.cache m.marks _ closes.session mounted)
      (begun (held_content setup.geometry.pages lost.nv lost.flash.cells) image_is)))

  pub goes_on : GoesOn setup rows closed.session (items_at rows running.at) (items_behind rows stop) start later
  goes_on =
      let session = closed.session in
      let left_is = items_on rows stop later.at opens.cursor in
      let events = ap (λ (a : RecordView). a.events) closes.session.account in
      let operations = ap (λ (f : FlashState). f.operations) closes.session.flash in
      let new = (start_after setup session).operations in
      let few = remount_few setup.geometry session.nv session.flash may.begun.limits in
      let fewer = fewer_behind setup start rows running.at stop later.at lost new ran opens.cursor (omega arith) in
      record {
        imaged = imaged;
        left_is = left_is;
        may_run = record {
          begun = begun_on;
          cursor = cursor_within (length rows) stop later.at ran.within opens.cursor;
          room = opens.room;
          life = subst (λ (items : List Item). HasLife (age_at (start_after setup session)) (length items) (stops_left new setup.plan items))
              left_is
              (life_behind setup start rows running stop lost (start_after setup session)
              (remount_operations setup.geometry session.nv session.flash) (stops_left new setup.plan (items_behind rows stop))
              may ran events (omega arith) few fewer);
        };
        fewer = fewer;
      }
