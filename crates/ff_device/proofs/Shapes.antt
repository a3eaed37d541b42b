-- No step changes the sizes of the cache and of the window.
use Rattle.std.proofs.Common.{◌≡◌, ℕ, inl, inr, refl, ap, ◌∙◌}
use Rattle.ff_cache.specs.Cache.{CacheView}
use Rattle.ff_cache.specs.declared.slot.CacheSlot.{CacheSlot}
use Rattle.ff_lines.specs.declared.device.Work.{Work}
use Rattle.ff_lines.specs.declared.device.Work.TheVariants.{Ready, Stepped, Pinned, Failed, Off}
use Rattle.ff_window.specs.Window.{WindowView}
use Rattle.ff_device.specs.Changes.{Changes}
use Rattle.ff_device.specs.CollectTurn.{IsCollectTurn, turn_collects, turn_idle, turn_off, turn_seals}
use Rattle.ff_device.specs.Device.{parts_of, DeviceView}
use Rattle.ff_device.specs.Parts.{Parts, SameShape}
use Rattle.ff_device.specs.WorkRows.{FetchRow, FlushRow, IsRaised, IsStopped, IsWorkStep, NoWayRow, SealRow, fills, flushes, no_way, replaces, seals}

pub same_shape : (old new : Parts) → new ≡ old → SameShape old new
same_shape old new same = rw same (record { sets = refl; ways = refl; room = refl })

room_same : (old new : WindowView) → new ≡ old → new.room ≡ old.room
room_same old new same = ap (λ (w : WindowView). w.room) same

stopped_shape : (old new : Parts) → IsStopped old new → SameShape old new
stopped_shape old new s = record {
  sets = ap (λ (c : CacheView). c.sets) s.cache;
  ways = ap (λ (c : CacheView). c.ways) s.cache;
  room = room_same old.window new.window s.window;
}

changes_shape : (page : ℕ) (change : CacheSlot → CacheSlot) (old new : Parts) → Changes page change old.cache new.cache
    → new.window ≡ old.window → SameShape old new
changes_shape page change old new changes window = record {
  sets = ap (λ (c : CacheView). c.sets) changes.is;
  ways = ap (λ (c : CacheView). c.ways) changes.is;
  room = room_same old.window new.window window;
}

seal_shape : (result : Work) (old new : Parts) → SealRow result old new → SameShape old new
seal_shape Stepped old new s = changes_shape s.page _ old new s.cache s.window
seal_shape Failed old new s = stopped_shape old new s.0
seal_shape Off old new s = stopped_shape old new s.0
seal_shape Ready old new s = absurd s
seal_shape (Pinned other) old new s = absurd s

fetch_shape : (page slot : ℕ) (result : Work) (old new : Parts) → FetchRow page slot result old new → SameShape old new
fetch_shape page slot Stepped old new f = record {
  sets = ap (λ (c : CacheView). c.sets) f.cache;
  ways = ap (λ (c : CacheView). c.ways) f.cache;
  room = room_same old.window new.window f.window;
}
fetch_shape page slot Failed old new f = stopped_shape old new f.0
fetch_shape page slot Off old new f = stopped_shape old new f.0
fetch_shape page slot Ready old new f = absurd f
fetch_shape page slot (Pinned other) old new f = absurd f

flush_shape : (slot : ℕ) (result : Work) (old new : Parts) → FlushRow slot result old new → SameShape old new
flush_shape slot Stepped old new (inl p) = changes_shape p.page.0 _ old new p.cache p.window
flush_shape slot Stepped old new (inr c) = stopped_shape old new c.same
flush_shape slot Failed old new f = stopped_shape old new f.0
flush_shape slot Off old new f = stopped_shape old new f.0
flush_shape slot Ready old new f = absurd f
flush_shape slot (Pinned other) old new f = absurd f

no_way_shape : (page : ℕ) (result : Work) (old new : Parts) → NoWayRow page result old new → SameShape old new
no_way_shape page Stepped old new n = record { sets = n.frames.sets; ways = n.frames.ways; room = n.room }
no_way_shape page (Pinned named) old new n = same_shape old new n.1
no_way_shape page Ready old new n = absurd n
no_way_shape page Failed old new n = absurd n
no_way_shape page Off old new n = absurd n

raised_shape : (page slot : ℕ) (old mid new : Parts) → IsRaised page slot old mid → SameShape mid new → SameShape old new
raised_shape page slot old mid new raised after = record {
  sets = after.sets ∙ ap (λ (p : Parts). p.cache.sets) raised.is;
  ways = after.ways ∙ ap (λ (p : Parts). p.cache.ways) raised.is;
  room = after.room ∙ ap (λ (p : Parts). p.window.room) raised.is;
}

pub step_shape : (page : ℕ) (result : Work) (old new : Parts) → IsWorkStep page old result new → SameShape old new
step_shape page result old new (seals waits row) = seal_shape result old new row
step_shape page result old new (fills idle slot empty row) = fetch_shape page slot result old new row
step_shape page result old new (no_way idle full none row) = no_way_shape page result old new row
step_shape page result old new (replaces idle full slot mid raised clean row) =
    raised_shape page slot old mid new raised (fetch_shape page slot result mid new row)
step_shape page result old new (flushes idle full slot mid raised dirty row) =
    raised_shape page slot old mid new raised (flush_shape slot result mid new row)

pub turn_shape : (result : Work) (old new : DeviceView) → IsCollectTurn old result new
    → SameShape (parts_of old) (parts_of new)
turn_shape result old new (turn_off down is same) = same_shape (parts_of old) (parts_of new) (ap parts_of same)
turn_shape result old new (turn_seals on waits row) = seal_shape result (parts_of old) (parts_of new) row
turn_shape result old new (turn_collects on idle wants row) = record {
  sets = ap (λ (d : DeviceView). d.cache.sets) row.rest;
  ways = ap (λ (d : DeviceView). d.cache.ways) row.rest;
  room = ap (λ (d : DeviceView). d.window.room) row.rest;
}
turn_shape result old new (turn_idle on idle wants is same) = same_shape (parts_of old) (parts_of new) (ap parts_of same)
