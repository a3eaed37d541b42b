-- What draining some of the waiting posts makes of a device.
use Rattle.std.specs.Prelude.{ℕ, ◌≡◌, Bool, true, false, List, take, drop}
use Rattle.ff_cache.specs.Cache.{with_value, CacheView}
use Rattle.ff_cache.specs.Slots.{holds, cache_slot_at}
use Rattle.ff_lines.specs.DeviceState.{DeviceState, SameResidence}
use Rattle.ff_lines.specs.PageSets.{SameSet}
use Rattle.ff_lines.specs.Posts.{laid}
use Rattle.ff_rrip.specs.Ways.{near_value}

-- so many of the oldest posts were drained, or all where fewer waited, and nothing else was done
pub record DrainsFirst (count : ℕ) (old new : DeviceState) : Type 0 where
  pub posts : new.posts ≡ drop count old.posts
  pub below : (page line : ℕ) → new.below page line
      ≡ laid page line (take count old.posts) (old.below page line)
  pub pinned : SameSet old.pinned new.pinned
  pub written : SameSet old.written new.written
  pub residence : SameResidence old new

-- the slots hold the same pages with the same pins, and the values are the same
pub record SameFrames (old new : CacheView) : Type 0 where
  pub values : new.values ≡ old.values
  pub sets : new.sets ≡ old.sets
  pub ways : new.ways ≡ old.ways
  pub page : (k : ℕ) → (cache_slot_at new.slots k).page ≡ (cache_slot_at old.slots k).page
  pub pinned : (k : ℕ) → (cache_slot_at new.slots k).pinned ≡ (cache_slot_at old.slots k).pinned

-- the way that holds the page was used again
pub record IsHit (page : ℕ) (old : CacheView) (values : List (List ℕ)) : Type 0 where
  pub slot : ℕ
  pub holds : holds (cache_slot_at old.slots slot) page ≡ true
  pub is : values ≡ with_value old slot near_value

-- the way that holds the page was used again, or the values are as before
abbrev pub HitIf : Bool → ℕ → CacheView → List (List ℕ) → Type 0
HitIf true page old values = IsHit page old values
HitIf false page old values = values ≡ old.values
