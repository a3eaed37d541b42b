-- What a step of work keeps of the lines.
use Rattle.std.proofs.Common.{◌≡◌, ◌≤◌, inl, inr, ℕ, ◌+◌, ◌⊎◌, true, List, length, refl, ap, ◌∙◌, arith}
use Rattle.ff_cache.specs.declared.slot.CacheSlot.{CacheSlot}
use Rattle.ff_lines.specs.BlankLine.{line_or_blank}
use Rattle.ff_lines.specs.DeviceState.{DeviceState, IsDrained}
use Rattle.ff_lines.specs.Posts.{waits_in}
use Rattle.ff_lines.specs.Works.{KeepsLines}
use Rattle.ff_lines.specs.declared.device.Work.{Work}
use Rattle.ff_lines.specs.declared.device.Work.TheVariants.{Ready, Stepped, Pinned, Failed, Off}
use Rattle.ff_device.specs.Device.{lines_of}
use Rattle.ff_device.specs.Parts.{is_pinned, is_resident, is_written, line_below, Parts}
use Rattle.ff_device.specs.StoreState.{StoreState}
use Rattle.ff_device.specs.StoreSteps.{Powers, SameLimits}
use Rattle.ff_device.specs.WorkRows.{IsStopped, stop_of_work}
use Rattle.ff_device.proofs.Edits.{edited_below, edited_pinned, edited_resident, edited_written, Edited}
use Rattle.ff_device.proofs.Fetches.{fetching_below, fetching_pinned, fetching_stay, fetching_written, Fetching}
use Rattle.ff_device.proofs.Touching.{with_values}

pub record Keeps (old new : Parts) : Type 0 where
  pub posts : new.window.posts ≡ old.window.posts
  pub below : (p line : ℕ) → line_below new p line ≡ line_below old p line
  pub pinned : (p : ℕ) → is_pinned new p ≡ is_pinned old p
  pub written : (p : ℕ) → is_written new p ≡ is_written old p
  pub stay : (p : ℕ) → (is_pinned old p ≡ true) ⊎ (waits_in old.window.posts p ≡ true)
      → is_resident old p ≡ true → is_resident new p ≡ true
  pub pages : length new.store.pages ≡ length old.store.pages
  pub room : new.window.room ≡ old.window.room

pub edited_keeps : (page : ℕ) (slot after : CacheSlot) (old new : Parts) → Edited page slot after old new → after.pinned ≡ slot.pinned → Keeps old new
edited_keeps page slot after old new e pins = record {
  posts = ap (λ w. w.posts) e.window;
  below = λ p line. ap (λ (bytes : List ℕ). line_or_blank bytes line) (edited_below page slot after old new e p);
  pinned = edited_pinned page slot after old new e pins;
  written = edited_written page slot after old new e;
  stay = λ p kept_by resident. edited_resident page slot after old new e p ∙ resident;
  pages = e.pages;
  room = ap (λ w. w.room) e.window;
}

pub fetching_keeps : (page slot : ℕ) (old new : Parts) → Fetching page slot old new → Keeps old new
fetching_keeps page slot old new f = record {
  posts = ap (λ w. w.posts) f.fetched.window;
  below = λ p line. ap (λ (bytes : List ℕ). line_or_blank bytes line) (fetching_below page slot old new f p);
  pinned = fetching_pinned page slot old new f;
  written = fetching_written page slot old new f;
  stay = fetching_stay page slot old new f;
  pages = ap length f.fetched.pages;
  room = ap (λ w. w.room) f.fetched.window;
}

pub stopped_keeps : (old new : Parts) → IsStopped old new → Keeps old new
stopped_keeps old new s = record {
  posts = ap (λ w. w.posts) s.window;
  below = λ p line. rw (s.cache, s.pages) refl;
  pinned = λ p. rw s.cache refl;
  written = λ p. rw (s.cache, s.pages, s.window) refl;
  stay = λ p kept_by resident. rw s.cache resident;
  pages = ap length s.pages;
  room = ap (λ w. w.room) s.window;
}

-- values were raised before
pub raised_keeps : (old mid new : Parts) (values : List (List ℕ)) → mid ≡ with_values values old → Keeps mid new → Keeps old new
raised_keeps old mid new values is keeps =
    let k : Keeps (with_values values old) new = rw is at keeps in
    record { posts = k.posts; below = k.below; pinned = k.pinned; written = k.written; stay = k.stay; pages = k.pages; room = k.room }

pub record Counted (old new : StoreState) : Type 0 where
  pub no_fall : old.used ≤ new.used
  pub one_more : new.used ≤ old.used + 1

pub counted : (result : Work) (old new : StoreState) → Powers (stop_of_work result) old new → Counted old new
counted Ready old new p = record { no_fall = p.no_fall; one_more = p.one_more }
counted Stepped old new p = record { no_fall = p.no_fall; one_more = p.one_more }
counted (Pinned other) old new p = record { no_fall = p.no_fall; one_more = p.one_more }
counted Failed old new p = let used = p.used in record { no_fall = omega arith; one_more = omega arith }
counted Off old new p = record { no_fall = p.no_fall; one_more = p.one_more }

pub keeps_lines : (result : Work) (old new : Parts) → Keeps old new → SameLimits old.store new.store → Powers (stop_of_work result) old.store new.store
    → KeepsLines (lines_of old) (lines_of new)
keeps_lines result old new k same powers =
    let count = counted result old.store new.store powers in
    record {
      lines = inl (record { posts = k.posts; below = k.below });
      pinned = k.pinned;
      written = k.written;
      stay = k.stay;
      sizes = record { pages = k.pages; room = same.capacity; most_steps = ap (λ (n : ℕ). n + 5) same.most_left; most_posts = k.room };
      no_fall = count.no_fall;
      one_more = count.one_more;
    }

-- the window was drained whole
pub drained_keeps : (old new : Parts) → IsDrained (lines_of old) (lines_of new) → KeepsLines (lines_of old) (lines_of new)
drained_keeps old new d =
    let used = d.residence.used in
    record {
      lines = inr (record { posts = d.lines.posts; below = d.lines.below });
      pinned = d.pinned;
      written = d.written;
      stay = λ p kept_by resident. d.residence.resident p ∙ resident;
      sizes = record { pages = d.residence.sizes.pages; room = d.residence.sizes.room; most_steps = d.residence.sizes.most_steps; most_posts = d.residence.sizes.most_posts };
      no_fall = omega arith;
      one_more = omega arith;
    }

pub same_keeps : (old new : Parts) → new ≡ old → Keeps old new
same_keeps old new same = record {
  posts = rw same refl;
  below = λ p line. rw same refl;
  pinned = λ p. rw same refl;
  written = λ p. rw same refl;
  stay = λ p kept_by resident. rw same resident;
  pages = rw same refl;
  room = rw same refl;
}

-- nothing was done
pub still_keeps : (d : DeviceState) → KeepsLines d d
still_keeps d = record {
  lines = inl (record { posts = refl; below = λ p line. refl });
  pinned = λ p. refl;
  written = λ p. refl;
  stay = λ p kept_by resident. resident;
  sizes = record { pages = refl; room = refl; most_steps = refl; most_posts = refl };
  no_fall = omega arith;
  one_more = omega arith;
}
