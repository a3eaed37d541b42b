-- The oldest post left the window and was laid over its page's slot.
use Rattle.std.proofs.Common.{◌≡◌, ◌≢◌, inl, inr, ℕ, ◌+◌, ◌==◌, ◌||◌, Bool, true, false, List, ◌∷◌, length, refl, sym, ap, ◌∙◌, Some, get_or-set_same, get_or-set_other}
use Rattle.std.specs.Prelude.{All, IsSome}
use Rattle.std.proofs.lemmas.Bool.{cases_eq, eq-eqb, ne_eqb, or_left, or_right}
use Rattle.std.proofs.lemmas.List.Elements.{All-head, All-tail}
use Rattle.ff_cache.specs.Cache.{CacheView, IsCacheSound}
use Rattle.ff_cache.specs.Slots.{empty_slot, held, cache_slot_at}
use Rattle.ff_cache.specs.declared.slot.CacheSlot.{CacheSlot}
use Rattle.ff_lines.specs.Posts.{laid_on, waits_in, IsPost}
use Rattle.ff_lines.specs.declared.post.Post.{Post}
use Rattle.ff_lines.proofs.PageCounts.{count_below-same}
use Rattle.ff_lines.proofs.PageOverlaid.{length-page_overlaid, line_or_blank-laid, laid_on-other}
use Rattle.ff_device.specs.Changes.{slot_after, Changes}
use Rattle.ff_device.specs.Device.{lines_of}
use Rattle.ff_device.specs.Draining.{DrainsFirst, SameFrames}
use Rattle.ff_device.specs.Parts.{Parts, cached, is_dirty, is_pinned, is_resident, is_written, line_below, page_below, IsDeviceSound, IsFlushing}
use Rattle.ff_device.specs.StoreState.{PendingFlush, is_stored, stored_bytes}
use Rattle.ff_device.proofs.Holding.{Changed, changed_by}

pub record Laying (post : Post) (old new : Parts) : Type 0 where
  pub sound : IsDeviceSound old
  pub cache : IsCacheSound old.cache
  pub lays : Changes post.page.0 (slot_after post) old.cache new.cache
  pub posts : old.window.posts ≡ post ∷ new.window.posts
  pub room : new.window.room ≡ old.window.room
  pub store : new.store ≡ old.store

-- the slot before, and what is known of it after
abbrev slot_of : (post : Post) (old new : Parts) → Laying post old new → CacheSlot
slot_of post old new l = cache_slot_at old.cache.slots l.lays.index

laying_changed : (post : Post) (old new : Parts) → (l : Laying post old new)
    → Changed post.page.0 (slot_of post old new l) (slot_after post (slot_of post old new l)) old.cache.slots new.cache.slots
laying_changed post old new l = changed_by post.page.0 (slot_after post) old.cache new.cache l.cache l.lays refl

laying_resident : (post : Post) (old new : Parts) → Laying post old new → (p : ℕ) → is_resident new p ≡ is_resident old p
laying_resident post old new l p =
    let c = laying_changed post old new l in
    elim (cases_eq p post.page.0) [
      | inl same ↦ rw (same, c.here, c.before) refl
      | inr apart ↦ rw (c.others p apart) refl
    ]

laying_pinned : (post : Post) (old new : Parts) → Laying post old new → (p : ℕ) → is_pinned new p ≡ is_pinned old p
laying_pinned post old new l p =
    let c = laying_changed post old new l in
    elim (cases_eq p post.page.0) [
      | inl same ↦ rw (same, c.here, c.before) refl
      | inr apart ↦ rw (c.others p apart) refl
    ]

waits_own : (post : Post) (later : List Post) (p : ℕ) → p ≡ post.page.0 → waits_in (post ∷ later) p ≡ true
waits_own post later p same =
    or_left (post.page.0 == p) (waits_in later p) (eq-eqb post.page.0 p (sym same))

-- the page of the oldest post is cached
pub oldest_held : (post : Post) (later : List Post) (old : Parts) → IsDeviceSound old → old.window.posts ≡ post ∷ later
    → IsSome (held old.cache.slots post.page.0)
oldest_held post later old sound is = sound.waiting post.page.0 (rw is (waits_own post later post.page.0 refl))

pub oldest_post : (post : Post) (later posts : List Post) → All IsPost posts → posts ≡ post ∷ later → IsPost post
oldest_post post later posts all is = All-head IsPost post later (rw is at all)

waits_other : (post : Post) (later : List Post) (p : ℕ) → p ≢ post.page.0 → waits_in (post ∷ later) p ≡ waits_in later p
waits_other post later p apart =
    let elsewhere : (post.page.0 == p) ≡ false = ne_eqb post.page.0 p (λ e. apart (sym e)) in rw elsewhere refl

written_own : (mapped dirty waits : Bool) → waits ≡ true → (mapped || (dirty || waits)) ≡ true
written_own true dirty waits is = refl
written_own false true waits is = refl
written_own false false waits is = is

written_dirty : (mapped waits : Bool) → (mapped || (true || waits)) ≡ true
written_dirty true waits = refl
written_dirty false waits = refl

laying_written : (post : Post) (old new : Parts) → Laying post old new → (p : ℕ) → is_written new p ≡ is_written old p
laying_written post old new l p =
    let c = laying_changed post old new l in
    elim (cases_eq p post.page.0) [
      | inl same ↦
          let after : is_written new p ≡ true =
          rw (same, c.here) (written_dirty (is_stored new.store post.page.0) (waits_in new.window.posts post.page.0)) in
          let waited : waits_in old.window.posts p ≡ true = rw l.posts (waits_own post new.window.posts p same) in
          after ∙ sym (written_own (is_stored old.store p) (is_dirty old p) (waits_in old.window.posts p) waited)
      | inr apart ↦
          rw (c.others p apart, l.store, l.posts, waits_other post new.window.posts p apart) refl
    ]

laying_below : (post : Post) (old new : Parts) → Laying post old new → (p line : ℕ)
    → line_below new p line ≡ laid_on p line post (line_below old p line)
laying_below post old new l p line =
    let c = laying_changed post old new l in
    let is : IsPost post = All-head IsPost post new.window.posts (rw l.posts at l.sound.posts) in
    elim (cases_eq p post.page.0) [
      | inl same ↦
          let size : length (slot_of post old new l).bytes ≡ 4096 = rw c.before at (l.sound.size post.page.0) in
          rw (same, c.here, c.before) (line_or_blank-laid post (slot_of post old new l).bytes line size is)
      | inr apart ↦
          rw (c.others p apart, l.store) (sym (laid_on-other post p line (line_below old p line) (λ e. apart (sym e))))
    ]

laying_flushing : (post : Post) (old new : Parts) (flush : PendingFlush) → Laying post old new → new.store.pending ≡ Some flush
    → IsFlushing new flush
laying_flushing post old new flush l pending =
    let c = laying_changed post old new l in
    let was = l.sound.flushing flush (ap (λ s. s.pending) (sym l.store) ∙ pending) in
    elim (cases_eq flush.page post.page.0) [
      | inl same ↦
          record { slot = slot_after post (slot_of post old new l); held = ap (λ q. cached new q) same ∙ c.here; dirty = refl; same = λ no_touch. absurd (cc) }
      | inr apart ↦
          record { slot = was.slot; held = c.others flush.page apart ∙ was.held; dirty = was.dirty; same = was.same }
    ]

laying_size : (post : Post) (old new : Parts) → Laying post old new → (p : ℕ) → length (page_below new p) ≡ 4096
laying_size post old new l p =
    let c = laying_changed post old new l in
    let is : IsPost post = All-head IsPost post new.window.posts (rw l.posts at l.sound.posts) in
    elim (cases_eq p post.page.0) [
      | inl same ↦
          let size : length (slot_of post old new l).bytes ≡ 4096 = rw c.before at (l.sound.size post.page.0) in
          rw (same, c.here) (length-page_overlaid (slot_of post old new l).bytes post.line post.from post.bytes size is.line is.span)
      | inr apart ↦ rw (c.others p apart, l.store) (l.sound.size p)
    ]

laying_clean : (post : Post) (old new : Parts) → Laying post old new → (p : ℕ) (held : CacheSlot) → cached new p ≡ Some held
    → held.dirty ≡ false → held.bytes ≡ stored_bytes new.store p
laying_clean post old new l p held is clean =
    let c = laying_changed post old new l in
    elim (cases_eq p post.page.0) [
      | inl same ↦
          let found : Some (slot_after post (slot_of post old new l)) ≡ Some held = sym c.here ∙ ap (λ q. cached new q) (sym same) ∙ is in
          let one : slot_after post (slot_of post old new l) ≡ held = cc in
          let dirty : true ≡ false = ap (λ (s : CacheSlot). s.dirty) one ∙ clean in
          absurd (cc)
      | inr apart ↦ rw l.store (l.sound.clean p held (sym (c.others p apart) ∙ is) clean)
    ]

-- it keeps what a device keeps
pub laying_sound : (post : Post) (old new : Parts) → Laying post old new → IsDeviceSound new
laying_sound post old new l = record {
  pages = λ p is. rw l.store (l.sound.pages p (sym (laying_resident post old new l p) ∙ is));
  size = laying_size post old new l;
  clean = laying_clean post old new l;
  flushing = λ flush pending. laying_flushing post old new flush l pending;
  posts = All-tail IsPost post new.window.posts (rw l.posts at l.sound.posts);
  waiting = λ p waits.
      let before : waits_in old.window.posts p ≡ true = rw l.posts (or_right (post.page.0 == p) (waits_in new.window.posts p) waits) in
      laying_resident post old new l p ∙ l.sound.waiting p before;
  room =
      let pages : length new.store.pages ≡ length old.store.pages = ap (λ s. length s.pages) l.store in
      let capacity : new.store.capacity ≡ old.store.capacity = ap (λ s. s.capacity) l.store in
      rw (pages, capacity, count_below-same (is_written old) (is_written new) (length old.store.pages) (laying_written post old new l)) l.sound.room;
  window = rw l.room l.sound.window;
}

-- the oldest post was drained
pub laying_drains : (post : Post) (old new : Parts) → Laying post old new → DrainsFirst 1 (lines_of old) (lines_of new)
laying_drains post old new l = record {
  posts = rw l.posts refl;
  below = λ p line. rw l.posts (laying_below post old new l p line);
  pinned = laying_pinned post old new l;
  written = laying_written post old new l;
  residence = record {
    sizes = record {
      pages = ap (λ s. length s.pages) l.store;
      room = ap (λ s. s.capacity) l.store;
      most_steps = ap (λ s. s.most_left + 5) l.store;
      most_posts = l.room;
    };
    resident = laying_resident post old new l;
    on = ap (λ s. s.on) l.store;
    used = ap (λ s. s.used) l.store;
    faults = ap (λ s. s.faults) l.store;
  };
}

-- what the posts laid over slots have in common
pub laying_frames : (post : Post) (old new : CacheView) → Changes post.page.0 (slot_after post) old new → SameFrames old new
laying_frames post old new changes = record {
  values = ap (λ c. c.values) changes.is;
  sets = ap (λ c. c.sets) changes.is;
  ways = ap (λ c. c.ways) changes.is;
  page = λ k. elim (cases_eq k changes.index) [
    | inl same ↦ rw (changes.is, same, get_or-set_same old.slots changes.index (slot_after post (cache_slot_at old.slots changes.index)) empty_slot changes.within) refl
    | inr apart ↦ rw (changes.is, get_or-set_other old.slots changes.index k (slot_after post (cache_slot_at old.slots changes.index)) empty_slot apart) refl
  ];
  pinned = λ k. elim (cases_eq k changes.index) [
    | inl same ↦ rw (changes.is, same, get_or-set_same old.slots changes.index (slot_after post (cache_slot_at old.slots changes.index)) empty_slot changes.within) refl
    | inr apart ↦ rw (changes.is, get_or-set_other old.slots changes.index k (slot_after post (cache_slot_at old.slots changes.index)) empty_slot apart) refl
  ];
}
