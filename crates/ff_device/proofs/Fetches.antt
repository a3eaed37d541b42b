-- A slot that was empty, or clean, unpinned and without a waiting post, was filled with a page that was held nowhere.
use Rattle.std.proofs.Common.{◌≡◌, ◌<◌, inl, inr, ℕ, ◌||◌, ◌⊎◌, true, false, not, List, length, refl, sym, ap, ◌∙◌, Option, Some, None}
use Rattle.std.proofs.lemmas.Bool.{and_parts, cases_Bool, cases_eq, eq-eqb, not-true, eqb-true}
use Rattle.ff_base.specs.declared.numbers.PageNo.{PageNo}
use Rattle.ff_cache.specs.Cache.{IsCacheSound, IsInSet}
use Rattle.ff_cache.specs.Slots.{held, holds, is_page, cache_slot_at, slot_filled}
use Rattle.ff_cache.specs.declared.slot.CacheSlot.{CacheSlot}
use Rattle.ff_lines.specs.Posts.{waits_in}
use Rattle.ff_lines.specs.declared.post.Post.{Post}
use Rattle.ff_lines.proofs.PageCounts.{count_below-same}
use Rattle.ff_device.specs.Parts.{cached, is_dirty, is_pinned, is_resident, is_written, page_below, IsDeviceSound, Parts}
use Rattle.ff_device.specs.Steps.{may_go, page_waits}
use Rattle.ff_device.specs.StoreState.{is_stored, stored_bytes}
use Rattle.ff_device.specs.WorkRows.{IsFetched}
use Rattle.ff_device.proofs.Holding.{replaced_at, Replaced}

-- what is known of a fetch
pub record Fetching (page slot : ℕ) (old new : Parts) : Type 0 where
  pub sound : IsDeviceSound old
  pub cache : IsCacheSound old.cache
  pub in_range : page < length old.store.pages
  pub absent : held old.cache.slots page ≡ None
  pub in_set : IsInSet old.cache page slot
  pub clean : (cache_slot_at old.cache.slots slot).dirty ≡ false
  pub goes : may_go old.window.posts (cache_slot_at old.cache.slots slot) ≡ true
  pub idle : old.store.pending ≡ None
  pub fetched : IsFetched page slot old new
  pub capacity : new.store.capacity ≡ old.store.capacity

abbrev gone_of : (slot : ℕ) (old : Parts) → CacheSlot
gone_of slot old = cache_slot_at old.cache.slots slot

pub fetching_replaced : (page slot : ℕ) (old new : Parts) → Fetching page slot old new
    → Replaced page (gone_of slot old) (slot_filled page (stored_bytes old.store page)) old.cache.slots new.cache.slots
fetching_replaced page slot old new f =
    let own : holds (slot_filled page (stored_bytes old.store page)) page ≡ true = eq-eqb page page refl in
    rw f.fetched.cache (replaced_at old.cache page slot (slot_filled page (stored_bytes old.store page)) f.cache f.in_set.within f.absent own)

goes_unposted : (posts : List Post) (found : Option PageNo) (p : ℕ) → not (page_waits posts found) ≡ true → is_page found p ≡ true
    → waits_in posts p ≡ false
goes_unposted posts None p goes is = absurd (cc)
goes_unposted posts (Some found) p goes is =
    ap (λ q. waits_in posts q) (sym (eqb-true found.0 p is)) ∙ not-true (waits_in posts found.0) goes

-- no post waits for the page that gave way
gone_unposted : (page slot : ℕ) (old new : Parts) → Fetching page slot old new → (p : ℕ) → holds (gone_of slot old) p ≡ true
    → waits_in old.window.posts p ≡ false
gone_unposted page slot old new f p is =
    let parts = and_parts (not (gone_of slot old).pinned) (not (page_waits old.window.posts (gone_of slot old).page)) f.goes in
    goes_unposted old.window.posts (gone_of slot old).page p parts.1 is

pub goes_unpinned : (posts : List Post) (slot : CacheSlot) → may_go posts slot ≡ true → slot.pinned ≡ false
goes_unpinned posts slot goes = not-true slot.pinned (and_parts (not slot.pinned) (not (page_waits posts slot.page)) goes).0

gone_unpinned : (page slot : ℕ) (old new : Parts) → Fetching page slot old new → (gone_of slot old).pinned ≡ false
gone_unpinned page slot old new f =
    goes_unpinned old.window.posts (gone_of slot old) f.goes

stored_same : (page slot : ℕ) (old new : Parts) → Fetching page slot old new → (p : ℕ) → stored_bytes new.store p ≡ stored_bytes old.store p
stored_same page slot old new f p = rw f.fetched.pages refl

pub fetching_below : (page slot : ℕ) (old new : Parts) → Fetching page slot old new → (p : ℕ) → page_below new p ≡ page_below old p
fetching_below page slot old new f p =
    let r = fetching_replaced page slot old new f in
    elim (cases_eq p page) [
      | inl same ↦ rw (same, r.here, r.absent) refl
      | inr apart ↦ elim (cases_Bool (holds (gone_of slot old) p)) [
        | inl gone ↦
            rw (r.left p gone, r.was p gone) (stored_same page slot old new f p
            ∙ sym (f.sound.clean p (gone_of slot old) (r.was p gone) f.clean))
        | inr kept ↦ rw (r.others p apart kept, f.fetched.pages) refl
      ]
    ]

pub fetching_pinned : (page slot : ℕ) (old new : Parts) → Fetching page slot old new → (p : ℕ) → is_pinned new p ≡ is_pinned old p
fetching_pinned page slot old new f p =
    let r = fetching_replaced page slot old new f in
    elim (cases_eq p page) [
      | inl same ↦ rw (same, r.here, r.absent) refl
      | inr apart ↦ elim (cases_Bool (holds (gone_of slot old) p)) [
        | inl gone ↦ rw (r.left p gone, r.was p gone) (sym (gone_unpinned page slot old new f))
        | inr kept ↦ rw (r.others p apart kept) refl
      ]
    ]

dirty_same : (page slot : ℕ) (old new : Parts) → Fetching page slot old new → (p : ℕ) → is_dirty new p ≡ is_dirty old p
dirty_same page slot old new f p =
    let r = fetching_replaced page slot old new f in
    elim (cases_eq p page) [
      | inl same ↦ rw (same, r.here, r.absent) refl
      | inr apart ↦ elim (cases_Bool (holds (gone_of slot old) p)) [
        | inl gone ↦ rw (r.left p gone, r.was p gone) (sym f.clean)
        | inr kept ↦ rw (r.others p apart kept) refl
      ]
    ]

pub fetching_written : (page slot : ℕ) (old new : Parts) → Fetching page slot old new → (p : ℕ) → is_written new p ≡ is_written old p
fetching_written page slot old new f p =
    let dirty : is_dirty new p ≡ is_dirty old p = dirty_same page slot old new f p in
    let mapped : is_stored new.store p ≡ is_stored old.store p = rw f.fetched.pages refl in
    let waits : waits_in new.window.posts p ≡ waits_in old.window.posts p = rw f.fetched.window refl in
    ap (λ m. m || (is_dirty new p || waits_in new.window.posts p)) mapped
    ∙ ap (λ d. is_stored old.store p || (d || waits_in new.window.posts p)) dirty
    ∙ ap (λ w. is_stored old.store p || (is_dirty old p || w)) waits

pub fetching_resident : (page slot : ℕ) (old new : Parts) → Fetching page slot old new → is_resident new page ≡ true
fetching_resident page slot old new f = rw (fetching_replaced page slot old new f).here refl

-- a page that is pinned or waited for stays
pub fetching_stay : (page slot : ℕ) (old new : Parts) → Fetching page slot old new → (p : ℕ)
    → (is_pinned old p ≡ true) ⊎ (waits_in old.window.posts p ≡ true) → is_resident old p ≡ true → is_resident new p ≡ true
fetching_stay page slot old new f p kept_by resident =
    let r = fetching_replaced page slot old new f in
    elim (cases_eq p page) [
      | inl same ↦ rw (same, r.here) refl
      | inr apart ↦ elim (cases_Bool (holds (gone_of slot old) p)) [
        | inl gone ↦ elim kept_by [
          | inl pinned ↦
              let is : (gone_of slot old).pinned ≡ true = rw (r.was p gone) at pinned in
              let not_it : (gone_of slot old).pinned ≡ false = gone_unpinned page slot old new f in
              absurd (cc)
          | inr waits ↦
              let not_it : waits_in old.window.posts p ≡ false = gone_unposted page slot old new f p gone in
              absurd (cc)
        ]
        | inr kept ↦ rw (r.others p apart kept) resident
      ]
    ]

fetching_in_range : (page slot : ℕ) (old new : Parts) → Fetching page slot old new → (p : ℕ) → is_resident new p ≡ true
    → p < length new.store.pages
fetching_in_range page slot old new f p is =
    let r = fetching_replaced page slot old new f in
    rw f.fetched.pages (elim (cases_eq p page) [
      | inl same ↦ rw same f.in_range
      | inr apart ↦ elim (cases_Bool (holds (gone_of slot old) p)) [
        | inl gone ↦ let none : false ≡ true = rw (r.left p gone) at is in absurd (cc)
        | inr kept ↦ f.sound.pages p (rw (r.others p apart kept) at is)
      ]
    ])

fetching_clean : (page slot : ℕ) (old new : Parts) → Fetching page slot old new → (p : ℕ) (held : CacheSlot) → cached new p ≡ Some held
    → held.dirty ≡ false → held.bytes ≡ stored_bytes new.store p
fetching_clean page slot old new f p held is clean =
    let r = fetching_replaced page slot old new f in
    rw f.fetched.pages (elim (cases_eq p page) [
      | inl same ↦
          let both : Some (slot_filled page (stored_bytes old.store page)) ≡ Some held = sym r.here ∙ ap (λ q. cached new q) (sym same) ∙ is in
          let one : slot_filled page (stored_bytes old.store page) ≡ held = cc in
          rw same (ap (λ (s : CacheSlot). s.bytes) (sym one))
      | inr apart ↦ elim (cases_Bool (holds (gone_of slot old) p)) [
        | inl gone ↦ let none : None ≡ Some held = sym (r.left p gone) ∙ is in absurd (cc)
        | inr kept ↦ f.sound.clean p held (sym (r.others p apart kept) ∙ is) clean
      ]
    ])

pub fetching_sound : (page slot : ℕ) (old new : Parts) → Fetching page slot old new → IsDeviceSound new
fetching_sound page slot old new f = record {
  pages = fetching_in_range page slot old new f;
  size = λ p. ap length (fetching_below page slot old new f p) ∙ f.sound.size p;
  clean = fetching_clean page slot old new f;
  flushing = λ flush is.
      let both : None ≡ Some flush = sym (f.fetched.pending ∙ f.idle) ∙ is in absurd (cc);
  posts = rw f.fetched.window f.sound.posts;
  waiting = λ p waits.
      let waited : waits_in old.window.posts p ≡ true = rw f.fetched.window at waits in
      fetching_stay page slot old new f p (inr waited) (f.sound.waiting p waited);
  room =
      let pages : length new.store.pages ≡ length old.store.pages = ap length f.fetched.pages in
      rw (pages, f.capacity, count_below-same (is_written old) (is_written new) (length old.store.pages) (fetching_written page slot old new f)) f.sound.room;
  window = rw f.fetched.window f.sound.window;
}
