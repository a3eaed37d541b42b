-- A device is one of lines.
use Rattle.std.proofs.Common.{◌≡◌, ◌≤◌, inl, inr, ℕ, suc, ◌+◌, ◌==◌, ◌||◌, ◌↔◌, Bool, true, false, List, [], ◌∷◌, ◌++◌, length, refl, sym, arith, Option, Some, None}
use Rattle.std.specs.Option.{is_some}
use Rattle.std.specs.Prelude.{if◌then◌else◌}
use Rattle.std.proofs.lemmas.Bool.{cases_eq, eq-eqb, ne_eqb, or_cases, eqb-true}
use Rattle.std.proofs.lemmas.List.Elements.{All-append, All-cons, All-nil}
use Rattle.std.proofs.lemmas.List.Folds.{list_any-append}
use Rattle.ff_cache.specs.Cache.{is_full_set, way_at}
use Rattle.ff_cache.specs.declared.slot.CacheSlot.{CacheSlot}
use Rattle.ff_lines.specs.DeviceState.{IsDevice}
use Rattle.ff_lines.specs.PageSets.{count_below, with_page}
use Rattle.ff_lines.specs.Posts.{waits_in, IsPost}
use Rattle.ff_lines.specs.declared.post.Post.{Post}
use Rattle.ff_lines.proofs.PageCounts.{count_below-same}
use Rattle.ff_lines.proofs.PageOverlaid.{length-line_or_blank}
use Rattle.ff_device.specs.Device.{lines_of}
use Rattle.ff_device.specs.Parts.{cached, is_dirty, is_resident, is_written, page_below, slot_passes, IsDeviceSound, Parts}
use Rattle.ff_device.specs.Steps.{chosen_way, flush_steps, most_steps, soon_clean, steps_of_set, steps_of_way, steps_to}
use Rattle.ff_device.specs.StoreState.{is_stored, IsStoreStateSound, StoreState}
use Rattle.ff_device.proofs.Drained.{PutsLast}

either_most : (pending : Bool) (most left : ℕ) → left ≤ most → (if pending then most else left) ≤ most
either_most true most left few = omega arith
either_most false most left few = few

flush_most : (store : StoreState) → store.left ≤ store.most_left → flush_steps store ≤ store.most_left + 2
flush_most store few = let most = either_most (is_some store.pending) store.most_left store.left few in omega arith

at_most_if : (test : Bool) (n most : ℕ) → n ≤ most → (if test then 0 else n) ≤ most
at_most_if true n most few = omega arith
at_most_if false n most few = few

if_at_most : (test : Bool) (n most : ℕ) → n ≤ most → (if test then n else 0) ≤ most
if_at_most true n most few = few
if_at_most false n most few = omega arith

one_at_most : (test : Bool) → (if test then 1 else 0) ≤ 1
one_at_most true = omega arith
one_at_most false = omega arith

way_most : (parts : Parts) (page : ℕ) (way : Option ℕ) → parts.store.left ≤ parts.store.most_left
    → steps_of_way parts page way ≤ parts.store.most_left + 3
way_most parts page None few = let most = flush_most parts.store few in omega arith
way_most parts page (Some way) few =
    let most = flush_most parts.store few in
    at_most_if (soon_clean parts.store.pending (way_at parts.cache page way)) (flush_steps parts.store) (parts.store.most_left + 3) (omega arith)

-- the steps of a page are bounded
pub steps_bounded : (parts : Parts) (page : ℕ) → parts.store.left ≤ parts.store.most_left → steps_to parts page ≤ most_steps parts.store
steps_bounded parts page few =
    let way = way_most parts page (chosen_way parts page) few in
    let set = if_at_most (is_full_set parts.cache page) (steps_of_way parts page (chosen_way parts page)) (parts.store.most_left + 3) way in
    let pending = one_at_most (is_some parts.store.pending) in
    at_most_if (is_resident parts page) (suc ((if is_some parts.store.pending then 1 else 0) + steps_of_set parts page)) (most_steps parts.store)
    (omega arith)

zero_or_more : (resident : Bool) (n : ℕ) → ((if resident then 0 else suc n) ≡ 0) ↔ (resident ≡ true)
zero_or_more true n = (λ _. refl, λ _. refl)
zero_or_more false n = (λ h. absurd (omega arith), λ h. cc)

pinned_held : (held : Option CacheSlot) → slot_passes (λ slot. slot.pinned) held ≡ true → is_some held ≡ true
pinned_held None is = cc
pinned_held (Some slot) is = refl

-- what every device keeps
pub lines_device : (parts : Parts) → IsDeviceSound parts → IsStoreStateSound parts.store
    → length parts.window.posts ≤ parts.window.room → IsDevice (lines_of parts)
lines_device parts sound store few = record {
  sizes = λ page line. length-line_or_blank (page_below parts page) line (sound.size page);
  within = sound.pages;
  posts = sound.posts;
  waiting = sound.waiting;
  pins = λ page is. pinned_held (cached parts page) is;
  few = sound.room;
  zero_steps = λ page. zero_or_more (is_resident parts page) ((if is_some parts.store.pending then 1 else 0) + steps_of_set parts page);
  few_steps = λ page. steps_bounded parts page store.few;
  few_posts = few;
}

-- the parts with a post put last
abbrev pub with_post : Post → Parts → Parts
with_post post parts = record parts { window = record { posts = parts.window.posts ++ post ∷ []; room = parts.window.room } }

waits_last : (posts : List Post) (post : Post) (q : ℕ) → waits_in (posts ++ post ∷ []) q ≡ (waits_in posts q || ((post.page.0 == q) || false))
waits_last posts post q = list_any-append (λ (p : Post). p.page.0 == q) posts (post ∷ [])

written_last : (mapped dirty waits : Bool) → (mapped || (dirty || (waits || (true || false)))) ≡ true
written_last true dirty waits = refl
written_last false true waits = refl
written_last false false true = refl
written_last false false false = refl

or_none : (b : Bool) → (b || (false || false)) ≡ b
or_none true = refl
or_none false = refl

-- the page of the post is written
pub posted_written : (post : Post) (parts : Parts) (q : ℕ) → is_written (with_post post parts) q ≡ with_page post.page.0 (is_written parts) q
posted_written post parts q = rw (waits_last parts.window.posts post q) (elim (cases_eq q post.page.0) [
  | inl same ↦
      rw (eq-eqb q post.page.0 same, eq-eqb post.page.0 q (sym same))
      (written_last (is_stored parts.store q) (is_dirty parts q) (waits_in parts.window.posts q))
  | inr apart ↦
      rw (ne_eqb q post.page.0 apart, ne_eqb post.page.0 q (λ e. apart (sym e)), or_none (waits_in parts.window.posts q)) refl
])

-- a post of a resident page, for which there is room
pub posted_sound : (post : Post) (parts : Parts) → IsDeviceSound parts → IsPost post → is_resident parts post.page.0 ≡ true
    → count_below (with_page post.page.0 (is_written parts)) (length parts.store.pages) ≤ parts.store.capacity
    → IsDeviceSound (with_post post parts)
posted_sound post parts sound is resident room = record {
  pages = sound.pages;
  size = sound.size;
  clean = sound.clean;
  flushing = λ flush pending. let f = sound.flushing flush pending in record { slot = f.slot; held = f.held; dirty = f.dirty; same = f.same };
  posts = All-append IsPost parts.window.posts (post ∷ []) sound.posts (All-cons IsPost post [] is (All-nil IsPost));
  waiting = λ q waits.
      elim (or_cases (waits_in parts.window.posts q) ((post.page.0 == q) || false) (rw (waits_last parts.window.posts post q) at waits)) [
        | inl before ↦ sound.waiting q before
        | inr last ↦ elim (or_cases (post.page.0 == q) false last) [
          | inl own ↦ rw (sym (eqb-true post.page.0 q own)) resident
          | inr never ↦ absurd (cc)
        ]
      ];
  room = rw (count_below-same (with_page post.page.0 (is_written parts)) (is_written (with_post post parts)) (length parts.store.pages)
      (posted_written post parts)) room;
  window = sound.window;
}

pub posted_last : (post : Post) (parts : Parts) → PutsLast post (lines_of parts) (lines_of (with_post post parts))
posted_last post parts = record {
  posts = refl;
  below = λ page line. refl;
  pinned = λ page. refl;
  written = posted_written post parts;
  residence = record {
    sizes = record { pages = refl; room = refl; most_steps = refl; most_posts = refl };
    resident = λ page. refl;
    on = refl;
    used = refl;
    faults = refl;
  };
}
