-- The posts that waited are lost.
use Rattle.std.proofs.Common.{◌≡◌, ◌≤◌, inl, inr, ℕ, ◌||◌, Bool, true, false, List, [], length, take, drop, min, refl, sym, ◌∙◌, arith}
use Rattle.std.proofs.Math.ListN.{drop_of_length-le}
use Rattle.std.proofs.lemmas.Bool.{cases_lt}
use Rattle.std.proofs.lemmas.List.{take_all}
use Rattle.std.proofs.lemmas.List.Elements.{All-nil}
use Rattle.ff_lines.specs.Posts.{waits_in, IsPost}
use Rattle.ff_lines.specs.declared.post.Post.{Post}
use Rattle.ff_lines.proofs.PageCounts.{count_below-part}
use Rattle.ff_window.specs.Window.{WindowView}
use Rattle.ff_device.specs.Parts.{is_dirty, is_written, IsDeviceSound, Parts}
use Rattle.ff_device.specs.StoreState.{is_stored}

less_written : (m d waits : Bool) → (m || (d || false)) ≡ true → (m || (d || waits)) ≡ true
less_written true d waits is = refl
less_written false true waits is = refl
less_written false false waits is = absurd (cc)

pub emptied_sound : (old : Parts) (window : WindowView) → IsDeviceSound old → window.posts ≡ [] → window.room ≡ old.window.room
    → IsDeviceSound (record old { window = window })
emptied_sound old window sound none room = record {
  pages = sound.pages;
  size = sound.size;
  clean = sound.clean;
  flushing = λ flush is. let f = sound.flushing flush is in record { slot = f.slot; held = f.held; dirty = f.dirty; same = f.same };
  posts = rw none (All-nil IsPost);
  waiting = λ p waits. let never : false ≡ true = rw none at waits in absurd (cc);
  room =
      let part = count_below-part (is_written (record old { window = window })) (is_written old) (length old.store.pages) (λ p is.
      less_written (is_stored old.store p) (is_dirty old p) (waits_in old.window.posts p) (rw none at is)) in
      let few = sound.room in
      omega arith;
  window = rw room sound.window;
}

-- as many as there are, or so many
pub take_some : (count : ℕ) (posts : List Post) → take (min count (length posts)) posts ≡ take count posts
take_some count posts = elim (cases_lt count (length posts)) [
  | inl less ↦ let is : min count (length posts) ≡ count = omega arith in rw is refl
  | inr more ↦
      let is : min count (length posts) ≡ length posts = omega arith in
      rw is (take_all (length posts) posts (omega arith) ∙ sym (take_all count posts more))
]

pub drop_some : (count : ℕ) (posts : List Post) → drop (min count (length posts)) posts ≡ drop count posts
drop_some count posts = elim (cases_lt count (length posts)) [
  | inl less ↦ let is : min count (length posts) ≡ count = omega arith in rw is refl
  | inr more ↦
      let is : min count (length posts) ≡ length posts = omega arith in
      let all : length posts ≤ length posts = omega arith in
      rw is (drop_of_length-le posts all ∙ sym (drop_of_length-le posts more))
]
