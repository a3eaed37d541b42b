-- Draining some posts, then some more, then all.
use Rattle.std.proofs.Common.{◌≡◌, ◌≤◌, ◌<◌, true, false, ℕ, ◌+◌, ◌==◌, ◌||◌, List, [], ◌∷◌, ◌++◌, length, take, drop, refl, sym, ap, ◌∙◌, arith}
use Rattle.std.proofs.Math.Seq.{take-add}
use Rattle.std.proofs.Math.ListN.{drop_of_length-le}
use Rattle.std.proofs.lemmas.List.{drop-drop, length-take, take-append-drop, take_all}
use Rattle.ff_cache.specs.Cache.{CacheView}
use Rattle.ff_lines.specs.DeviceState.{DeviceState, IsDrained, IsPosted, SameResidence}
use Rattle.ff_lines.specs.PageSets.{with_page, SameSet}
use Rattle.ff_lines.specs.Posts.{laid}
use Rattle.ff_lines.specs.declared.post.Post.{Post}
use Rattle.ff_lines.proofs.DeviceLines.{laid-append}
use Rattle.ff_window.specs.Window.{WindowView}
use Rattle.ff_device.specs.Draining.{DrainsFirst, SameFrames}

pub residence_same : (d : DeviceState) → SameResidence d d
residence_same d = record {
  sizes = record { pages = refl; room = refl; most_steps = refl; most_posts = refl };
  resident = λ p. refl;
  on = refl;
  used = refl;
  faults = refl;
}

pub residence_more : (a b c : DeviceState) → SameResidence a b → SameResidence b c → SameResidence a c
residence_more a b c first second = record {
  sizes = record {
    pages = second.sizes.pages ∙ first.sizes.pages;
    room = second.sizes.room ∙ first.sizes.room;
    most_steps = second.sizes.most_steps ∙ first.sizes.most_steps;
    most_posts = second.sizes.most_posts ∙ first.sizes.most_posts;
  };
  resident = λ p. second.resident p ∙ first.resident p;
  on = second.on ∙ first.on;
  used = second.used ∙ first.used;
  faults = second.faults ∙ first.faults;
}

-- nothing is drained
pub drains_none : (d : DeviceState) → DrainsFirst 0 d d
drains_none d = record {
  posts = refl;
  below = λ p line. refl;
  pinned = λ p. refl;
  written = λ p. refl;
  residence = residence_same d;
}

-- no post was taken out
pub none_waiting : (posts : List Post) → (0 < length posts → false ≡ true) → posts ≡ []
none_waiting [] none = refl
none_waiting (post ∷ later) none = let both : false ≡ true = none (omega arith) in absurd cc

-- a window is its posts and its room
pub same_window : (old new : WindowView) → old.posts ≡ new.posts → new.room ≡ old.room → new ≡ old
same_window old new posts room =
    ap (λ (p : List Post). record { posts = p; room = new.room }) (sym posts)
    ∙ ap (λ (n : ℕ). record { posts = old.posts; room = n }) room

-- nothing waits
pub drains_empty : (d : DeviceState) → d.posts ≡ [] → DrainsFirst 1 d d
drains_empty d none = record {
  posts = rw none refl;
  below = λ p line. rw none refl;
  pinned = λ p. refl;
  written = λ p. refl;
  residence = residence_same d;
}

-- some are drained, and then some more
pub drains_more : (n m : ℕ) (a b c : DeviceState) → DrainsFirst n a b → DrainsFirst m b c → DrainsFirst (n + m) a c
drains_more n m a b c first second = record {
  posts = second.posts ∙ ap (λ (posts : List Post). drop m posts) first.posts ∙ drop-drop m n a.posts;
  below = λ p line.
      second.below p line
      ∙ ap (λ (posts : List Post). laid p line (take m posts) (b.below p line)) first.posts
      ∙ ap (λ (bytes : List ℕ). laid p line (take m (drop n a.posts)) bytes) (first.below p line)
      ∙ sym (laid-append p line (take n a.posts) (take m (drop n a.posts)) (a.below p line))
      ∙ ap (λ (posts : List Post). laid p line posts (a.below p line)) (sym (take-add n m a.posts));
  pinned = λ p. second.pinned p ∙ first.pinned p;
  written = λ p. second.written p ∙ first.written p;
  residence = residence_more a b c first.residence second.residence;
}

-- as many were drained as waited
pub drains_all : (n : ℕ) (old new : DeviceState) → length old.posts ≤ n → DrainsFirst n old new → IsDrained old new
drains_all n old new enough d = record {
  lines = record {
    posts = d.posts ∙ drop_of_length-le old.posts enough;
    below = λ p line. d.below p line ∙ ap (λ (posts : List Post). laid p line posts (old.below p line)) (take_all n old.posts enough);
  };
  pinned = d.pinned;
  written = d.written;
  residence = d.residence;
}

-- a post was put last
pub record PutsLast (post : Post) (old new : DeviceState) : Type 0 where
  pub posts : new.posts ≡ old.posts ++ post ∷ []
  pub below : (page line : ℕ) → new.below page line ≡ old.below page line
  pub pinned : SameSet old.pinned new.pinned
  pub written : SameSet (with_page post.page.0 old.written) new.written
  pub residence : SameResidence old new

-- a post is put last after some were drained
pub puts_after : (n : ℕ) (post : Post) (a b c : DeviceState) → n ≤ 1 → DrainsFirst n a b → PutsLast post b c → IsPosted post a c
puts_after n post a b c few d p = record {
  drained = take n a.posts;
  few = omega (arith, length-take n a.posts);
  kept = drop n a.posts;
  drains = record {
    split = sym (take-append-drop n a.posts);
    below = λ q line. p.below q line ∙ d.below q line;
  };
  posts = p.posts ∙ ap (λ (posts : List Post). posts ++ post ∷ []) d.posts;
  pinned = λ q. p.pinned q ∙ d.pinned q;
  written = λ q. p.written q ∙ ap (λ w. (q == post.page.0) || w) (d.written q);
  residence = residence_more a b c d.residence p.residence;
}

pub frames_same : (cache : CacheView) → SameFrames cache cache
frames_same cache = record { values = refl; sets = refl; ways = refl; page = λ k. refl; pinned = λ k. refl }

pub frames_more : (a b c : CacheView) → SameFrames a b → SameFrames b c → SameFrames a c
frames_more a b c first second = record {
  values = second.values ∙ first.values;
  sets = second.sets ∙ first.sets;
  ways = second.ways ∙ first.ways;
  page = λ k. second.page k ∙ first.page k;
  pinned = λ k. second.pinned k ∙ first.pinned k;
}
