-- What a history says still stands where no line changed: after a step of work, and when posts are drained.
use Rattle.std.proofs.Common.{◌≡◌, ◌≤◌, ℕ, zero, suc, ◌==◌, false, List, [], ◌∷◌, length, take, drop, refl, sym, ap, ◌∙◌, arith}
use Rattle.std.proofs.lemmas.Bool.{or_parts}
use Rattle.std.proofs.lemmas.List.{take-append-drop}
use Rattle.ff_frames.specs.Frames.{frame_at}
use Rattle.ff_kept.specs.Keeping.{IsKeepingDevice}
use Rattle.ff_kept.proofs.KeepingDrained.{keeping-drained, keeping-first_drained, keeping-worked}
use Rattle.ff_lines.specs.DeviceState.{DeviceState, Drains, IsDevice, IsDrained, SameResidence}
use Rattle.ff_lines.specs.PageSets.{SameSet}
use Rattle.ff_lines.specs.Posts.{laid, waits_in}
use Rattle.ff_lines.specs.Works.{KeepsLines}
use Rattle.ff_lines.specs.declared.post.Post.{Post}
use Rattle.ff_lines.proofs.DeviceLines.{line_at-drains}
use Rattle.ff_memory.specs.Located.{IsLocated}
use Rattle.ff_memory.specs.Memory.{MemoryView}
use Rattle.ff_memory.specs.LineBytes.{SameLineBytes}
use Rattle.ff_memory.proofs.Alike.{IsLike, like-drained, like-located, like-lines, like-worked}
use Rattle.ff_memory.proofs.Flat.{byte-same}
use Rattle.ff_memory.proofs.Sites.{alike-same}
use Rattle.ff_model.specs.Legal.{Opening}
use Rattle.ff_model.specs.declared.history.Entry.{Entry}
use Rattle.ff_table.specs.Table.{is_born_in, marks_of}
use Rattle.ff_calls.specs.Told.{IsTold}

-- the pages, those that are born and the marked lines are the same
pub record SaysSame (m m' : MemoryView) : Type 0 where
  pub pages : length m'.table.homes ≡ length m.table.homes
  pub capacity : m'.capacity ≡ m.capacity
  pub born : (page : ℕ) → is_born_in m'.table page ≡ is_born_in m.table page
  pub marks : (page : ℕ) → marks_of m'.table page ≡ marks_of m.table page

pub says-same : (m : MemoryView) → SaysSame m m
says-same m = record { pages = refl; capacity = refl; born = λ page. refl; marks = λ page. refl }

-- memory and device changed, and no line did
pub told-moved : (opening : Opening) (entries : List Entry) (m : MemoryView) (d : DeviceState) (m' : MemoryView) (d' : DeviceState)
    → IsTold opening entries m d → SaysSame m m' → IsLocated m' d' → SameLineBytes m d m' d' → d.faults ≤ d'.faults
    → IsKeepingDevice opening.base entries d' → IsTold opening entries m' d'
told-moved opening entries m d m' d' told says located same_lines faults keeping =
    let before = told.faults in
    record {
      legal = told.legal;
      faults = omega arith;
      pages = says.pages ∙ told.pages;
      capacity = says.capacity ∙ told.capacity;
      flat = λ address within. byte-same m d m' d' same_lines address ∙ told.flat address within;
      born = λ page within. says.born page ∙ told.born page within;
      marks = λ page line low. rw (says.marks page) (told.marks page line low);
      located = located;
      keeping = keeping;
    }

-- the device changed, and no line did
told-like : (opening : Opening) (entries : List Entry) (m : MemoryView) (d d' : DeviceState) → IsTold opening entries m d
    → IsLike m d m d' → d.faults ≤ d'.faults → IsKeepingDevice opening.base entries d' → IsTold opening entries m d'
told-like opening entries m d d' told like faults keeping =
    told-moved opening entries m d m d' told (says-same m) (like-located m d m d' told.located like) (like-lines m d m d' like)
    faults keeping

-- a step of work
pub told-worked : (opening : Opening) (entries : List Entry) (m : MemoryView) (d d' : DeviceState) → IsTold opening entries m d
    → IsDevice d → KeepsLines d d' → d.faults ≤ d'.faults → IsTold opening entries m d'
told-worked opening entries m d d' told device worked faults =
    told-like opening entries m d d' told (like-worked m d d' worked) faults
    (keeping-worked opening entries d d' told.legal device worked told.keeping)

-- every post was drained
pub told-drained : (opening : Opening) (entries : List Entry) (m : MemoryView) (d d' : DeviceState) → IsTold opening entries m d
    → IsDevice d → IsDrained d d' → IsTold opening entries m d'
told-drained opening entries m d d' told device drained =
    let same = drained.residence.faults in
    told-like opening entries m d d' told (like-drained m d d' drained) (omega arith)
    (keeping-drained opening entries d d' told.legal device drained told.keeping)

-- no page has a post among fewer of them
waits_in-drop : (count : ℕ) (posts : List Post) (page : ℕ) → waits_in posts page ≡ false → waits_in (drop count posts) page ≡ false
waits_in-drop zero posts page none = none
waits_in-drop (suc count) [] page none = none
waits_in-drop (suc count) (post ∷ later) page none =
    waits_in-drop count later page (or_parts (post.page.0 == page) (waits_in later page) none).1

-- the oldest posts were drained, and no line changed
like-first_drained : (count : ℕ) (m : MemoryView) (d d' : DeviceState) → d'.posts ≡ drop count d.posts
    → ((page line : ℕ) → d'.below page line ≡ laid page line (take count d.posts) (d.below page line))
    → SameSet d.pinned d'.pinned → SameSet d.written d'.written → SameResidence d d' → IsLike m d m d'
like-first_drained count m d d' posts below pinned written residence =
    let drains : Drains (take count d.posts) (drop count d.posts) d d' =
    record { split = sym (take-append-drop count d.posts); below = below } in
    record {
      frames = λ frame. alike-same (frame_at m.frames frame) (frame_at m.frames frame) refl;
      table = refl;
      slots = refl;
      capacity = refl;
      device = λ page. record {
        lines = λ line.
            ap (λ (waiting : List Post). laid page line waiting (d'.below page line)) posts
            ∙ line_at-drains (take count d.posts) (drop count d.posts) d d' page line drains;
        idle = λ idle. ap (λ (waiting : List Post). waits_in waiting page) posts ∙ waits_in-drop count d.posts page idle;
        resident = λ pinned resident. residence.resident page ∙ resident;
      };
      pinned = pinned;
      written = written;
      room = residence.sizes.room;
      pages = residence.sizes.pages;
    }

-- so many of the oldest posts were drained
pub told-first_drained : (opening : Opening) (entries : List Entry) (count : ℕ) (m : MemoryView) (d d' : DeviceState)
    → IsTold opening entries m d → IsDevice d → d'.posts ≡ drop count d.posts
    → ((page line : ℕ) → d'.below page line ≡ laid page line (take count d.posts) (d.below page line))
    → SameSet d.pinned d'.pinned → SameSet d.written d'.written → SameResidence d d' → IsTold opening entries m d'
told-first_drained opening entries count m d d' told device posts below pinned written residence =
    let same = residence.faults in
    told-like opening entries m d d' told (like-first_drained count m d d' posts below pinned written residence) (omega arith)
    (keeping-first_drained opening entries count d d' told.legal device posts below told.keeping)
