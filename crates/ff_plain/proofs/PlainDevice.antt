-- A plain device is a device of lines, before and after each call.
use Rattle.std.proofs.Common.{◌≡◌, ◌<◌, ◌≤◌, inl, inr, ℕ, ◌==◌, ◌↔◌, Bool, true, false, [], ◌∷◌, length, set, refl, sym, ap, ◌∙◌, arith, Option, Some, None, length-set, get_or-set_same, get_or-set_other}
use Rattle.std.specs.Option.{option_to_list}
use Rattle.std.specs.Prelude.{if◌then◌else◌, nat_lt}
use Rattle.std.proofs.lemmas.Bool.{cases_eq, cases_lt, eq-eqb, ne_eqb, lt-ltb, ltb-true, or_left, or_cases, eqb-true}
use Rattle.std.proofs.lemmas.List.{append-nil, get_or_past}
use Rattle.std.proofs.lemmas.List.Elements.{All-nil, All-cons, All-head}
use Rattle.ff_lines.specs.BlankLine.{line_or_blank}
use Rattle.ff_lines.specs.DeviceState.{line_at, IsDevice, IsDrained, IsPinned, IsPosted, SameResidence}
use Rattle.ff_lines.specs.Posts.{laid_on, waits_in, IsPost}
use Rattle.ff_lines.specs.declared.post.Post.{Post}
use Rattle.ff_lines.proofs.PageCounts.{count_below-most}
use Rattle.ff_lines.proofs.PageOverlaid.{length-blank_page, length-line_or_blank, length-page_overlaid, line_or_blank-laid, laid_on-other}
use Rattle.ff_plain.specs.Plain.{PlainView, after_post, drained_view, fresh_page, fresh_view, page_at, pages_after, pinned_page, state_of, written_page, IsPlainSound}
use Rattle.ff_plain.specs.declared.plain.PlainPage.{PlainPage}
use Rattle.ff_plain.proofs.PlainPages.{each_after, page_at-fresh, same_after}

abbrev steps_of : Bool → ℕ
steps_of b = if b then 0 else 1

resident_steps : (b : Bool) → (steps_of b ≡ 0) ↔ (b ≡ true)
resident_steps true = (λ _. refl, λ _. refl)
resident_steps false = (λ h. absurd (omega arith), λ h. cc)

few_steps : (b : Bool) → (if b then 0 else 1) ≤ 1
few_steps true = omega arith
few_steps false = omega arith

few_posts : (post : Option Post) → length (option_to_list post) ≤ 1
few_posts None = omega arith
few_posts (Some post) = omega arith

-- a page past the last is fresh
pinned_within : (plain : PlainView) (page : ℕ) → (page_at plain.pages page).pinned ≡ true → nat_lt page (length plain.pages) ≡ true
pinned_within plain page pinned = elim (cases_lt page (length plain.pages)) [
  | inl within ↦ lt-ltb page (length plain.pages) within
  | inr past ↦
      let fresh : page_at plain.pages page ≡ fresh_page = get_or_past plain.pages page fresh_page past in
      let no : false ≡ true = rw fresh at pinned in
      cc
]

-- what every device keeps
pub plain_device : (plain : PlainView) → IsPlainSound plain → IsDevice (state_of plain)
plain_device plain is = record {
  sizes = λ page line. length-line_or_blank (page_at plain.pages page).bytes line (is.sizes page);
  within = λ page resident. ltb-true page (length plain.pages) resident;
  posts = is.posts;
  waiting = λ page waits. lt-ltb page (length plain.pages) (is.waiting page waits);
  pins = pinned_within plain;
  few = count_below-most (λ page. (page_at plain.pages page).written) (length plain.pages);
  zero_steps = λ page. resident_steps (nat_lt page (length plain.pages));
  few_steps = λ page. few_steps (nat_lt page (length plain.pages));
  few_posts = few_posts plain.post;
}

-- a new device is one
pub fresh_plain : (pages : ℕ) → IsPlainSound (fresh_view pages)
fresh_plain pages = record {
  sizes = λ page. ap (λ (p : PlainPage). length p.bytes) (page_at-fresh pages page) ∙ length-blank_page;
  posts = All-nil IsPost;
  waiting = λ page waits. cc;
}

-- the post's page is one of the device's
pub post_within : (plain : PlainView) (post : Post) → IsPlainSound plain → plain.post ≡ Some post → post.page.0 < length plain.pages
post_within plain post is one =
    is.waiting post.page.0 (rw one (or_left (post.page.0 == post.page.0) false (eq-eqb post.page.0 post.page.0 refl)))

pub drained_pages : (plain : PlainView) (post : Option Post) → plain.post ≡ post → IsPlainSound plain
    → IsPlainSound (record { pages = pages_after post plain.pages; post = None })
drained_pages plain None none is = record {
  sizes = is.sizes;
  posts = All-nil IsPost;
  waiting = λ page waits. cc;
}
drained_pages plain (Some post) one is =
    let held : IsPost post = All-head IsPost post [] (rw one at is.posts) in
    record {
      sizes =
          each_after (λ p. length p.bytes ≡ 4096) plain.pages post.page.0 (after_post post (page_at plain.pages post.page.0))
          (post_within plain post is one)
          (length-page_overlaid (page_at plain.pages post.page.0).bytes post.line post.from post.bytes (is.sizes post.page.0) held.line held.span)
          is.sizes;
      posts = All-nil IsPost;
      waiting = λ page waits. cc;
    }

-- draining keeps what a plain device keeps
pub drained_plain : (plain : PlainView) → IsPlainSound plain → IsPlainSound (drained_view plain)
drained_plain plain is = drained_pages plain plain.post refl is

-- a page was changed, and nothing is known of its bytes
same_residence : (plain : PlainView) (k : ℕ) (page : PlainPage) (post : Option Post)
    → SameResidence (state_of plain) (state_of (record { pages = set plain.pages k page; post = post }))
same_residence plain k page post =
    let count : length (set plain.pages k page) ≡ length plain.pages = length-set plain.pages k page in
    record {
      sizes = record { pages = count; room = count; most_steps = refl; most_posts = refl };
      resident = λ q. ap (λ (n : ℕ). nat_lt q n) count;
      on = refl;
      used = refl;
      faults = refl;
    }

-- a line below a post that is laid over its page
laid_below : (plain : PlainView) (post : Post) → IsPlainSound plain → plain.post ≡ Some post → (page line : ℕ)
    → line_or_blank (page_at (pages_after (Some post) plain.pages) page).bytes line
    ≡ laid_on page line post (line_or_blank (page_at plain.pages page).bytes line)
laid_below plain post is one page line =
    let held : IsPost post = All-head IsPost post [] (rw one at is.posts) in
    let within : post.page.0 < length plain.pages = post_within plain post is one in
    let after : PlainPage = after_post post (page_at plain.pages post.page.0) in
    elim (cases_eq page post.page.0) [
      | inl same ↦
          rw (same, get_or-set_same plain.pages post.page.0 after fresh_page within)
          (line_or_blank-laid post (page_at plain.pages post.page.0).bytes line (is.sizes post.page.0) held)
      | inr apart ↦
          rw (get_or-set_other plain.pages post.page.0 page after fresh_page apart)
          (sym (laid_on-other post page line (line_or_blank (page_at plain.pages page).bytes line) (λ e. apart (sym e))))
    ]

drained_by : (plain : PlainView) (post : Option Post) → plain.post ≡ post → IsPlainSound plain
    → IsDrained (state_of plain) (state_of (record { pages = pages_after post plain.pages; post = None }))
drained_by plain None none is = record {
  lines = record { posts = refl; below = λ page line. rw none refl };
  pinned = λ page. refl;
  written = λ page. refl;
  residence = record {
    sizes = record { pages = refl; room = refl; most_steps = refl; most_posts = refl };
    resident = λ page. refl;
    on = refl;
    used = refl;
    faults = refl;
  };
}
drained_by plain (Some post) one is =
    let within : post.page.0 < length plain.pages = post_within plain post is one in
    let after : PlainPage = after_post post (page_at plain.pages post.page.0) in
    record {
      lines = record { posts = refl; below = λ page line. rw one (laid_below plain post is one page line) };
      pinned = same_after (λ p. p.pinned) plain.pages post.page.0 after within refl;
      written = same_after (λ p. p.written) plain.pages post.page.0 after within refl;
      residence = same_residence plain post.page.0 after None;
    }

-- a line of the drained pages
pub drained_line : (plain : PlainView) (page line : ℕ) → IsPlainSound plain
    → line_or_blank (page_at (drained_view plain).pages page).bytes line ≡ line_at (state_of plain) page line
drained_line plain page line is = (drained_by plain plain.post refl is).lines.below page line

-- what draining does
pub drained_device : (plain : PlainView) → IsPlainSound plain → IsDrained (state_of plain) (state_of (drained_view plain))
drained_device plain is = drained_by plain plain.post refl is

-- one page is as before but for its marks
same_marked : (plain : PlainView) (k : ℕ) (page : PlainPage) (post : Option Post) → k < length plain.pages
    → page.bytes ≡ (page_at plain.pages k).bytes → (q line : ℕ)
    → line_or_blank (page_at (set plain.pages k page) q).bytes line ≡ line_or_blank (page_at plain.pages q).bytes line
same_marked plain k page post within same q line = elim (cases_eq q k) [
  | inl here ↦ rw (here, get_or-set_same plain.pages k page fresh_page within, same) refl
  | inr apart ↦ rw (get_or-set_other plain.pages k q page fresh_page apart) refl
]

-- what a pin does
pub pinned_device : (plain : PlainView) (k : ℕ) (on : Bool) → k < length plain.pages
    → IsPinned k on (state_of plain) (state_of (record { pages = set plain.pages k (pinned_page on (page_at plain.pages k)); post = plain.post }))
pinned_device plain k on within =
    let page : PlainPage = pinned_page on (page_at plain.pages k) in
    record {
      lines = record { posts = refl; below = same_marked plain k page plain.post within refl };
      pinned = λ q. elim (cases_eq q k) [
        | inl here ↦ rw (eq-eqb q k here, here, get_or-set_same plain.pages k page fresh_page within) refl
        | inr apart ↦ rw (ne_eqb q k apart, get_or-set_other plain.pages k q page fresh_page apart) refl
      ];
      written = same_after (λ p. p.written) plain.pages k page within refl;
      residence = same_residence plain k page plain.post;
    }

-- a page is pinned: it keeps what a plain device keeps
pub pinned_plain : (plain : PlainView) (k : ℕ) (on : Bool) → k < length plain.pages → IsPlainSound plain
    → IsPlainSound (record { pages = set plain.pages k (pinned_page on (page_at plain.pages k)); post = plain.post })
pinned_plain plain k on within is = record {
  sizes = each_after (λ p. length p.bytes ≡ 4096) plain.pages k (pinned_page on (page_at plain.pages k)) within (is.sizes k) is.sizes;
  posts = is.posts;
  waiting = λ page waits. rw (length-set plain.pages k (pinned_page on (page_at plain.pages k))) (is.waiting page waits);
}

-- the pages with one marked as written, and a post that waits
abbrev pub posted_view : Post → PlainView → PlainView
posted_view post plain =
    record { pages = set plain.pages post.page.0 (written_page (page_at plain.pages post.page.0)); post = Some post }

waits_for : (post : Post) (page : ℕ) → waits_in (post ∷ []) page ≡ true → page ≡ post.page.0
waits_for post page waits = elim (or_cases (post.page.0 == page) false waits) [
  | inl is ↦ sym (eqb-true post.page.0 page is)
  | inr never ↦ absurd (cc)
]

-- a post waits: it keeps what a plain device keeps
pub posted_plain : (plain : PlainView) (post : Post) → post.page.0 < length plain.pages → IsPost post → IsPlainSound plain
    → IsPlainSound (posted_view post plain)
posted_plain plain post within held is =
    let page : PlainPage = written_page (page_at plain.pages post.page.0) in
    record {
      sizes = each_after (λ p. length p.bytes ≡ 4096) plain.pages post.page.0 page within (is.sizes post.page.0) is.sizes;
      posts = All-cons IsPost post [] held (All-nil IsPost);
      waiting = λ q waits. rw (waits_for post q waits, length-set plain.pages post.page.0 page) within;
    }

-- what a post does, after what waited was drained
pub posted_device : (plain : PlainView) (post : Post) → post.page.0 < length plain.pages → IsPlainSound plain
    → IsPosted post (state_of plain) (state_of (posted_view post (drained_view plain)))
posted_device plain post within is =
    let drained : PlainView = drained_view plain in
    let d : IsDrained (state_of plain) (state_of drained) = drained_device plain is in
    let page : PlainPage = written_page (page_at drained.pages post.page.0) in
    let inside : post.page.0 < length drained.pages = rw (d.residence.sizes.pages) within in
    let marked : SameResidence (state_of drained) (state_of (posted_view post drained)) = same_residence drained post.page.0 page (Some post) in
    record {
      drained = option_to_list plain.post;
      few = few_posts plain.post;
      kept = [];
      drains = record {
        split = sym (append-nil (option_to_list plain.post));
        below = λ q line. same_marked drained post.page.0 page (Some post) inside refl q line ∙ d.lines.below q line;
      };
      posts = refl;
      pinned = λ q. same_after (λ p. p.pinned) drained.pages post.page.0 page inside refl q ∙ d.pinned q;
      written = λ q. elim (cases_eq q post.page.0) [
        | inl here ↦ rw (eq-eqb q post.page.0 here, here, get_or-set_same drained.pages post.page.0 page fresh_page inside) refl
        | inr apart ↦ rw (ne_eqb q post.page.0 apart, get_or-set_other drained.pages post.page.0 q page fresh_page apart) (d.written q)
      ];
      residence = record {
        sizes = record {
          pages = marked.sizes.pages ∙ d.residence.sizes.pages;
          room = marked.sizes.room ∙ d.residence.sizes.room;
          most_steps = refl;
          most_posts = refl;
        };
        resident = λ q. marked.resident q ∙ d.residence.resident q;
        on = refl;
        used = refl;
        faults = refl;
      };
    }
