-- The least page that is hot and may come in, of those that were accessed.
use Rattle.std.proofs.Common.{◌≡◌, ◌+◌, ◌<◌, ◌≤◌, ℕ, zero, suc, true, inl, inr, List, [], ◌∷◌, ◌++◌, length, get_or, take, Option, Some, None, refl, sym, ap, ◌∙◌, arith}
use Rattle.std.specs.Prelude.{◌==◌, MatchOption, nat_lt, unwrap_or}
use Rattle.std.proofs.lemmas.Bool.{cases_Bool, cases_lt, eq-eqb, eqb-true, lt-ltb}
use Rattle.std.proofs.lemmas.List.{get_or_past, take_more}
use Rattle.std.proofs.Math.Bool.{or-true}
use Rattle.std.proofs.lemmas.Option.{none-some}
use Rattle.std.proofs.lemmas.List.Folds.{list_any-append}
use Rattle.ff_base.specs.declared.numbers.PageNo.{PageNo}
use Rattle.ff_policy.specs.Counters.{AreCounted, is_among}
use Rattle.ff_policy.specs.Policy.{IsPolicySound, counter_of}
use Rattle.ff_core.specs.Choices.{IsLeastAmong, IsLeastPromotable, IsLesser, IsPromotable, keeps, passes, takes}
use Rattle.ff_core.specs.Hierarchy.{HierarchyView}

-- a page among some and one more is that one or among the others
among_more : (pages : List PageNo) (page : PageNo) (other : ℕ) (R : Type 0) → is_among (pages ++ page ∷ []) other ≡ true
    → (is_among pages other ≡ true → R) → (page.0 ≡ other → R) → R
among_more pages page other R among before here = elim (cases_Bool (is_among pages other)) [
  | inl is ↦ before is
  | inr not ↦
      let both = sym (list_any-append (λ (p : PageNo). p.0 == other) pages (page ∷ [])) ∙ among in
      elim (cases_Bool (page.0 == other)) [
        | inl same ↦ here (eqb-true page.0 other same)
        | inr differs ↦ absurd (cc)
      ]
]

-- one more page was looked at
pub least_more : {T E : Type 0} (h : HierarchyView T E) (pages : List PageNo) (least : Option PageNo) (page : PageNo)
    (result : Option PageNo) → IsLeastAmong h pages least → IsLesser h least page result
    → IsLeastAmong h (pages ++ page ∷ []) result
least_more h pages None page result before (passes never is) = rw is
    (λ other among may. among_more pages page other ⊥ among (λ was. before other was may) (λ same. never (rw same may)))
least_more h pages (Some l) page result before (passes never is) = rw is (
  before.0,
  λ other among may. among_more pages page other (l.0 ≤ other) among (λ was. before.1 other was may)
      (λ same. absurd (never (rw same may))),
)
least_more h pages None page result before (keeps other was most is) = absurd (none-some other was)
least_more h pages (Some l) page result before (keeps least was most is) =
    let number : l.0 ≡ least.0 = ap (λ (o : Option PageNo). (unwrap_or o l).0) was in
    rw is (
      before.0,
      λ other among may. among_more pages page other (l.0 ≤ other) among (λ in_front. before.1 other in_front may)
          (λ here. omega arith),
    )
least_more h pages None page result before (takes may least is) = rw is (
  may,
  λ other among can. among_more pages page other (page.0 ≤ other) among (λ was. absurd (before other was can))
      (λ same. omega arith),
)
least_more h pages (Some l) page result before (takes may least is) =
    let less = least l refl in
    rw is (
      may,
      λ other among can. among_more pages page other (page.0 ≤ other) among
          (λ was. let bound = before.1 other was can in omega arith) (λ same. omega arith),
    )

pub least_at : {T E : Type 0} (h : HierarchyView T E) (pages : List PageNo) (i : ℕ) (d : PageNo) (least result : Option PageNo)
    → i < length pages → IsLeastAmong h (take i pages) least → IsLesser h least (get_or pages i d) result
    → IsLeastAmong h (take (i + 1) pages) result
least_at h pages i d least result within before is =
    rw (take_more pages i d within) (least_more h (take i pages) least (get_or pages i d) result before is)

-- a page of these is among them
among_at : (pages : List PageNo) (i : ℕ) (d : PageNo) → i < length pages → is_among pages (get_or pages i d).0 ≡ true
among_at [] i d within = absurd (omega arith)
among_at (first ∷ later) zero d within = rw (eq-eqb first.0 first.0 refl) refl
among_at (first ∷ later) (suc i) d within =
    rw (among_at later i d (omega arith)) (or-true (first.0 == (get_or later i d).0))

-- a page that was accessed is one of those that have a counter
pub counted_within : (counters : List ℕ) (pages : List PageNo) (i : ℕ) (d : PageNo) → AreCounted counters pages
    → i < length pages → (get_or pages i d).0 < length counters
counted_within counters pages i d are within =
    let page = get_or pages i d in
    elim (cases_lt page.0 (length counters)) [
      | inl fits ↦ fits
      | inr past ↦
          let none : get_or counters page.0 0 ≡ 0 = get_or_past counters page.0 0 past in
          let some : nat_lt 0 (get_or counters page.0 0) ≡ true = sym (are.counted page.0) ∙ among_at pages i d within in
          absurd (let both : nat_lt 0 0 ≡ true = ap (nat_lt 0) (sym none) ∙ some in cc)
    ]

-- a page that may come in was accessed
promotable_among : {T E : Type 0} (h : HierarchyView T E) (pages : List PageNo) (page : ℕ) → IsPolicySound h.policy
    → AreCounted h.policy.counters pages → IsPromotable h page → is_among pages page ≡ true
promotable_among h pages page sound are may =
    let hot = may.hot in
    let least = sound.least in
    let positive = sound.positive in
    let some : 0 < counter_of h.policy page = omega arith in
    are.counted page ∙ lt-ltb 0 (counter_of h.policy page) some

pub promotable_of : {T E : Type 0} (h : HierarchyView T E) (pages : List PageNo) (result : Option PageNo) → IsPolicySound h.policy
    → AreCounted h.policy.counters pages → IsLeastAmong h pages result
    → MatchOption result ((page : ℕ) → IsPromotable h page → ⊥) (λ page. IsLeastPromotable h page.0)
promotable_of h pages None sound are is = λ page may. is page (promotable_among h pages page sound are may) may
promotable_of h pages (Some least) sound are is = record {
  is = is.0;
  least = λ other may. is.1 other (promotable_among h pages other sound are may) may;
}
