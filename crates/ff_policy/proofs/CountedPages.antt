-- The pages whose counter isn't zero: after an access, after counters fell, and how many there are.
use Rattle.std.proofs.Common.{◌≡◌, ◌≢◌, ℕ, zero, suc, ◌<◌, ◌≤◌, ◌&&◌, ◌||◌, Bool, true, false, cond, List, [], ◌∷◌, ◌++◌, length, get_or, set, filter, inl, inr, refl, sym, ap, ◌∙◌, arith, sum, ltb, eqb}
use Rattle.std.proofs.Math.Bool.{or-false, or-true}
use Rattle.std.proofs.lemmas.Bool.{and_right, cases_Bool, cases_eq, cases_lt, eq-eqb, eqb-true, lt-ltb, ltb-true, ne_eqb, or_parts}
use Rattle.std.proofs.lemmas.Grind.{get_or-set_at}
use Rattle.std.proofs.lemmas.List.{get_or-set_other, get_or_past}
use Rattle.std.proofs.lemmas.List.Folds.{list_any-append}
use Rattle.std.proofs.lemmas.List.Sums.{sum_by-set}
use Rattle.std.proofs.lemmas.Map.Views.{any-filter_same}
use Rattle.ff_base.specs.declared.numbers.PageNo.{PageNo}
use Rattle.ff_policy.specs.Counters.{AreCounted, IsEachOnce, halved, is_among, raised_count}

-- whether a page is among those that pass a test
among-filter : (counters : List ℕ) (pages : List PageNo) (q : ℕ)
    → is_among (filter (λ page. ltb 0 (get_or counters page.0 0)) pages) q ≡ (ltb 0 (get_or counters q 0) && is_among pages q)
among-filter counters pages q =
    any-filter_same (λ (other : PageNo). eqb other.0 q) (λ (page : PageNo). ltb 0 (get_or counters page.0 0)) (ltb 0 (get_or counters q 0))
    (λ page is. ap (λ (n : ℕ). ltb 0 (get_or counters n 0)) (eqb-true page.0 q is)) pages

each-filter : (counters : List ℕ) (pages : List PageNo) → IsEachOnce pages
    → IsEachOnce (filter (λ page. ltb 0 (get_or counters page.0 0)) pages)
each-filter counters [] each = each
each-filter counters (page ∷ later) each = elim (cases_Bool (ltb 0 (get_or counters page.0 0))) [
  | inl stays ↦ rw stays (
    among-filter counters later page.0 ∙ and_right (ltb 0 (get_or counters page.0 0)) (is_among later page.0) each.0,
    each-filter counters later each.1,
  )
  | inr goes ↦ rw goes (each-filter counters later each.1)
]

-- counters fell
pub counted-fewer : (old new : List ℕ) (pages : List PageNo) → AreCounted old pages
    → ((q : ℕ) → ltb 0 (get_or new q 0) ≡ true → ltb 0 (get_or old q 0) ≡ true)
    → AreCounted new (filter (λ page. ltb 0 (get_or new page.0 0)) pages)
counted-fewer old new pages are fell = record {
  counted = λ q. elim (cases_Bool (ltb 0 (get_or new q 0))) [
    | inl stays ↦
        let among : is_among pages q ≡ true = are.counted q ∙ fell q stays in
        among-filter new pages q ∙ (rw (stays, among) refl)
    | inr goes ↦ among-filter new pages q ∙ (rw goes refl)
  ];
  each_once = each-filter new pages are.each_once;
}

-- one page more
among-more : (pages : List PageNo) (page : PageNo) (q : ℕ)
    → is_among (pages ++ page ∷ []) q ≡ (is_among pages q || (eqb page.0 q || false))
among-more pages page q = list_any-append (λ (other : PageNo). eqb other.0 q) pages (page ∷ [])

each-more : (pages : List PageNo) (page : PageNo) → IsEachOnce pages → is_among pages page.0 ≡ false
    → IsEachOnce (pages ++ page ∷ [])
each-more [] page each new = (refl, tt)
each-more (first ∷ later) page each new =
    let parts = or_parts (eqb first.0 page.0) (is_among later page.0) new in
    let apart : eqb page.0 first.0 ≡ false =
    ne_eqb page.0 first.0 (λ same. absurd (let here = eq-eqb first.0 page.0 (sym same) in let off = parts.0 in cc)) in
    (among-more later page first.0 ∙ (rw (each.0, apart) refl), each-more later page each.1 parts.1)

-- a page is counted for the first time
pub counted-more : (old : List ℕ) (pages : List PageNo) (page : PageNo) (count : ℕ) → AreCounted old pages → page.0 < length old
    → get_or old page.0 0 ≡ 0 → 0 < count → AreCounted (set old page.0 count) (pages ++ page ∷ [])
counted-more old pages page count are within was now =
    let new : is_among pages page.0 ≡ false = are.counted page.0 ∙ (rw was refl) in
    record {
      counted = λ q. elim (cases_eq page.0 q) [
        | inl same ↦
            let here : get_or (set old page.0 count) q 0 ≡ count = get_or-set_at old page.0 q count 0 (sym same) within in
            let more : ltb 0 count ≡ true = lt-ltb 0 count now in
            let is : eqb page.0 q ≡ true = eq-eqb page.0 q same in
            among-more pages page q ∙ (rw (here, more, is) (or-true (is_among pages q)))
        | inr other ↦
            let there : get_or (set old page.0 count) q 0 ≡ get_or old q 0 =
            get_or-set_other old page.0 q count 0 (λ same. other (sym same)) in
            let off : eqb page.0 q ≡ false = ne_eqb page.0 q other in
            among-more pages page q ∙ (rw (there, off) (or-false (is_among pages q) ∙ are.counted q))
      ];
      each_once = each-more pages page are.each_once new;
    }

-- a page that was counted before
pub counted-again : (old : List ℕ) (pages : List PageNo) (page count : ℕ) → AreCounted old pages → page < length old
    → 0 < get_or old page 0 → 0 < count → AreCounted (set old page count) pages
counted-again old pages page count are within was now = record {
  counted = λ q. elim (cases_eq page q) [
    | inl same ↦
        let here : get_or (set old page count) q 0 ≡ count = get_or-set_at old page q count 0 (sym same) within in
        let more : ltb 0 count ≡ true = lt-ltb 0 count now in
        let before : ltb 0 (get_or old q 0) ≡ true = lt-ltb 0 (get_or old q 0) (rw (← same) was) in
        are.counted q ∙ (rw (here, more, before) refl)
    | inr other ↦
        let there : get_or (set old page count) q 0 ≡ get_or old q 0 =
        get_or-set_other old page q count 0 (λ same. other (sym same)) in
        rw there (are.counted q)
  ];
  each_once = are.each_once;
}

positive-within : (counters : List ℕ) (page : ℕ) → 0 < get_or counters page 0 → page < length counters
positive-within counters page positive = elim (cases_lt page (length counters)) [
  | inl within ↦ within
  | inr past ↦ absurd (omega (arith, positive, get_or_past counters page 0 past))
]

or_right : (x y : Bool) → y ≡ true → (x || y) ≡ true
or_right x y is = rw is (or-true x)

-- how many there are
few-pages : (counters : List ℕ) (pages : List PageNo) → IsEachOnce pages
    → ((q : ℕ) → is_among pages q ≡ true → 0 < get_or counters q 0) → length pages ≤ sum counters
few-pages counters [] each some = omega arith
few-pages counters (page ∷ later) each some =
    let here : eqb page.0 page.0 ≡ true = eq-eqb page.0 page.0 refl in
    let positive : 0 < get_or counters page.0 0 = some page.0 (rw here refl) in
    let within : page.0 < length counters = positive-within counters page.0 positive in
    let rest : length later ≤ sum (set counters page.0 0) =
    few-pages (set counters page.0 0) later each.1 (λ q among.
    let apart : q ≢ page.0 = λ same. absurd (let off = each.0 in let on = rw same at among in cc) in
    let there : get_or (set counters page.0 0) q 0 ≡ get_or counters q 0 = get_or-set_other counters page.0 q 0 0 apart in
    rw there (some q (or_right (eqb page.0 q) (is_among later q) among))) in
    omega (arith, positive, rest, sum_by-set (λ n. n) counters page.0 0 0 within)

pub few_counted : (counters : List ℕ) (pages : List PageNo) → AreCounted counters pages → length pages ≤ sum counters
few_counted counters pages are =
    few-pages counters pages are.each_once (λ q among. ltb-true 0 (get_or counters q 0) (sym (are.counted q) ∙ among))

-- an access was counted
pub counted-raised : (old : List ℕ) (pages new : List PageNo) (page : PageNo) → AreCounted old pages → page.0 < length old
    → new ≡ cond (eqb (get_or old page.0 0) 0) (pages ++ page ∷ []) pages
    → AreCounted (set old page.0 (raised_count (get_or old page.0 0))) new
counted-raised old pages new page are within is =
    let positive : 0 < raised_count (get_or old page.0 0) = omega arith in
    elim (cases_eq (get_or old page.0 0) 0) [
      | inl none ↦
          let test : eqb (get_or old page.0 0) 0 ≡ true = eq-eqb (get_or old page.0 0) 0 none in
          let pages_are : new ≡ pages ++ page ∷ [] = is ∙ (rw test refl) in
          rw pages_are (counted-more old pages page (raised_count (get_or old page.0 0)) are within none positive)
      | inr some ↦
          let test : eqb (get_or old page.0 0) 0 ≡ false = ne_eqb (get_or old page.0 0) 0 some in
          let pages_are : new ≡ pages = is ∙ (rw test refl) in
          rw pages_are (counted-again old pages page.0 (raised_count (get_or old page.0 0)) are within (omega (arith, some)) positive)
    ]

-- a counter was cleared
pub counted-cleared : (old : List ℕ) (pages : List PageNo) (page : ℕ) → AreCounted old pages → page < length old
    → AreCounted (set old page 0) (filter (λ other. ltb 0 (get_or (set old page 0) other.0 0)) pages)
counted-cleared old pages page are within =
    counted-fewer old (set old page 0) pages are (λ q some. elim (cases_eq q page) [
      | inl same ↦
          let here = get_or-set_at old page q 0 0 same within in
          absurd (omega (arith, ltb-true 0 (get_or (set old page 0) q 0) some, here))
      | inr other ↦ let there = get_or-set_other old page q 0 0 other in rw there at some
    ])

half : (counters : List ℕ) (q : ℕ) → get_or (halved counters) q 0 ≤ get_or counters q 0
half [] q = omega arith
half (count ∷ later) zero = omega arith
half (count ∷ later) (suc q) = half later q

-- the counters were halved
pub counted-halved : (old : List ℕ) (pages : List PageNo) → AreCounted old pages
    → AreCounted (halved old) (filter (λ page. ltb 0 (get_or (halved old) page.0 0)) pages)
counted-halved old pages are =
    counted-fewer old (halved old) pages are (λ q some.
    lt-ltb 0 (get_or old q 0) (omega (arith, ltb-true 0 (get_or (halved old) q 0) some, half old q)))
