-- Which slot of a list holds a page.
use Rattle.std.proofs.Common.{◌≡◌, ◌≢◌, ◌<◌, ℕ, zero, suc, Bool, true, false, cond, List, [], ◌∷◌, length, refl, sym, ◌∙◌, arith, Option, Some, None}
use Rattle.std.specs.Option.{is_none}
use Rattle.std.proofs.lemmas.Bool.{ne_eqb, eqb-true}
use Rattle.ff_base.specs.declared.numbers.PageNo.{PageNo}
use Rattle.ff_cache.specs.Slots.{held, holds, is_empty, is_page, cache_slot_at}
use Rattle.ff_cache.specs.declared.slot.CacheSlot.{CacheSlot}

-- the first slot that holds the page is found
pub held_first : (slots : List CacheSlot) (page k : ℕ) → k < length slots → holds (cache_slot_at slots k) page ≡ true
    → ((j : ℕ) → j < k → holds (cache_slot_at slots j) page ≡ false) → held slots page ≡ Some (cache_slot_at slots k)
held_first [] page k within is before = absurd (omega arith)
held_first (slot ∷ later) page zero within is before = rw is refl
held_first (slot ∷ later) page (suc k) within is before =
    let first : holds slot page ≡ false = before 0 (omega arith) in
    rw first (held_first later page k (omega arith) is (λ j below. before (suc j) (omega arith)))

-- no slot holds the page
pub held_none : (slots : List CacheSlot) (page : ℕ) → ((j : ℕ) → j < length slots → holds (cache_slot_at slots j) page ≡ false)
    → held slots page ≡ None
held_none [] page none = refl
held_none (slot ∷ later) page none =
    let first : holds slot page ≡ false = none 0 (omega arith) in
    rw first (held_none later page (λ j below. none (suc j) (omega arith)))

-- where a page is held
pub record IsHeldAt (slots : List CacheSlot) (page : ℕ) (slot : CacheSlot) : Type 0 where
  pub k : ℕ
  pub within : k < length slots
  pub holds : holds (cache_slot_at slots k) page ≡ true
  pub is : slot ≡ cache_slot_at slots k

held_at_or : (first : Bool) (slot found : CacheSlot) (later : List CacheSlot) (page : ℕ) → holds slot page ≡ first
    → cond first (Some slot) (held later page) ≡ Some found
    → (held later page ≡ Some found → IsHeldAt later page found) → IsHeldAt (slot ∷ later) page found
held_at_or true slot found later page is e more =
    let same : slot ≡ found = cc in
    record { k = 0; within = omega arith; holds = is; is = sym same }
held_at_or false slot found later page is e more =
    let at = more e in
    record { k = suc at.k; within = omega (arith, at.within); holds = at.holds; is = at.is }

-- a slot that is found stands somewhere
pub held_at : (slots : List CacheSlot) (page : ℕ) (found : CacheSlot) → held slots page ≡ Some found → IsHeldAt slots page found
held_at [] page found e = absurd (cc)
held_at (slot ∷ later) page found e =
    held_at_or (holds slot page) slot found later page refl e (λ more. held_at later page found more)

none_parts : (first : Bool) (slot : CacheSlot) (rest : Option CacheSlot) → cond first (Some slot) rest ≡ None
    → (first ≡ false) × (rest ≡ None)
none_parts true slot rest none = absurd (cc)
none_parts false slot rest none = (refl, none)

-- a page that is held nowhere
pub none_holds : (slots : List CacheSlot) (page k : ℕ) → held slots page ≡ None → k < length slots
    → holds (cache_slot_at slots k) page ≡ false
none_holds [] page k none within = absurd (omega arith)
none_holds (slot ∷ later) page zero none within = (none_parts (holds slot page) slot (held later page) none).0
none_holds (slot ∷ later) page (suc k) none within =
    none_holds later page k (none_parts (holds slot page) slot (held later page) none).1 (omega arith)

page_one : (found : Option PageNo) (page p : ℕ) → is_page found page ≡ true → p ≢ page → is_page found p ≡ false
page_one None page p is apart = refl
page_one (Some found) page p is apart =
    ne_eqb found.0 p (λ e. apart (sym e ∙ eqb-true found.0 page is))

-- a slot holds one page
pub holds_one : (slot : CacheSlot) (page p : ℕ) → holds slot page ≡ true → p ≢ page → holds slot p ≡ false
holds_one slot page p is apart = page_one slot.page page p is apart

empty_page : (found : Option PageNo) (page : ℕ) → is_none found ≡ true → is_page found page ≡ false
empty_page None page is = refl
empty_page (Some found) page is = absurd (cc)

-- an empty slot holds no page
pub empty_holds : (slot : CacheSlot) (page : ℕ) → is_empty slot ≡ true → holds slot page ≡ false
empty_holds slot page is = empty_page slot.page page is
