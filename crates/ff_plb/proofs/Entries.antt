-- The entry of a page, found and after a slot was changed.
use Rattle.std.specs.Option.{option_or}
use Rattle.std.proofs.Common.{◌≡◌, ◌≢◌, ℕ, zero, suc, ◌<◌, true, false, eqb, List, [], ◌∷◌, length, set, Option, None, Some, ◌⊎◌, inl, inr, refl, sym, ap, ◌∙◌, arith, length-set}
use Rattle.std.proofs.lemmas.Bool.{cases_eq, eq-eqb, ne_eqb}
use Rattle.std.proofs.lemmas.Grind.{get_or-set_at}
use Rattle.std.proofs.lemmas.List.{get_or-set_other}
use Rattle.std.proofs.lemmas.Option.{none-some, same_Some}
use Rattle.ff_plb.specs.Plb.{ArePagesApart, entry_if, entry_of, slot_at}
use Rattle.ff_plb.specs.declared.slot.Slot.{Slot}

pub entry_if-here : (entry : Slot) (page : ℕ) → entry.page.0 ≡ page → entry_if (Some entry) page ≡ Some entry
entry_if-here entry page same = let test : eqb entry.page.0 page ≡ true = eq-eqb entry.page.0 page same in rw test refl

pub entry_if-other : (entry : Slot) (page : ℕ) → entry.page.0 ≢ page → entry_if (Some entry) page ≡ None
entry_if-other entry page apart = let test : eqb entry.page.0 page ≡ false = ne_eqb entry.page.0 page apart in rw test refl

-- an entry that is of the page
pub entry_if-page : (slot : Option Slot) (page : ℕ) (entry : Slot) → entry_if slot page ≡ Some entry
    → (slot ≡ Some entry) × (entry.page.0 ≡ page)
entry_if-page None page entry is = absurd (none-some entry is)
entry_if-page (Some there) page entry is = elim (cases_eq there.page.0 page) [
  | inl same ↦
      let found : there ≡ entry = same_Some there entry (sym (entry_if-here there page same) ∙ is) in
      (ap Some found, sym (ap (λ (s : Slot). s.page.0) found) ∙ same)
  | inr apart ↦ absurd (none-some entry (sym (entry_if-other there page apart) ∙ is))
]

either : (one other : Option Slot) (entry : Slot) → option_or one other ≡ Some entry → (one ≡ Some entry) ⊎ (other ≡ Some entry)
either None other entry is = inr is
either (Some there) other entry is = inl is

neither : (one other : Option Slot) → (option_or one other ≡ None) → other ≡ None
neither None other is = is
neither (Some there) other is = absurd (none-some there (sym is))

-- in which slot a page's entry is
pub record IsThere (slots : List (Option Slot)) (page : ℕ) (entry : Slot) : Type 0 where
  pub slot : ℕ
  pub there : slot_at slots slot ≡ Some entry
  pub page_is : entry.page.0 ≡ page

-- a page's entry is in a slot
pub entry-there : (slots : List (Option Slot)) (page : ℕ) (entry : Slot) → entry_of slots page ≡ Some entry
    → IsThere slots page entry
entry-there [] page entry is = absurd (none-some entry is)
entry-there (first ∷ later) page entry is = elim (either (entry_if first page) (entry_of later page) entry is) [
  | inl here ↦ let found = entry_if-page first page entry here in record { slot = zero; there = found.0; page_is = found.1 }
  | inr behind ↦
      let found = entry-there later page entry behind in
      record { slot = suc found.slot; there = found.there; page_is = found.page_is }
]

-- a page with an entry in a slot has an entry
pub entry-some : (slots : List (Option Slot)) (slot : ℕ) (entry : Slot) → slot_at slots slot ≡ Some entry
    → entry_of slots entry.page.0 ≡ None → ⊥
entry-some [] slot entry there none = none-some entry there
entry-some (first ∷ later) zero entry there none =
    let here : entry_if first entry.page.0 ≡ Some entry =
    ap (λ (s : Option Slot). entry_if s entry.page.0) there ∙ entry_if-here entry entry.page.0 refl in
    none-some entry (sym (rw here at none))
entry-some (first ∷ later) (suc slot) entry there none =
    entry-some later slot entry there (neither (entry_if first entry.page.0) (entry_of later entry.page.0) none)

found_or_none : (found : Option Slot) → (found ≡ None → ⊥) → (entry : Slot) × (found ≡ Some entry)
found_or_none None some = absurd (some refl)
found_or_none (Some entry) some = (entry, refl)

-- the entry in a slot is its page's
pub entry-at : (slots : List (Option Slot)) (slot : ℕ) (entry : Slot) → ArePagesApart slots
    → slot_at slots slot ≡ Some entry → entry_of slots entry.page.0 ≡ Some entry
entry-at slots slot entry apart there =
    let some = found_or_none (entry_of slots entry.page.0) (entry-some slots slot entry there) in
    let found = entry-there slots entry.page.0 some.0 some.1 in
    let same : found.slot ≡ slot = apart.apart found.slot slot some.0 entry found.there there found.page_is in
    let here : some.0 ≡ entry = same_Some some.0 entry (sym found.there ∙ ap (λ (k : ℕ). slot_at slots k) same ∙ there) in
    some.1 ∙ ap Some here

-- a page that neither the old nor the new entry is of
pub entry-other : (slots : List (Option Slot)) (slot : ℕ) (new : Option Slot) (page : ℕ) → entry_if new page ≡ None
    → entry_if (slot_at slots slot) page ≡ None → entry_of (set slots slot new) page ≡ entry_of slots page
entry-other [] slot new page now before = refl
entry-other (first ∷ later) zero new page now before = rw (now, before) refl
entry-other (first ∷ later) (suc slot) new page now before =
    ap (λ (rest : Option Slot). option_or (entry_if first page) rest) (entry-other later slot new page now before)

-- the pages stay apart where no other slot has the new entry's page
pub apart-set : (slots : List (Option Slot)) (slot : ℕ) (new : Option Slot) → ArePagesApart slots → slot < length slots
    → ((entry : Slot) → new ≡ Some entry → (other : ℕ) (old : Slot) → slot_at slots other ≡ Some old → entry.page.0 ≡ old.page.0 → other ≡ slot)
    → ArePagesApart (set slots slot new)
apart-set slots slot new apart within alone = record {
  few = let few = apart.few in omega (arith, length-set slots slot new);
  apart = λ i j one other first second same. elim (cases_eq i slot) [
    | inl at_i ↦ elim (cases_eq j slot) [
      | inl at_j ↦ at_i ∙ sym at_j
      | inr off_j ↦
          let now : new ≡ Some one = sym (get_or-set_at slots slot i new None at_i within) ∙ first in
          let before : slot_at slots j ≡ Some other = sym (get_or-set_other slots slot j new None off_j) ∙ second in
          absurd (off_j (alone one now j other before same))
    ]
    | inr off_i ↦ elim (cases_eq j slot) [
      | inl at_j ↦
          let now : new ≡ Some other = sym (get_or-set_at slots slot j new None at_j within) ∙ second in
          let before : slot_at slots i ≡ Some one = sym (get_or-set_other slots slot i new None off_i) ∙ first in
          absurd (off_i (alone other now i one before (sym same)))
      | inr off_j ↦
          apart.apart i j one other (sym (get_or-set_other slots slot i new None off_i) ∙ first)
          (sym (get_or-set_other slots slot j new None off_j) ∙ second) same
    ]
  ];
}

-- an entry is replaced by one of the same page
pub apart-same : (slots : List (Option Slot)) (slot : ℕ) (old new : Slot) → ArePagesApart slots → slot < length slots
    → slot_at slots slot ≡ Some old → new.page ≡ old.page → ArePagesApart (set slots slot (Some new))
apart-same slots slot old new apart within there page =
    apart-set slots slot (Some new) apart within (λ entry is other t at same.
    apart.apart other slot t old at there
    (sym same ∙ ap (λ (s : Slot). s.page.0) (sym (same_Some new entry is)) ∙ ap (λ p. p.0) page))

-- an entry comes
pub apart-begin : (slots : List (Option Slot)) (slot : ℕ) (new : Slot) → ArePagesApart slots → slot < length slots
    → entry_of slots new.page.0 ≡ None → ArePagesApart (set slots slot (Some new))
apart-begin slots slot new apart within none =
    apart-set slots slot (Some new) apart within (λ entry is other t at same.
    let page : new.page.0 ≡ t.page.0 = ap (λ (s : Slot). s.page.0) (same_Some new entry is) ∙ same in
    absurd (entry-some slots other t at (ap (λ (n : ℕ). entry_of slots n) (sym page) ∙ none)))

-- an entry goes
pub apart-close : (slots : List (Option Slot)) (slot : ℕ) → ArePagesApart slots → slot < length slots
    → ArePagesApart (set slots slot None)
apart-close slots slot apart within =
    apart-set slots slot None apart within (λ entry is other t at same. absurd (none-some entry is))

-- the entry that a slot has now is its page's
pub entry-now : (slots : List (Option Slot)) (slot : ℕ) (new : Slot) → slot < length slots
    → ArePagesApart (set slots slot (Some new)) → entry_of (set slots slot (Some new)) new.page.0 ≡ Some new
entry-now slots slot new within apart =
    entry-at (set slots slot (Some new)) slot new apart (get_or-set_at slots slot slot (Some new) None refl within)

none_or : (found : Option Slot) → ((entry : Slot) → found ≡ Some entry → ⊥) → found ≡ None
none_or None never = refl
none_or (Some entry) never = absurd (never entry refl)

-- a page whose entry went has none
pub entry-gone : (slots : List (Option Slot)) (slot : ℕ) (old : Slot) → ArePagesApart slots → slot < length slots
    → slot_at slots slot ≡ Some old → entry_of (set slots slot None) old.page.0 ≡ None
entry-gone slots slot old apart within there =
    none_or (entry_of (set slots slot None) old.page.0) (λ entry is.
    let found = entry-there (set slots slot None) old.page.0 entry is in
    elim (cases_eq found.slot slot) [
      | inl here ↦ none-some entry (sym (get_or-set_at slots slot found.slot None None here within) ∙ found.there)
      | inr elsewhere ↦
          let before : slot_at slots found.slot ≡ Some entry =
          sym (get_or-set_other slots slot found.slot None None elsewhere) ∙ found.there in
          elsewhere (apart.apart found.slot slot entry old before there found.page_is)
    ])
