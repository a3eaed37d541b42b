-- Pages in one list of bytes, each of one place.
use Rattle.std.proofs.Common.{◌≡◌, ◌≢◌, ◌≤◌, ◌<◌, ◌+◌, ◌*◌, inl, inr, ℕ, zero, suc, cond, List, [], ◌∷◌, ◌++◌, length, get_or, set, take, drop, Option, Some, None, refl, sym, ap, ◌∙◌, arith}
use Rattle.std.specs.Prelude.{is_some, not, replicate}
use Rattle.std.proofs.lemmas.Bool.{cases_eq, cases_lt}
use Rattle.std.proofs.lemmas.List.{length-append, length-take, length-drop, length-map, length-set, length-replicate, take_all, take-append-le, drop-append-le, take-append-drop, get_or-map, get_or-set_same, get_or-set_other, get_or_past, get_or_default, get_or-replicate, same_lists}
use Rattle.std.proofs.lemmas.List.Sums.{sum_by-set, sum_by-cons}
use Rattle.std.proofs.lemmas.Slice.{drop-append-drop}
use Rattle.std.proofs.Math.Seq.{drop-append_seam}
use Rattle.ff_flash.specs.PageArena.{AreSlots, HasSlot, slotless_count, page_in, slot_page, slot_pages}

-- a part of the bytes, from an offset on
abbrev part : List ℕ → ℕ → ℕ → List ℕ
part bytes from size = take size (drop from bytes)

length-take_of : (xs : List ℕ) (n : ℕ) → n ≤ length xs → length (take n xs) ≡ n
length-take_of xs n within = let size = length-take n xs in omega arith

part-append : (xs ys : List ℕ) (from size : ℕ) → from + size ≤ length xs → part (xs ++ ys) from size ≡ part xs from size
part-append xs ys from size within =
    let fits : from ≤ length xs = omega arith in
    let rest = length-drop from xs in
    let front : size ≤ length (drop from xs) = omega arith in
    ap (λ (l : List ℕ). take size l) (drop-append-le from xs ys fits) ∙ take-append-le size (drop from xs) ys front

part-seam : (xs ys : List ℕ) (from size : ℕ) → from ≡ length xs → size ≡ length ys → part (xs ++ ys) from size ≡ ys
part-seam xs ys from size at is =
    ap (λ (n : ℕ). take size (drop n (xs ++ ys))) at ∙ ap (λ (l : List ℕ). take size l) (drop-append_seam xs ys) ∙ take_all size ys (omega arith)

-- bytes with a page written over a part of them
abbrev written : List ℕ → ℕ → List ℕ → ℕ → List ℕ
written bytes from page end = take from bytes ++ page ++ drop end bytes

part-written : (bytes page : List ℕ) (from end size : ℕ) → from + length page ≡ end → end ≤ length bytes → size ≡ length page → part (written bytes from page end) from size ≡ page
part-written bytes page from end size ends within is =
    let front : length (take from bytes) ≡ from = length-take_of bytes from (omega arith) in
    let joined = length-append (take from bytes) page in
    part-append (take from bytes ++ page) (drop end bytes) from size (omega arith) ∙ part-seam (take from bytes) page from size (sym front) is

part-before : (bytes page : List ℕ) (from end at size : ℕ) → from + length page ≡ end → end ≤ length bytes → at + size ≤ from → part (written bytes from page end) at size ≡ part bytes at size
part-before bytes page from end at size ends within before =
    let front : length (take from bytes) ≡ from = length-take_of bytes from (omega arith) in
    let joined = length-append (take from bytes) page in
    part-append (take from bytes ++ page) (drop end bytes) at size (omega arith)
    ∙ part-append (take from bytes) page at size (omega arith)
    ∙ sym (part-append (take from bytes) (drop from bytes) at size (omega arith))
    ∙ ap (λ (l : List ℕ). part l at size) (take-append-drop from bytes)

part-after : (bytes page : List ℕ) (from end at size : ℕ) → from + length page ≡ end → end ≤ length bytes → end ≤ at → part (written bytes from page end) at size ≡ part bytes at size
part-after bytes page from end at size ends within after =
    let front : length (take from bytes) ≡ from = length-take_of bytes from (omega arith) in
    let joined = length-append (take from bytes) page in
    ap (λ (l : List ℕ). take size l) (drop-append-drop end bytes (take from bytes ++ page) at after (omega arith))

-- two readings of the slots agree at a slot in use but one
same_held : (old new : List ℕ) (slot : Option ℕ) → ((s : ℕ) → slot ≡ Some s → page_in new s ≡ page_in old s) → slot_page new slot ≡ slot_page old slot
same_held old new None same = refl
same_held old new (Some s) same = same s refl

-- a page written over that of a place leaves those of the others
pub overwritten : (bytes page : List ℕ) (slots : List (Option ℕ)) (used place slot : ℕ) → AreSlots slots used → HasSlot slots place slot → length bytes ≡ 4096 * used → length page ≡ 4096
    → slot_pages (take (4096 * slot) bytes ++ page ++ drop (4096 * slot + 4096) bytes) slots ≡ set (slot_pages bytes slots) place page
overwritten bytes page slots used place slot are has filled size =
    let new : List ℕ = written bytes (4096 * slot) page (4096 * slot + 4096) in
    let below : slot < used = are.each place slot has in
    let old_size = length-map slots (λ s. slot_page bytes s) in
    let new_size = length-map slots (λ s. slot_page new s) in
    let set_size = length-set (slot_pages bytes slots) place page in
    same_lists (slot_pages new slots) (set (slot_pages bytes slots) place page) (omega arith) (λ k d within.
    let inside : k < length slots = omega arith in
    let read : get_or (slot_pages new slots) k d ≡ slot_page new (get_or slots k None) = get_or-map (λ s. slot_page new s) slots k None d inside in
    let read_old : get_or (slot_pages bytes slots) k d ≡ slot_page bytes (get_or slots k None) = get_or-map (λ s. slot_page bytes s) slots k None d inside in
    elim (cases_eq k place) [
      | inl here ↦
          let is : slot_page new (get_or slots k None) ≡ page = ap (λ (n : ℕ). slot_page new (get_or slots n None)) here ∙ ap (λ (s : Option ℕ). slot_page new s) has ∙ part-written bytes page (4096 * slot) (4096 * slot + 4096) 4096 (omega arith) (omega arith) (omega arith) in
          let there : place < length (slot_pages bytes slots) = omega arith in
          let wrote : get_or (set (slot_pages bytes slots) place page) k d ≡ page = ap (λ (n : ℕ). get_or (set (slot_pages bytes slots) place page) n d) here ∙ get_or-set_same (slot_pages bytes slots) place page d there in
          read ∙ is ∙ sym wrote
      | inr other ↦
          let kept = same_held bytes new (get_or slots k None) (λ s at.
          let in_use : s < used = are.each k s at in
          elim (cases_lt s slot) [
            | inl before ↦ part-before bytes page (4096 * slot) (4096 * slot + 4096) (4096 * s) 4096 (omega arith) (omega arith) (omega arith)
            | inr not_before ↦ elim (cases_eq s slot) [
              | inl same ↦ absurd (other (are.apart k place slot (at ∙ ap Some same) has))
              | inr differs ↦ part-after bytes page (4096 * slot) (4096 * slot + 4096) (4096 * s) 4096 (omega arith) (omega arith) (omega arith)
            ]
          ]) in
          read ∙ kept ∙ sym read_old ∙ sym (get_or-set_other (slot_pages bytes slots) place k page d other)
    ])

-- a page appended for a place that had none leaves those of the others
pub appended : (bytes page : List ℕ) (slots : List (Option ℕ)) (used place : ℕ) → AreSlots slots used → place < length slots → length bytes ≡ 4096 * used → length page ≡ 4096
    → slot_pages (bytes ++ page) (set slots place (Some used)) ≡ set (slot_pages bytes slots) place page
appended bytes page slots used place are lies filled size =
    let new : List ℕ = bytes ++ page in
    let new_slots : List (Option ℕ) = set slots place (Some used) in
    let slots_size = length-set slots place (Some used) in
    let old_size = length-map slots (λ s. slot_page bytes s) in
    let new_size = length-map new_slots (λ s. slot_page new s) in
    let set_size = length-set (slot_pages bytes slots) place page in
    same_lists (slot_pages new new_slots) (set (slot_pages bytes slots) place page) (omega arith) (λ k d within.
    let inside_new : k < length new_slots = omega arith in
    let inside : k < length slots = omega arith in
    let read : get_or (slot_pages new new_slots) k d ≡ slot_page new (get_or new_slots k None) = get_or-map (λ s. slot_page new s) new_slots k None d inside_new in
    let read_old : get_or (slot_pages bytes slots) k d ≡ slot_page bytes (get_or slots k None) = get_or-map (λ s. slot_page bytes s) slots k None d inside in
    elim (cases_eq k place) [
      | inl here ↦
          let slot : get_or new_slots k None ≡ Some used = ap (λ (n : ℕ). get_or new_slots n None) here ∙ get_or-set_same slots place (Some used) None lies in
          let is : slot_page new (get_or new_slots k None) ≡ page = ap (λ (s : Option ℕ). slot_page new s) slot ∙ part-seam bytes page (4096 * used) 4096 (sym filled) (sym size) in
          let there : place < length (slot_pages bytes slots) = omega arith in
          let wrote : get_or (set (slot_pages bytes slots) place page) k d ≡ page = ap (λ (n : ℕ). get_or (set (slot_pages bytes slots) place page) n d) here ∙ get_or-set_same (slot_pages bytes slots) place page d there in
          read ∙ is ∙ sym wrote
      | inr other ↦
          let slot : get_or new_slots k None ≡ get_or slots k None = get_or-set_other slots place k (Some used) None other in
          let kept = same_held bytes new (get_or slots k None) (λ s at.
          let in_use : s < used = are.each k s at in
          part-append bytes page (4096 * s) 4096 (omega arith)) in
          read ∙ ap (λ (s : Option ℕ). slot_page new s) slot ∙ kept ∙ sym read_old ∙ sym (get_or-set_other (slot_pages bytes slots) place k page d other)
    ])

-- one place that had no page fewer is free
free-set : (slots : List (Option ℕ)) (place used : ℕ) → place < length slots → get_or slots place None ≡ None → slotless_count (set slots place (Some used)) + 1 ≡ slotless_count slots
free-set slots place used lies bare =
    let split : slotless_count (set slots place (Some used)) + cond {A = ℕ} (not (is_some (get_or slots place None))) 1 0 ≡ slotless_count slots + 0 = sum_by-set (λ s. cond {A = ℕ} (not (is_some s)) 1 0) slots place (Some used) None lies in
    let one : cond {A = ℕ} (not (is_some (get_or slots place None))) 1 0 ≡ 1 = ap (λ (s : Option ℕ). cond {A = ℕ} (not (is_some s)) 1 0) bare in
    omega arith

-- there is room for the page of a place that has none
pub some_room : (slots : List (Option ℕ)) (used place : ℕ) → AreSlots slots used → place < length slots → get_or slots place None ≡ None → used < length slots
some_room slots used place are lies bare =
    let free = free-set slots place used lies bare in
    let sum = are.free in
    omega arith

some_is : (a b : ℕ) → Some a ≡ Some b → a ≡ b
some_is a b e = cc

pub slots_after : (slots : List (Option ℕ)) (used place : ℕ) → AreSlots slots used → place < length slots → get_or slots place None ≡ None → AreSlots (set slots place (Some used)) (used + 1)
slots_after slots used place are lies bare =
    let free = free-set slots place used lies bare in
    let sum = are.free in
    let size = length-set slots place (Some used) in
    let here : get_or (set slots place (Some used)) place None ≡ Some used = get_or-set_same slots place (Some used) None lies in
    let old : (p s : ℕ) → HasSlot (set slots place (Some used)) p s → p ≢ place → HasSlot slots p s = λ p s has other. sym (get_or-set_other slots place p (Some used) None other) ∙ has in
    let mine : (p s : ℕ) → HasSlot (set slots place (Some used)) p s → p ≡ place → s ≡ used = λ p s has at. some_is s used (sym has ∙ ap (λ (n : ℕ). get_or (set slots place (Some used)) n None) at ∙ here) in
    record {
      free = omega arith;
      each = λ p s has. elim (cases_eq p place) [
        | inl at ↦ let is = mine p s has at in omega arith
        | inr other ↦ let below = are.each p s (old p s has other) in omega arith
      ];
      apart = λ p q s has_p has_q. elim (cases_eq p place) [
        | inl at_p ↦ elim (cases_eq q place) [
          | inl at_q ↦ at_p ∙ sym at_q
          | inr other ↦ let is = mine p s has_p at_p in let below = are.each q s (old q s has_q other) in absurd (omega arith)
        ]
        | inr other_p ↦ elim (cases_eq q place) [
          | inl at_q ↦ let is = mine q s has_q at_q in let below = are.each p s (old p s has_p other_p) in absurd (omega arith)
          | inr other_q ↦ are.apart p q s (old p s has_p other_p) (old q s has_q other_q)
        ]
      ];
    }

get_or-bare : (places p : ℕ) → get_or (replicate {A = Option ℕ} places None) p None ≡ None
get_or-bare places p = elim (cases_lt p places) [
  | inl within ↦ get_or-replicate places p None None within
  | inr past ↦ let size = length-replicate {A = Option ℕ} places None in get_or_past (replicate places None) p None (omega arith)
]

free-bare : (places : ℕ) → slotless_count (replicate places None) ≡ places
free-bare zero = refl
free-bare (suc places) = sum_by-cons (λ s. cond {A = ℕ} (not (is_some s)) 1 0) None (replicate {A = Option ℕ} places None) ∙ (let rest = free-bare places in omega arith)

-- places that were never programmed have no slots
pub bare_slots : (places : ℕ) → AreSlots (replicate places None) 0
bare_slots places =
    let free = free-bare places in
    let size = length-replicate {A = Option ℕ} places None in
    let none_has : (p s : ℕ) → HasSlot (replicate places None) p s → ⊥ = λ p s has. let e : None ≡ Some s = sym (get_or-bare places p) ∙ has in cc in
    record {
      free = omega arith;
      each = λ p s has. absurd (none_has p s has);
      apart = λ p q s has_p has_q. absurd (none_has p s has_p);
    }

-- what an index answers at a place is its slot
pub slot_at : (slots : List (Option ℕ)) (place : ℕ) (o r : Option ℕ) → place < length slots → o ≡ get_or slots place o → o ≡ r → get_or slots place None ≡ r
slot_at slots place o r lies is reads = get_or_default slots place None o lies ∙ sym is ∙ reads

-- a place of the pages is one of the slots
pub lies_within : (bytes : List ℕ) (slots : List (Option ℕ)) (place : ℕ) → place < length (slot_pages bytes slots) → place < length slots
lies_within bytes slots place lies = let size = length-map slots (λ s. slot_page bytes s) in omega arith

-- and no bytes
pub bare_pages : (bytes : List ℕ) (places : ℕ) → slot_pages bytes (replicate places None) ≡ replicate places []
bare_pages bytes zero = refl
bare_pages bytes (suc places) = ap (λ (l : List (List ℕ)). [] ∷ l) (bare_pages bytes places)
