-- Prefixes of a history, and what the flat bytes after them are.
use Rattle.std.proofs.Common.{◌≡◌, ◌≤◌, ℕ, zero, suc, ◌+◌, ◌-◌, List, [], ◌∷◌, ◌++◌, Option, Some, None, length, take, drop, refl, sym, ap, ◌∙◌, length-drop, arith}
use Rattle.std.specs.Prelude.{unwrap_or, slice_get, slice_range}
use Rattle.std.specs.Option.{option_or}
use Rattle.std.proofs.Math.Seq.{take-add}
use Rattle.std.proofs.lemmas.List.{drop-append-le, drop_more, take-append-le, take_more}
use Rattle.std.proofs.lemmas.Option.{get_or_from_slice_get, slice_get_within}
use Rattle.ff_model.specs.Flat.{byte_after, flat_byte_of, latest, stored_byte}
use Rattle.ff_model.specs.Image.{Content, byte_at}
use Rattle.ff_model.specs.declared.history.Entry.{Entry}
use Rattle.ff_model.proofs.Appended.{flat_byte_of-append}

-- a prefix is a shorter one and what stands between
pub take_between : {A : Type 0} (xs : List A) (from to : ℕ) → from ≤ to → take to xs ≡ take from xs ++ slice_range xs from to
take_between {A} xs from to order =
    let whole : from + (to - from) ≡ to = omega arith in
    ap (λ (n : ℕ). take n xs) (sym whole) ∙ take-add from (to - from) xs

-- the next longer prefix
pub take_next : {A : Type 0} (xs : List A) (at : ℕ) (x : A) → slice_get xs at ≡ Some x → take (at + 1) xs ≡ take at xs ++ x ∷ []
take_next {A} xs at x there =
    take_more xs at x (slice_get_within xs at x there)
    ∙ ap (λ (y : A). take at xs ++ y ∷ []) (get_or_from_slice_get xs at x x there)

-- an element and those behind it
pub drop_next : {A : Type 0} (xs : List A) (at : ℕ) (x : A) → slice_get xs at ≡ Some x → drop at xs ≡ x ∷ drop (at + 1) xs
drop_next {A} xs at x there =
    drop_more xs at x (slice_get_within xs at x there)
    ∙ ap (λ (y : A). y ∷ drop (at + 1) xs) (get_or_from_slice_get xs at x x there)

-- what stands between two positions stands there when more is put behind
pub slice_range-longer : {A : Type 0} (xs ys : List A) (from to : ℕ) → from ≤ to → to ≤ length xs
    → slice_range (xs ++ ys) from to ≡ slice_range xs from to
slice_range-longer {A} xs ys from to order within =
    let room : to - from ≤ length (drop from xs) = omega (arith, length-drop from xs) in
    ap (λ (l : List A). take (to - from) l) (drop-append-le from xs ys (omega arith))
    ∙ take-append-le (to - from) (drop from xs) ys room

-- an element stays where it is when others are put behind
pub slice_get-append_left : {A : Type 0} (xs ys : List A) (at : ℕ) (x : A) → slice_get xs at ≡ Some x → slice_get (xs ++ ys) at ≡ Some x
slice_get-append_left [] ys at x there = absurd (cc there)
slice_get-append_left (y ∷ xs) ys zero x there = there
slice_get-append_left (y ∷ xs) ys (suc at) x there = slice_get-append_left xs ys at x there

-- the last element
pub slice_get-last : {A : Type 0} (xs : List A) (x : A) → slice_get (xs ++ x ∷ []) (length xs) ≡ Some x
slice_get-last [] x = refl
slice_get-last (y ∷ xs) x = slice_get-last xs x

-- entries that say nothing change nothing
latest-quiet : {A : Type 0} (says : Entry → Option A) (before later : List Entry) → latest says later ≡ None
    → latest says (before ++ later) ≡ latest says before
latest-quiet says [] later none = none
latest-quiet says (entry ∷ before) later none =
    ap (λ o. option_or o (says entry)) (latest-quiet says before later none)

-- a byte that no later entry stores
pub flat_byte_of-quiet : (base : Content) (before later : List Entry) (address : ℕ)
    → latest (stored_byte address) later ≡ None
    → flat_byte_of base (before ++ later) address ≡ flat_byte_of base before address
flat_byte_of-quiet base before later address none =
    ap (λ (o : Option ℕ). unwrap_or o (byte_at base address)) (latest-quiet (stored_byte address) before later none)

-- a byte after one more entry of the history
pub flat_byte_of-next : (base : Content) (history : List Entry) (at address : ℕ) (entry : Entry)
    → slice_get history at ≡ Some entry
    → flat_byte_of base (take (at + 1) history) address
    ≡ byte_after address entry.op entry.reply (flat_byte_of base (take at history) address)
flat_byte_of-next base history at address entry there =
    ap (λ (entries : List Entry). flat_byte_of base entries address) (take_next history at entry there)
    ∙ flat_byte_of-append base (take at history) entry address

-- a prefix of a history is one of a longer history
pub flat_byte_of-longer : (base : Content) (history later : List Entry) (count address : ℕ) → count ≤ length history
    → flat_byte_of base (take count (history ++ later)) address ≡ flat_byte_of base (take count history) address
flat_byte_of-longer base history later count address within =
    ap (λ (entries : List Entry). flat_byte_of base entries address) (take-append-le count history later within)
