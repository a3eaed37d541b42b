-- Writes one after the other, of which the last may have failed.
use Rattle.std.proofs.Common.{◌≡◌, ℕ, ◌+◌, ◌<◌, ◌≤◌, Option, List, [], ◌∷◌, ◌++◌, Result, Ok, Err, length, take, drop, get_or, ap, ◌∙◌, refl, sym, subst, append_assoc, append-nil}
use Rattle.std.specs.Prelude.{flat_map}
use Rattle.std.proofs.KnownBytes.{Appends-nil, Appends-trans}
use Rattle.std.proofs.lemmas.List.{drop_more, take-append-drop, take_all, take_more}
use Rattle.std.proofs.lemmas.List.Concat.{flat_map-append}
use Rattle.std.specs.Io.KnownBytes.{Appends}
use Rattle.ff_base.specs.Count.{Rose}
use Rattle.ff_io.specs.declared.traits.Failed.{Failed}
use Rattle.ff_report.specs.Wrote.{Wrote}

-- a first text, and then a second
pub Wrote-then : (r : Result (Unit {0}) Failed) (a b c : Option (List ℕ)) (i j k : ℕ) (p q text : List ℕ)
    → Wrote (Ok tt) a b i j p → Wrote r b c j k q → text ≡ p ++ q → Wrote r a c i k text
Wrote-then (Ok tt) a b c i j k p q text first second is =
    record { ok = subst (Appends a c) (sym is) (Appends-trans a b c p q first.ok second.ok); err = tt; faults = second.faults ∙ first.faults }
Wrote-then (Err e) a b c i j k p q text first second is =
    let front = second.err.0 in
    let back = second.err.1 in
    let split : text ≡ (p ++ front) ++ back = is ∙ ap (λ l. p ++ l) second.err.2 ∙ sym (append_assoc p front back) in
    record {
      ok = tt;
      err = (p ++ front, back, split, Appends-trans a b c p front first.ok second.err.3);
      faults = (subst (λ n. Rose n k) first.faults second.faults.0, subst (λ n. n ≤ k) first.faults second.faults.1);
    }

-- a first text that wasn't written whole, where a second was to follow
pub Wrote-failed : (e : Failed) (a b : Option (List ℕ)) (i j : ℕ) (p q text : List ℕ)
    → Wrote (Err e) a b i j p → text ≡ p ++ q → Wrote (Err e) a b i j text
Wrote-failed e a b i j p q text first is =
    let front = first.err.0 in
    let back = first.err.1 in
    let split : text ≡ front ++ (back ++ q) = is ∙ ap (λ l. l ++ q) first.err.2 ∙ append_assoc front back q in
    record { ok = tt; err = (front, back ++ q, split, first.err.3); faults = first.faults }

-- nothing was to be written
pub Wrote_none : (a : Option (List ℕ)) (i : ℕ) → Wrote (Ok tt) a a i i []
Wrote_none a i = record { ok = Appends-nil a; err = tt; faults = refl }

-- in a loop over a list: one piece more
pub Wrote-more : {X : Type 0} (f : X → List ℕ) (xs : List X) (n : ℕ) (x : X) (a b c : Option (List ℕ)) (i j k : ℕ) (piece : List ℕ)
    → Wrote (Ok tt) a b i j (flat_map f (take n xs)) → Wrote (Ok tt) b c j k piece → piece ≡ f x → n < length xs → x ≡ get_or xs n x
    → Wrote (Ok tt) a c i k (flat_map f (take (n + 1) xs))
Wrote-more f xs n x a b c i j k piece before now is within at =
    let more : flat_map f (take (n + 1) xs) ≡ flat_map f (take n xs) ++ piece =
    ap (flat_map f) (take_more xs n x within ∙ ap (λ y. take n xs ++ y ∷ []) (sym at))
    ∙ flat_map-append f (take n xs) (x ∷ []) ∙ ap (λ l. flat_map f (take n xs) ++ l) (append-nil (f x) ∙ sym is) in
    Wrote-then (Ok tt) a b c i j k _ piece _ before now more

-- a piece that wasn't written whole
pub Wrote-stopped : {X : Type 0} (e : Failed) (f : X → List ℕ) (xs : List X) (n : ℕ) (x : X) (a b c : Option (List ℕ)) (i j k : ℕ) (piece : List ℕ)
    → Wrote (Ok tt) a b i j (flat_map f (take n xs)) → Wrote (Err e) b c j k piece → piece ≡ f x → n < length xs → x ≡ get_or xs n x
    → Wrote (Err e) a c i k (flat_map f xs)
Wrote-stopped e f xs n x a b c i j k piece before now is within at =
    let rest = flat_map f (drop (n + 1) xs) in
    let whole : flat_map f xs ≡ flat_map f (take n xs) ++ (piece ++ rest) =
    ap (flat_map f) (sym (take-append-drop n xs)) ∙ flat_map-append f (take n xs) (drop n xs)
    ∙ ap (λ l. flat_map f (take n xs) ++ flat_map f l) (drop_more xs n x within ∙ ap (λ y. y ∷ drop (n + 1) xs) (sym at))
    ∙ ap (λ l. flat_map f (take n xs) ++ (l ++ rest)) (sym is) in
    Wrote-then (Err e) a b c i j k _ (piece ++ rest) _ before (Wrote-failed e b c j k piece rest _ now refl) whole

-- all pieces
pub Wrote-all : {X : Type 0} (f : X → List ℕ) (xs : List X) (n : ℕ) (a b : Option (List ℕ)) (i j : ℕ)
    → Wrote (Ok tt) a b i j (flat_map f (take n xs)) → length xs ≤ n → Wrote (Ok tt) a b i j (flat_map f xs)
Wrote-all f xs n a b i j all past = subst (Wrote (Ok tt) a b i j) (ap (flat_map f) (take_all n xs past)) all
