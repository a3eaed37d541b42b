-- A piece that is written bit by bit.
use Rattle.std.proofs.Common.{◌≡◌, ℕ, ◌+◌, ◌-◌, Option, List, ◌++◌, OnErr, Result, Ok, Err, length, take, drop, sym, ◌∙◌, ap, subst, take-append-drop}
use Rattle.std.proofs.Math.Seq.{take-add}
use Rattle.std.proofs.lemmas.List.{take_rest}
use Rattle.std.proofs.KnownBytes.{Appends-trans, Appends-kept}
use Rattle.std.specs.Io.KnownBytes.{Appends, Keeps}
use Rattle.ff_io.specs.Known.{AppendsPrefix}

-- n bytes of the piece, and then m more
pub Appends-more : (a b c : Option (List ℕ)) (piece : List ℕ) (n m : ℕ) → Appends a b (take n piece)
    → Appends b c (take m (take (length piece - n) (drop n piece))) → Appends a c (take (n + m) piece)
Appends-more a b c piece n m first second =
    let joined : take n piece ++ take m (take (length piece - n) (drop n piece)) ≡ take (n + m) piece =
    ap (λ l. take n piece ++ take m l) (take_rest piece n) ∙ sym (take-add n m piece) in
    subst (Appends a c) joined (Appends-trans a b c _ _ first second)

-- n bytes of the piece, and then none
pub AppendsPrefix-kept : {T E : Type 0} (r : Result T E) (a b c : Option (List ℕ)) (piece : List ℕ) (n : ℕ) → Appends a b (take n piece) → Keeps b c
    → OnErr r (AppendsPrefix a c piece)
AppendsPrefix-kept (Ok x) a b c piece n first kept = tt
AppendsPrefix-kept (Err e) a b c piece n first kept =
    (take n piece, drop n piece, sym (take-append-drop n piece), Appends-kept a b c (take n piece) first kept)
