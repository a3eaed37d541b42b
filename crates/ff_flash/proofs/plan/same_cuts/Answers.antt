use Rattle.std.proofs.Common.{◌≡◌, ℕ, List, [], ◌∷◌, Bool, true, false, refl, ap, ◌∙◌, sym, arith, subst}
use Rattle.std.specs.Prelude.{◌==◌, ◌&&◌}
use Rattle.std.proofs.lemmas.Bool.Decides.{nat_tests}
use Rattle.std.specs.Cmp.Lexicographic.{pointwise}
use Rattle.ff_flash.specs.declared.plan.CutAt.{CutAt}
use Rattle.ff_flash.specs.contracts.plan.CutAtPartialEq.TheImpl as cut_eq
use Rattle.ff_flash.proofs.plan.same_cuts.Goals as goal

first_is : (p q : Bool) → (p && q) ≡ true → p ≡ true
first_is true q e = refl
first_is false q e = cc

second_is : (p q : Bool) → (p && q) ≡ true → q ≡ true
second_is true q e = e
second_is false q e = cc

both_are : (p q : Bool) → p ≡ true → q ≡ true → (p && q) ≡ true
both_are true q e f = f
both_are false q e f = cc

number_is : (a b : ℕ) → (a == b) ≡ true → a ≡ b
number_is a b e = grind (arith, nat_tests)

itself_is : (a : ℕ) → (a == a) ≡ true
itself_is a = grind (arith, nat_tests)

cut_with : ℕ → ℕ → ℕ → CutAt
cut_with at mask arrive = record { at = at; mask = mask; arrive = arrive }

same_cut : (x y : CutAt) → cut_eq.eq-value.it x y ≡ true → x ≡ y
unfolding cut_with
same_cut x y e =
    let rest : ((x.mask == y.mask) && (x.arrive == y.arrive)) ≡ true = second_is (x.at == y.at) _ e in
    let at : x.at ≡ y.at = number_is x.at y.at (first_is (x.at == y.at) _ e) in
    let mask : x.mask ≡ y.mask = number_is x.mask y.mask (first_is (x.mask == y.mask) _ rest) in
    let arrive : x.arrive ≡ y.arrive = number_is x.arrive y.arrive (second_is (x.mask == y.mask) _ rest) in
    ap (λ (n : ℕ). cut_with n x.mask x.arrive) at ∙ ap (λ (n : ℕ). cut_with y.at n x.arrive) mask ∙ ap (λ (n : ℕ). cut_with y.at y.mask n) arrive

cut_itself : (x : CutAt) → cut_eq.eq-value.it x x ≡ true
cut_itself x = both_are _ _ (itself_is x.at) (both_are _ _ (itself_is x.mask) (itself_is x.arrive))

same_lists_of : (xs ys : List CutAt) → pointwise cut_eq.eq-value.it xs ys ≡ true → xs ≡ ys
same_lists_of [] [] e = refl
same_lists_of [] (y ∷ ys) e = cc
same_lists_of (x ∷ xs) [] e = cc
same_lists_of (x ∷ xs) (y ∷ ys) e =
    ap (λ (z : CutAt). z ∷ xs) (same_cut x y (first_is (cut_eq.eq-value.it x y) _ e))
    ∙ ap (λ (zs : List CutAt). y ∷ zs) (same_lists_of xs ys (second_is (cut_eq.eq-value.it x y) _ e))

list_itself : (xs : List CutAt) → pointwise cut_eq.eq-value.it xs xs ≡ true
list_itself [] = refl
list_itself (x ∷ xs) = both_are _ _ (cut_itself x) (list_itself xs)

pub returns : goal.returns
returns c = (
  λ e. same_lists_of c.args.cuts.now c.args.others.now (sym c.eq.ensures ∙ e),
  λ e. c.eq.ensures ∙ subst (λ (zs : List CutAt). pointwise cut_eq.eq-value.it c.args.cuts.now zs ≡ true) e (list_itself c.args.cuts.now),
)
