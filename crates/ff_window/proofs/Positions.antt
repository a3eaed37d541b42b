-- The first position of posts that stand in two lists.
use Rattle.std.proofs.Common.{◌≡◌, List, [], ◌∷◌, ◌++◌, Option, Some, None, refl, ap, ◌∙◌, ℕ}
use Rattle.std.specs.Option.{option_or}
use Rattle.ff_lines.specs.declared.post.Post.{Post}
use Rattle.ff_window.specs.Window.{first_position}

or_more : (a b c : Option ℕ) → option_or a (option_or b c) ≡ option_or (option_or a b) c
or_more None b c = refl
or_more (Some x) b c = refl

-- the first of the first list, or else of the second
pub first_position-append : (xs ys : List Post)
    → first_position (xs ++ ys) ≡ option_or (first_position xs) (first_position ys)
first_position-append [] ys = refl
first_position-append (post ∷ later) ys =
    ap (λ (o : Option ℕ). option_or post.position o) (first_position-append later ys)
    ∙ or_more post.position (first_position later) (first_position ys)
