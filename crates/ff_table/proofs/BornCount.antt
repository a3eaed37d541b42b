-- How many pages are born, before one of them is and after.
use Rattle.std.proofs.Common.{◌≡◌, ℕ, ◌+◌, ◌<◌, ◌≤◌, Bool, true, false, cond, List, length, get_or, set, count_by, ap, sym, ◌∙◌, arith, length-set}
use Rattle.std.proofs.lemmas.List.{get_or_read}
use Rattle.std.proofs.lemmas.List.Sums.{count_by-le-length, sum_by-set}

-- a page that is born, and was read as unborn before, counts one more
pub count-born : (born : List Bool) (page : ℕ) (read : Bool) → page < length born → read ≡ get_or born page read → read ≡ false
    → count_by (λ b. b) (set born page true) ≡ count_by (λ b. b) born + 1
count-born born page read within is-read unborn =
    let weight : Bool → ℕ = λ b. cond b 1 0 in
    let before : weight (get_or born page false) ≡ 0 =
    ap weight (sym (get_or_read born page read within is-read false) ∙ unborn) in
    omega (arith, before, sum_by-set weight born page true false within)

-- a page that was read as unborn leaves room for one more
pub count-unborn : (born : List Bool) (page : ℕ) (read : Bool) → page < length born → read ≡ get_or born page read → read ≡ false
    → count_by (λ b. b) born + 1 ≤ length born
count-unborn born page read within is-read unborn =
    omega (arith, count-born born page read within is-read unborn, count_by-le-length (λ b. b) (set born page true), length-set born page true)
