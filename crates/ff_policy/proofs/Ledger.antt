-- What an access and a step of the threshold leave of the counters' sum.
use Rattle.std.proofs.Common.{ℕ, ◌+◌, ◌*◌, ◌/◌, ◌<◌, ◌≤◌, List, [], ◌∷◌, length, get_or, set, sum, arith}
use Rattle.std.proofs.lemmas.List.Sums.{sum_by-cons, sum_by-set}
use Rattle.ff_policy.specs.Counters.{halved, raised_count}

-- halving leaves half of the sum at most
pub sum-halved : (counters : List ℕ) → 2 * sum (halved counters) ≤ sum counters
sum-halved [] = omega arith
sum-halved (count ∷ rest) =
    omega (arith, sum-halved rest, sum_by-cons (λ n. n) count rest, sum_by-cons (λ n. n) (count / 2) (halved rest))

-- an access raises the sum by at most one
pub sum-counted : (counters : List ℕ) (page : ℕ) → page < length counters
    → sum (set counters page (raised_count (get_or counters page 0))) ≤ sum counters + 1
sum-counted counters page within =
    omega (arith, sum_by-set (λ n. n) counters page (raised_count (get_or counters page 0)) 0 within)
