-- Places and the blocks that they lie in.
use Rattle.std.proofs.Common.{◌≡◌, ◌<◌, ◌≤◌, ◌+◌, ◌*◌, ◌/◌, ◌%◌, ℕ, ap, sym, ◌∙◌, arith}
use Rattle.std.proofs.Math.Nat.{mul-le-mul_left, mul_comm}
use Rattle.std.proofs.lemmas.Nat.{div-add-mod', div-mul-add, div_below, mod-mul-add, mod_below}

-- a page of a block
pub block_of_place : (per block next : ℕ) → next < per → (block * per + next) / per ≡ block
block_of_place per block next small = div-mul-add block per next small

pub rest_of_place : (per block next : ℕ) → next < per → (block * per + next) % per ≡ next
rest_of_place per block next small = mod-mul-add block per next small

-- a place by its block and its rest
pub place_is : (per a block : ℕ) → a / per ≡ block → a ≡ block * per + a % per
place_is per a block lies = sym (div-add-mod' a per) ∙ ap (λ q. q * per + a % per) lies

pub place_below : (per a block : ℕ) → 0 < per → a / per ≡ block → a < block * per + per
place_below per a block some lies =
    let is = place_is per a block lies in let rest = mod_below a per some in omega arith

pub place_from : (per a block : ℕ) → a / per ≡ block → block * per ≤ a
place_from per a block lies = let is = place_is per a block lies in omega arith

-- the blocks before one end where it begins
pub blocks_below : (per block blocks : ℕ) → block < blocks → block * per + per ≤ blocks * per
blocks_below per block blocks below =
    let more : per * (block + 1) ≤ per * blocks = mul-le-mul_left per (omega arith) in
    let one = mul_comm per (block + 1) in
    let other = mul_comm per blocks in
    let split : (block + 1) * per ≡ block * per + per = omega arith in
    omega arith

-- a page of a block is one of all
pub place_within : (per block next blocks : ℕ) → next < per → block < blocks
    → block * per + next < blocks * per
place_within per block next blocks small below =
    let most = blocks_below per block blocks below in omega arith

pub block_within : (per a blocks : ℕ) → 0 < per → a < blocks * per → a / per < blocks
block_within per a blocks some below = div_below a per blocks some below
