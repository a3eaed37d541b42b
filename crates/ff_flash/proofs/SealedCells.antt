-- Sealed cells in a list of which one cell is replaced.
use Rattle.std.proofs.Common.{◌≡◌, ◌≢◌, ◌<◌, ℕ, zero, suc, List, [], ◌∷◌, length, set, arith, subst, sym, ◌∙◌}
use Rattle.std.proofs.lemmas.List.{get_or-set_other}
use Rattle.ff_flash.specs.Cells.{Cell, IsUnsealed, cell_at, closed, erased, sealed}
use Rattle.ff_flash.specs.declared.spare.Spare.{Spare}

-- an erased cell is not sealed
pub erased_unsealed : (cell : Cell) → cell ≡ erased → IsUnsealed cell
erased_unsealed cell is = subst (λ (c : Cell). IsUnsealed c) (sym is) tt

-- a closed cell is not sealed
pub closed_unsealed : (cell : Cell) (bytes : List ℕ) (spare : Spare) → cell ≡ closed bytes spare → IsUnsealed cell
closed_unsealed cell bytes spare is = subst (λ (c : Cell). IsUnsealed c) (sym is) tt

-- no cell is sealed and not
pub never_sealed : (cell : Cell) (bytes : List ℕ) (spare : Spare) → IsUnsealed cell → cell ≡ sealed bytes spare → ⊥
never_sealed cell bytes spare unsealed is = subst (λ (c : Cell). IsUnsealed c) is unsealed

-- a sealed cell is one of the flash's
pub sealed_within : (cells : List Cell) (at : ℕ) (bytes : List ℕ) (spare : Spare)
    → cell_at cells at ≡ sealed bytes spare → at < length cells
sealed_within [] at bytes spare is = cc
sealed_within (c ∷ cells) zero bytes spare is = omega arith
sealed_within (c ∷ cells) (suc at) bytes spare is = let within = sealed_within cells at bytes spare is in omega arith

-- a closed cell is one of the flash's
pub closed_within : (cells : List Cell) (at : ℕ) (bytes : List ℕ) (spare : Spare)
    → cell_at cells at ≡ closed bytes spare → at < length cells
closed_within [] at bytes spare is = cc
closed_within (c ∷ cells) zero bytes spare is = omega arith
closed_within (c ∷ cells) (suc at) bytes spare is = let within = closed_within cells at bytes spare is in omega arith

-- a sealed cell is at another place than one that is not sealed
pub sealed_apart : (cells : List Cell) (at place : ℕ) (bytes : List ℕ) (spare : Spare) → IsUnsealed (cell_at cells at)
    → cell_at cells place ≡ sealed bytes spare → place ≢ at
sealed_apart cells at place bytes spare unsealed is same =
    never_sealed (cell_at cells at) bytes spare unsealed
    (subst (λ (p : ℕ). cell_at cells p ≡ sealed bytes spare) same is)

-- a sealed cell stays where one that is not sealed is replaced
pub sealed_stays : (cells : List Cell) (at : ℕ) (cell : Cell) (place : ℕ) (bytes : List ℕ) (spare : Spare)
    → IsUnsealed (cell_at cells at) → cell_at cells place ≡ sealed bytes spare
    → cell_at (set cells at cell) place ≡ sealed bytes spare
sealed_stays cells at cell place bytes spare unsealed is =
    get_or-set_other cells at place cell erased (sealed_apart cells at place bytes spare unsealed is) ∙ is

-- where a cell is replaced by one that is not sealed, none is newly sealed
pub sealed_before : (cells : List Cell) (at : ℕ) (cell : Cell) (place : ℕ) (bytes : List ℕ) (spare : Spare)
    → IsUnsealed cell → cell_at (set cells at cell) place ≡ sealed bytes spare
    → cell_at cells place ≡ sealed bytes spare
sealed_before [] at cell place bytes spare unsealed is = is
sealed_before (c ∷ cells) zero cell zero bytes spare unsealed is = absurd (never_sealed cell bytes spare unsealed is)
sealed_before (c ∷ cells) zero cell (suc place) bytes spare unsealed is = is
sealed_before (c ∷ cells) (suc at) cell zero bytes spare unsealed is = is
sealed_before (c ∷ cells) (suc at) cell (suc place) bytes spare unsealed is =
    sealed_before cells at cell place bytes spare unsealed is
