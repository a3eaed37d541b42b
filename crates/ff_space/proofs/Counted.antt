-- How many blocks are erased.
use Rattle.std.proofs.Common.{◌≡◌, suc, false, List, [], ◌∷◌, refl, arith}
use Rattle.ff_space.specs.Blocks.{is_erased}
use Rattle.ff_space.specs.BlockTable.{IsInState, erased_count}
use Rattle.ff_space.specs.Choices.{NoBlock}
use Rattle.ff_space.specs.declared.block.BlockEntry.{BlockEntry}
use Rattle.ff_space.specs.declared.block.BlockState.{BlockState}
use Rattle.ff_space.specs.declared.block.BlockState.TheVariants.{Erased, Open, Full, Held, Waiting}

-- a block in another state does not count
not_counted : (state : BlockState) → (state ≡ Erased → ⊥) → is_erased state ≡ false
not_counted Erased other = absurd (other refl)
not_counted Open other = refl
not_counted Full other = refl
not_counted Held other = refl
not_counted Waiting other = refl

-- where no block is erased, the count is 0
pub count_of_none : (blocks : List BlockEntry) → NoBlock (IsInState blocks Erased)
    → erased_count blocks ≡ 0
count_of_none [] none = refl
count_of_none (first ∷ later) none =
    let here : is_erased first.state ≡ false = not_counted first.state (λ e. none 0 (record { in_range = omega arith; state = e })) in
    let rest : erased_count later ≡ 0 = count_of_none later (λ block there. none (suc block) (record { in_range = omega (arith, there.in_range); state = there.state })) in
    rw here (omega (arith, rest))
