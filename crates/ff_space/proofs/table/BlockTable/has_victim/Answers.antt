use Rattle.std.proofs.Common.{ℕ, ◌≡◌, ◌↔◌, IsTrue, inl, inr, arith}
use Rattle.std.specs.Prelude.{nat_lt}
use Rattle.std.proofs.lemmas.Bool.{cases_lt, lt-ltb, ltb-true}
use Rattle.ff_space.proofs.Collectable.{none_counted, some_counted}
use Rattle.ff_space.specs.BlockTable.{IsBlockTableSound, BlockTableView, collectable_count}
use Rattle.ff_space.specs.Choices.{IsAllMapped}
use Rattle.ff_space.proofs.table.BlockTable.has_victim.Goals as goal

told : (table : BlockTableView) (count : ℕ) → IsBlockTableSound table
    → count ≡ collectable_count table.per_block table.blocks
    → IsTrue (nat_lt 0 count) ↔ (IsAllMapped table → ⊥)
told table count sound is = (
  λ some all. some_counted table (let n = ltb-true 0 count some in omega arith) all,
  λ other. elim (cases_lt 0 count) [
    | inl some ↦ lt-ltb 0 count some
    | inr none ↦ absurd (other (none_counted table sound (omega arith)))
  ],
)

pub returns : goal.returns
returns c = rw (← c.self.view_is) (told _ _ c.self.invariant.sound c.self.invariant.collectable)
