use Rattle.std.proofs.Common.{◌≡◌, ◌+◌, ℕ, cond, ap, ◌∙◌, sym, refl, arith}
use Rattle.ff_model.specs.Flat.{born_count, is_born}
use Rattle.ff_model.proofs.Ranges.{count_by-range_le, count_by-range_more}
use Rattle.ff_model.proofs.judge.born_count.Goals as goal
use Rattle.ff_model.proofs.judge.born_count.Goals.{then-is_born, else-is_born}

pub overflow_add-count : goal.overflow_add-count
overflow_add-count c =
    let few = count_by-range_le (is_born c.args.opening.now.base.now c.args.before.now) 0 c.loop-page.page in
    let so_far = c.loop-page.invariant in
    omega arith

pub loop-page-preserved : goal.loop-page-preserved
loop-page-preserved c =
    let born = is_born c.args.opening.now.base.now c.args.before.now in
    let more = count_by-range_more born 0 c.loop-page.page c.loop-page.page (omega arith) in
    let next : born_count c.args.opening.now.base.now c.args.before.now (c.loop-page.page + 1)
    ≡ c.loop-page.count + cond {A = ℕ} (born c.loop-page.page) 1 0 =
    more ∙ ap (λ (n : ℕ). n + cond {A = ℕ} (born c.loop-page.page) 1 0) (sym c.loop-page.invariant) in
    elim c.if-is_born.branch [
      | then-is_born w ↦
          let yes = sym c.is_born.ensures ∙ w.if-is_born.true in
          let is = w.count-is in
          let last : cond {A = ℕ} (born c.loop-page.page) 1 0 ≡ 1 = rw yes refl in
          omega (arith, next, is, last)
      | else-is_born w ↦
          let no = sym c.is_born.ensures ∙ w.if-is_born.false in
          let is = w.count-is in
          let last : cond {A = ℕ} (born c.loop-page.page) 1 0 ≡ 0 = rw no refl in
          omega (arith, next, is, last)
    ]
