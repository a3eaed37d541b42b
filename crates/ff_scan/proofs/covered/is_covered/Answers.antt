-- The places so far and this one are backed.
use Rattle.std.proofs.Common.{refl, arith}
use Rattle.ff_scan.proofs.Covering.{backed_more, block_end, block_of, covered_of}
use Rattle.ff_scan.proofs.covered.is_covered.Goals as goal

pub overflow_mul-first : goal.overflow_mul-first
overflow_mul-first c =
    let g = c.args.geometry.now in
    let end = block_end g.per_block c.args.block g.blocks c.requires.block in
    omega (arith, end, c.requires.limits.flash_pages)

pub overflow_add-place-end : goal.overflow_add-place-end
overflow_add-place-end c =
    let g = c.args.geometry.now in
    let end = block_end g.per_block c.args.block g.blocks c.requires.block in
    omega (arith, end, c.requires.limits.flash_pages)

pub is_backed-requires-clause-in_range : goal.is_backed-requires-clause-in_range
is_backed-requires-clause-in_range c =
    let g = c.args.geometry.now in
    let end = block_end g.per_block c.args.block g.blocks c.requires.block in
    omega (arith, end, c.requires.probes.size)

pub loop-place-init : goal.loop-place-init
loop-place-init c = λ place from below. absurd (omega arith)

pub returns-then-not-is_backed : goal.returns-then-not-is_backed
returns-then-not-is_backed c = (
  λ wrong. cc,
  λ covered.
      (let per = c.args.geometry.now.per_block in
      let place = c.loop-place.place in
      let backed = c.is_backed.ensures.1
      (covered place (block_of per place c.args.block (omega arith) (omega arith))) in
      cc),
)

pub loop-place-preserved : goal.loop-place-preserved
loop-place-preserved c =
    backed_more c.args.geometry.now.per_block c.args.probes.now _ c.loop-place.place c.loop-place.invariant
    (c.is_backed.ensures.0 cc)

pub returns : goal.returns
returns c = (
  λ _. covered_of c.args.geometry.now.per_block c.args.probes.now c.args.block
      (omega (arith, c.requires.limits.per_block.low))
      (λ place from below. c.loop-place.invariant place from (omega arith)),
  λ covered. refl,
)
