-- The block is the spare one or another.
use Rattle.std.proofs.Common.{◌∙◌, ap, sym, arith}
use Rattle.std.proofs.lemmas.Bool.{eqb-false, eqb-true}
use Rattle.ff_space.specs.declared.block.BlockEntry.{BlockEntry}
use Rattle.ff_scan.proofs.Placing.{placed_other, placed_spare}
use Rattle.ff_scan.proofs.blocks.place_one.Goals as goal

pub set_spare-requires-clause-in_range : goal.set_spare-requires-clause-in_range
set_spare-requires-clause-in_range c = omega (arith, c.requires.block, c.requires.placed.block_count)

pub set_spare-requires-clause-erased : goal.set_spare-requires-clause-erased
set_spare-requires-clause-erased c = c.requires.placed.rest c.args.block.0 (omega arith) c.requires.block

pub set_spare-requires-clause-next : goal.set_spare-requires-clause-next
set_spare-requires-clause-next c =
    omega (arith, c.requires.placed.per_block, c.used-write_place.ensures.within)

pub set_place-requires-clause-in_range : goal.set_place-requires-clause-in_range
set_place-requires-clause-in_range c = omega (arith, c.requires.block, c.requires.placed.block_count)

pub set_place-requires-clause-state : goal.set_place-requires-clause-state
set_place-requires-clause-state c =
    ap (λ (e : BlockEntry). e.state) (c.requires.placed.rest c.args.block.0 (omega arith) c.requires.block)

pub set_place-requires-clause-next : goal.set_place-requires-clause-next
set_place-requires-clause-next c =
    omega (arith, c.requires.placed.per_block, c.used-write_place.ensures.within)

pub returns-then-eq : goal.returns-then-eq
returns-then-eq c =
    placed_spare c.args.geometry.now c.args.probes.now c.args.spare.0 c.args.block.0 c.used-write_place.result
    c.args.space.now c.set_spare.new.space c.requires.block c.requires.placed c.used-write_place.ensures
    (eqb-true _ _ (sym c.eq.ensures ∙ c.if-eq.true)) c.set_spare.ensures

pub returns-else-eq : goal.returns-else-eq
returns-else-eq c =
    placed_other c.args.geometry.now c.args.probes.now c.args.spare.0 c.args.block.0 c.used-write_place.result c.args.space.now
    c.set_place.new.self c.requires.block c.requires.placed c.used-write_place.ensures
    (eqb-false _ _ (sym c.eq.ensures ∙ c.if-eq.false)) c.set_place.ensures
