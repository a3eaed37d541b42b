use Rattle.std.proofs.Common.{arith}
use Rattle.std.proofs.lemmas.List.{get_or_read}
use Rattle.ff_space.specs.BlockTableFields.{view_of}
use Rattle.ff_space.specs.Blocks.{is_collectable, is_erased, waiting, erased_block}
use Rattle.ff_space.specs.declared.block.BlockEntry.{BlockEntry}
use Rattle.ff_space.proofs.Changed.{count_by-changed_at, sound-changed_at}
use Rattle.ff_space.proofs.table.BlockTable.put.Goals as goal

pub invariant_of-self : goal.invariant_of-self
invariant_of-self c =
    let within = rw (← c.self.view_is) at c.requires.in_range in
    let new = rw (← c.self.view_is) at c.requires.sound in
    let before = get_or_read c.self.inside.blocks.items c.args.block.0 c.index-before.result.now within c.index-before.ensures (waiting erased_block) in
    let counted = count_by-changed_at (λ (block : BlockEntry). is_erased block.state) (view_of c.self.inside) c.args.block.0 (λ (_ : BlockEntry). c.args.entry) within in
    let was = rw before at c.erased-2.ensures in
    let collected = count_by-changed_at (λ (block : BlockEntry). is_collectable c.self.inside.per_block block) (view_of c.self.inside) c.args.block.0 (λ (_ : BlockEntry). c.args.entry) within in
    let could = rw before at c.collectable-2.ensures in
    record {
      sound = sound-changed_at (view_of c.self.inside) c.args.block.0 (λ (_ : BlockEntry). c.args.entry) c.self.invariant.sound within new;
      erased = omega (arith, counted, was, c.erased.ensures, c.self.invariant.erased);
      collectable = omega (arith, collected, could, c.collectable.ensures, c.self.invariant.collectable);
    }
