use Rattle.std.proofs.Common.{◌*◌, ◌+◌, ◌/◌, ap, arith, ◌∙◌}
use Rattle.std.proofs.lemmas.Nat.{div-mul-add, mul-le}
use Rattle.ff_space.specs.BlockTable.{BlockTableView}
use Rattle.ff_space.specs.declared.block.BlockEntry.{BlockEntry}
use Rattle.ff_space.proofs.table.BlockTable.write_place.Goals as goal

pub entry-entry-requires : goal.entry-entry-requires
entry-entry-requires c = c.requires.has.in_range

pub overflow_mul-result : goal.overflow_mul-result
overflow_mul-result c =
    let within = rw (← c.self.view_is) at c.requires.has.in_range in
    let count = c.self.invariant.sound.count.high in
    let per = c.self.invariant.sound.per_block.high in
    omega (arith, mul-le c.args.block.0 c.self.inside.per_block 4096 256 (omega (arith, within, count)) per)

pub overflow_add-result : goal.overflow_add-result
overflow_add-result c =
    let within = rw (← c.self.view_is) at c.requires.has.in_range in
    let count = c.self.invariant.sound.count.high in
    let per = c.self.invariant.sound.per_block.high in
    let next = rw (← c.self.view_is) at c.entry-entry.ensures.sound.next in
    omega (arith, next, per, mul-le c.args.block.0 c.self.inside.per_block 4096 256 (omega (arith, within, count)) per)

pub returns : goal.returns
returns c =
    let table = c.args.self.now in
    let per = ap (λ (t : BlockTableView). t.per_block) c.self.view_is in
    let is_open = ap (λ (e : BlockEntry). e.state) c.entry-entry.ensures.entry ∙ c.requires.has.state in
    let fits = rw is_open at c.entry-entry.ensures.sound.fits in
    record {
      block = c.args.block.0;
      least = c.requires;
      page_is = ap (λ n. c.args.block.0 * n + c.entry-entry.result.next) per
          ∙ ap (λ (e : BlockEntry). c.args.block.0 * table.per_block + e.next) c.entry-entry.ensures.entry;
      lies_in = ap (λ n. (c.args.block.0 * n + c.entry-entry.result.next) / table.per_block) per
          ∙ div-mul-add c.args.block.0 table.per_block c.entry-entry.result.next (omega (arith, fits));
    }
