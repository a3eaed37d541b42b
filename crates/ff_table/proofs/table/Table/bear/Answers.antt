use Rattle.std.proofs.Common.{◌<◌, ◌+◌, length, length-set, true, ap, sym, ◌∙◌, arith}
use Rattle.ff_table.specs.Table.{with_born}
use Rattle.ff_table.proofs.BornCount.{count-born, count-unborn}
use Rattle.ff_table.proofs.table.Table.bear.Goals as goal

pub overflow_add-self : goal.overflow_add-self
overflow_add-self c =
    let born = c.self.inside.born.items in
    let page = rw (← c.self.view_is) at c.requires in
    let within : c.args.page.0 < length born = omega (arith, c.self.invariant.sound.born_or_not) in
    let room = count-unborn born c.args.page.0 c.index.result.now within c.index.ensures c.if-not-index.true in
    omega (arith, room, c.self.invariant.counted, c.self.invariant.sound.born_or_not, c.self.invariant.sound.few)

pub invariant_of-self : goal.invariant_of-self
invariant_of-self c =
    let born = c.self.inside.born.items in
    let page = rw (← c.self.view_is) at c.requires in
    let within : c.args.page.0 < length born = omega (arith, c.self.invariant.sound.born_or_not) in
    let one-more = count-born born c.args.page.0 c.index.result.now within c.index.ensures c.if-not-index.true in
    record {
      sound = record {
        marked = c.self.invariant.sound.marked;
        born_or_not = length-set born c.args.page.0 true ∙ c.self.invariant.sound.born_or_not;
        few = c.self.invariant.sound.few;
      };
      counted = ap (λ k. k + 1) c.self.invariant.counted ∙ sym one-more;
    }

pub returns-then-not-index : goal.returns-then-not-index
returns-then-not-index c = ap (with_born c.args.page.0) c.self.view_is
