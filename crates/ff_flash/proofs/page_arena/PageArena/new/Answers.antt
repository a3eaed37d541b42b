use Rattle.std.proofs.Common.{arith}
use Rattle.ff_flash.proofs.PageSlots.{bare_slots, bare_pages}
use Rattle.ff_flash.proofs.page_arena.PageArena.new.Goals as goal

pub invariant_of-result : goal.invariant_of-result
invariant_of-result c =
    let slots = c.in_ok-slots.ensures in
    let bytes = c.in_ok-bytes.ensures in
    record {
      slots = rw slots.items (bare_slots c.args.places);
      count = omega arith;
      used = omega arith;
      room = omega arith;
    }

pub returns : goal.returns
returns c = rw c.in_ok-slots.ensures.items (bare_pages _ c.args.places)
