use Rattle.std.proofs.Common.{arith}
use Rattle.ff_flash.proofs.PageSlots.{slot_at, lies_within}
use Rattle.ff_flash.proofs.page_arena.PageArena.page.Goals as goal

pub page_of-requires : goal.page_of-requires
page_of-requires c =
    let lies = lies_within c.self.inside.bytes.items c.self.inside.slots.items c.args.place (rw (← c.self.view_is) at c.requires) in
    let has = slot_at c.self.inside.slots.items c.args.place _ _ lies c.index.ensures c.in-Some.is in
    let below = c.self.invariant.slots.each c.args.place c.in-Some.slot has in
    let used = c.self.invariant.used in
    let size = c.deref.ensures.len in
    omega arith
