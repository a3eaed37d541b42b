use Rattle.std.proofs.Common.{sym, ◌∙◌, arith}
use Rattle.ff_flash.proofs.PageSlots.{overwritten, appended, slots_after, slot_at, lies_within}
use Rattle.ff_flash.proofs.page_arena.PageArena.put.Goals as goal

pub overwrite-requires-clause-within : goal.overwrite-requires-clause-within
overwrite-requires-clause-within c =
    let lies = lies_within c.self.inside.bytes.items c.self.inside.slots.items c.args.place (rw (← c.self.view_is) at c.requires.place) in
    let has = slot_at c.self.inside.slots.items c.args.place _ _ lies c.index.ensures c.in-Some.is in
    let below = c.self.invariant.slots.each c.args.place c.in-Some.slot has in
    let used = c.self.invariant.used in
    omega arith

pub invariant_of-self-in-None : goal.invariant_of-self-in-None
invariant_of-self-in-None c =
    let lies = lies_within c.self.inside.bytes.items c.self.inside.slots.items c.args.place (rw (← c.self.view_is) at c.requires.place) in
    let bare = slot_at c.self.inside.slots.items c.args.place _ _ lies c.index.ensures c.in-None.is in
    let used = c.self.invariant.used in
    let len = c.append_reserved.ensures.len in
    let capacity = c.append_reserved.ensures.capacity in
    let room = c.self.invariant.room in
    record {
      slots = slots_after c.self.inside.slots.items c.self.inside.used c.args.place c.self.invariant.slots lies bare;
      count = c.self.invariant.count;
      used = omega arith;
      room = omega arith;
    }

pub returns-in-Some : goal.returns-in-Some
returns-in-Some c =
    let lies = lies_within c.self.inside.bytes.items c.self.inside.slots.items c.args.place (rw (← c.self.view_is) at c.requires.place) in
    let has = slot_at c.self.inside.slots.items c.args.place _ _ lies c.index.ensures c.in-Some.is in
    let filled = sym c.self.inside.bytes.ok.0 ∙ c.self.invariant.used in
    rw (c.overwrite.ensures.items, ← c.self.view_is) (overwritten c.self.inside.bytes.items c.args.page.now c.self.inside.slots.items c.self.inside.used c.args.place c.in-Some.slot c.self.invariant.slots has filled c.requires.size)

pub returns-in-None : goal.returns-in-None
returns-in-None c =
    let lies = lies_within c.self.inside.bytes.items c.self.inside.slots.items c.args.place (rw (← c.self.view_is) at c.requires.place) in
    let filled = sym c.self.inside.bytes.ok.0 ∙ c.self.invariant.used in
    rw (c.append_reserved.ensures.items, ← c.self.view_is) (appended c.self.inside.bytes.items c.args.page.now c.self.inside.slots.items c.self.inside.used c.args.place c.self.invariant.slots lies filled c.requires.size)
