use Rattle.std.proofs.Common.{◌≡◌, Bool, true, false, ap₂, sym, ◌∙◌}
use Rattle.std.specs.Prelude.{◌||◌}
use Rattle.ff_cache.specs.Slots.{cache_slot_at}
use Rattle.ff_mount.proofs.Pages.{found_cached}
use Rattle.ff_mount.proofs.page.put_cached.Goals as goal
use Rattle.ff_store.specs.Pages.{is_mapped}

pub returns-then-either-clause-ok : goal.returns-then-either-clause-ok
returns-then-either-clause-ok g c =
    let hits : ((cache_slot_at c.args.cache.now.slots c.args.slot).dirty || is_mapped c.args.store.now.world.places c.args.page) ≡ true =
    ap₂ (λ (a b : Bool). a || b) (sym c.is_dirty.ensures) (sym c.is_mapped.ensures) ∙ sym c.either.ensures ∙ c.if-either.true in
    let found = found_cached c.args.store.now c.args.cache.now c.args.page c.args.slot c.args.image.now true c.known.ensures.store
    c.requires.ready.none c.requires.slot hits in
    rw found (rw c.copy_out.ensures at c.hold.ensures.ok)

pub returns-else-either-clause-ok : goal.returns-else-either-clause-ok
returns-else-either-clause-ok g c =
    let hits : ((cache_slot_at c.args.cache.now.slots c.args.slot).dirty || is_mapped c.args.store.now.world.places c.args.page) ≡ false =
    ap₂ (λ (a b : Bool). a || b) (sym c.is_dirty.ensures) (sym c.is_mapped.ensures) ∙ sym c.either.ensures ∙ c.if-either.false in
    sym (found_cached c.args.store.now c.args.cache.now c.args.page c.args.slot c.args.image.now false c.known.ensures.store
    c.requires.ready.none c.requires.slot hits)
