use Rattle.std.proofs.Common.{◌≡◌, None, subst, sym}
use Rattle.ff_cache.specs.Cache.{CacheView, IsInSet}
use Rattle.ff_cache.specs.CacheFields.{view_of}
use Rattle.ff_cache.specs.Slots.{held}
use Rattle.ff_cache.proofs.Put.{put_sound}
use Rattle.ff_cache.proofs.cache.Cache.put.Goals as goal
use Rattle.ff_rrip.specs.Ways.{long_value}

pub invariant_of-self : goal.invariant_of-self
invariant_of-self c =
    let in_set = subst (λ (old : CacheView). IsInSet old c.args.page.0 c.args.slot) (sym c.self.view_is) c.requires.slot in
    let absent = subst (λ (old : CacheView). held old.slots c.args.page.0 ≡ None) (sym c.self.view_is) c.requires.absent in
    rw (c.fill_at.ensures, c.insert_at.ensures)
    (put_sound (view_of c.self.inside) c.args.page.0 c.args.slot c.args.from.now long_value c.self.invariant in_set absent)
