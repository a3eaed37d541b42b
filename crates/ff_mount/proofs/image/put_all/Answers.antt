use Rattle.std.proofs.Common.{◌≡◌, ℕ, subst, arith}
use Rattle.ff_cache.specs.Nv.{ways_of}
use Rattle.ff_mount.proofs.Filling.{IsUnderWay, way_done, way_more, way_ready, way_stopped}
use Rattle.ff_mount.proofs.image.put_all.Goals as goal
use Rattle.ff_mount.specs.Held.{nv_of}

pub put_page-requires-clause-ready : goal.put_page-requires-clause-ready
put_page-requires-clause-ready g c =
    way_ready _ _ _ _ _ _ _ c.loop-page-test.true c.requires.ready c.loop-page.invariant

pub returns-in-Err-clause-planned : goal.returns-in-Err-clause-planned
returns-in-Err-clause-planned g c =
    (way_stopped _ _ _ _ _ _ _ _ c.in-Err.stop c.loop-page-test.true c.loop-page.invariant c.in-Err.ensures.reads c.in-Err.ensures.planned).1

pub loop-page-preserved : goal.loop-page-preserved
loop-page-preserved g c =
    way_more _ _ _ _ _ _ _ _ _ c.loop-page-test.true c.loop-page.invariant c.in-Ok.ensures.ok c.in-Ok.ensures.reads c.in-Ok.ensures.planned

pub returns-clause-pages : goal.returns-clause-pages
returns-clause-pages g c =
    let same : c.loop-page.page ≡ c.args.pages = omega arith in
    way_done c.args.pages (nv_of c.args.cache.now c.args.image.now.marks) c.args.store.now c.loop-page.image c.loop-page.store
    (subst (λ (k : ℕ). IsUnderWay (ways_of c.args.cache.now.slots) c.args.pages c.args.image.now.marks c.args.store.now k c.loop-page.image c.loop-page.store)
    same c.loop-page.invariant)
