use Rattle.std.proofs.Common.{ℕ, subst, sym}
use Rattle.ff_mount.proofs.Pages.{image_stored, reads_cached, reads_stored}
use Rattle.ff_mount.proofs.ReadSteps.{none_planned, none_read}
use Rattle.ff_mount.proofs.page.put_page.Goals as goal
use Rattle.ff_mount.specs.Reading.{GoesAsTold, Reads}

pub returns-in-Some-clause-reads : goal.returns-in-Some-clause-reads
returns-in-Some-clause-reads g c =
    none_read c.args.store.now _ c.put_cached.result
    (reads_cached c.args.store.now c.args.cache.now c.args.page.0 c.in-Some.slot c.in-Some.ensures)
    c.requires.ready.on c.put_cached.ensures.err

pub returns-in-Some-clause-planned : goal.returns-in-Some-clause-planned
returns-in-Some-clause-planned g c =
    none_planned c.args.store.now.world.flash _ c.put_cached.result
    (reads_cached c.args.store.now c.args.cache.now c.args.page.0 c.in-Some.slot c.in-Some.ensures) c.put_cached.ensures.err

pub returns-in-None-clause-ok : goal.returns-in-None-clause-ok
returns-in-None-clause-ok g c =
    rw (image_stored c.args.store.now c.args.cache.now c.args.page c.known.ensures.store c.requires.ready.none c.in-None.ensures)
    c.put_stored.ensures.ok

pub returns-in-None-clause-reads : goal.returns-in-None-clause-reads
returns-in-None-clause-reads g c =
    subst (λ (n : ℕ). Reads c.args.store.now n c.put_stored.result c.put_stored.new.store)
    (sym (reads_stored c.args.store.now c.args.cache.now c.args.page c.known.ensures.store c.requires.ready.none c.in-None.ensures))
    c.put_stored.ensures.reads

pub returns-in-None-clause-planned : goal.returns-in-None-clause-planned
returns-in-None-clause-planned g c =
    subst (λ (n : ℕ). GoesAsTold c.args.store.now.world.flash n c.put_stored.result)
    (sym (reads_stored c.args.store.now c.args.cache.now c.args.page c.known.ensures.store c.requires.ready.none c.in-None.ensures))
    c.put_stored.ensures.planned
