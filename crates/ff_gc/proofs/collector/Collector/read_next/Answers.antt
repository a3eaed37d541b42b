use Rattle.std.proofs.Common.{subst}
use Rattle.ff_gc.proofs.PageCopies.{at_phase, next_sealed}
use Rattle.ff_gc.proofs.Switching.{can_end, can_switch}
use Rattle.ff_gc.specs.Collector.{CollectorView}
use Rattle.ff_gc.specs.Originals.{IsNextOriginal}
use Rattle.ff_gc.specs.Steps.{reads}
use Rattle.ff_gc.specs.World.{world_of}
use Rattle.ff_gc.specs.declared.phase.Phase.TheVariants.{Reading}
use Rattle.ff_gc.proofs.collector.Collector.read_next.Goals as goal

pub read_page-requires-clause-sealed : goal.read_page-requires-clause-sealed
read_page-requires-clause-sealed g c =
    next_sealed c.self.inside.per_block _ c.args.map.now c.args.job c.in-Some.original c.requires.ready.safe.mapped
    c.in-Some.ensures

pub commit-requires-clause-moves : goal.commit-requires-clause-moves
commit-requires-clause-moves g c =
    let w = world_of c.args.self.now (g.F.Flash.state c.args.flash.now) c.args.space.now c.args.map.now c.args.counts.now in
    can_switch w c.args.job c.requires.ready record {
      reading = at_phase w (Reading c.args.job) c.requires.ready c.requires.phase;
      all_seen = rw (← c.self.view_is) c.in-None.ensures;
    }

pub commit-requires-clause-blocks : goal.commit-requires-clause-blocks
commit-requires-clause-blocks g c =
    let w = world_of c.args.self.now (g.F.Flash.state c.args.flash.now) c.args.space.now c.args.map.now c.args.counts.now in
    can_end w c.args.job c.requires.ready record {
      reading = at_phase w (Reading c.args.job) c.requires.ready c.requires.phase;
      all_seen = rw (← c.self.view_is) c.in-None.ensures;
    }

pub returns-in-Some : goal.returns-in-Some
returns-in-Some g c =
    reads c.in-Some.original
    (subst (λ (v : CollectorView). IsNextOriginal v.per_block c.args.map.now c.args.job c.in-Some.original) c.self.view_is
    c.in-Some.ensures)
    c.read_page.ensures
