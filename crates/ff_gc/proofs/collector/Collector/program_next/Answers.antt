use Rattle.std.proofs.Common.{◌+◌, ◌*◌, ap, ◌∙◌, arith}
use Rattle.ff_space.specs.BlockTable.{block_at}
use Rattle.ff_gc.proofs.PageCopies.{at_phase, next_place_is, next_place_small}
use Rattle.ff_gc.specs.Collector.{CollectorView}
use Rattle.ff_gc.specs.Steps.{full, programs}
use Rattle.ff_gc.specs.World.{world_of}
use Rattle.ff_gc.specs.declared.phase.Phase.TheVariants.{Programming}
use Rattle.ff_gc.proofs.collector.Collector.program_next.Goals as goal

pub program_copy-requires-clause-erased : goal.program_copy-requires-clause-erased
program_copy-requires-clause-erased g c =
    let w = world_of c.args.self.now (g.F.Flash.state c.args.flash.now) c.args.space.now c.args.map.now c.args.counts.now in
    (next_place_is w c.args.job c.args.original _ _ c.requires.ready c.requires.phase (ap (λ (v : CollectorView). v.per_block) c.self.view_is) c.next-next.ensures c.if-next-self.true).blank

pub returns : goal.returns
returns g c =
    let next = c.next-next.ensures in
    let least = c.if-next-self.false in
    rw (← c.self.view_is) (full (omega arith) (rw (c.wait_erase.ensures, c.clear.ensures.items) at c.erase.ensures))

pub next-next-requires : goal.next-next-requires
next-next-requires g c =
    let w = world_of c.args.self.now (g.F.Flash.state c.args.flash.now) c.args.space.now c.args.map.now c.args.counts.now in
    let p = at_phase w (Programming c.args.job c.args.original) c.requires.ready c.requires.phase in
    p.copying.blocks.held.is.in_range

pub overflow_mul-at : goal.overflow_mul-at
overflow_mul-at g c =
    let w = world_of c.args.self.now (g.F.Flash.state c.args.flash.now) c.args.space.now c.args.map.now c.args.counts.now in
    omega (arith, next_place_small w c.args.job c.args.original _ _ c.requires.ready c.requires.phase (ap (λ (v : CollectorView). v.per_block) c.self.view_is) c.next-next.ensures c.if-next-self.true)

pub overflow_add-at : goal.overflow_add-at
overflow_add-at g c =
    let w = world_of c.args.self.now (g.F.Flash.state c.args.flash.now) c.args.space.now c.args.map.now c.args.counts.now in
    omega (arith, next_place_small w c.args.job c.args.original _ _ c.requires.ready c.requires.phase (ap (λ (v : CollectorView). v.per_block) c.self.view_is) c.next-next.ensures c.if-next-self.true)

pub program_copy-requires-clause-life : goal.program_copy-requires-clause-life
program_copy-requires-clause-life g c = c.requires.life

pub program_copy-requires-clause-counted : goal.program_copy-requires-clause-counted
program_copy-requires-clause-counted g c = c.requires.counted

pub program_copy-requires-clause-block : goal.program_copy-requires-clause-block
program_copy-requires-clause-block g c =
    let w = world_of c.args.self.now (g.F.Flash.state c.args.flash.now) c.args.space.now c.args.map.now c.args.counts.now in
    let p = at_phase w (Programming c.args.job c.args.original) c.requires.ready c.requires.phase in
    p.copying.blocks.held.is.in_range

pub program_copy-requires-clause-at : goal.program_copy-requires-clause-at
program_copy-requires-clause-at g c =
    let per = ap (λ (v : CollectorView). v.per_block) c.self.view_is in
    let next = c.next-next.ensures in
    (ap (λ n. c.args.job.into.0 * c.self.inside.per_block + n) next
    ∙ ap (λ n. c.args.job.into.0 * n + (block_at c.args.space.now c.args.job.into.0).next) per)

pub program_copy-requires-clause-place : goal.program_copy-requires-clause-place
program_copy-requires-clause-place g c =
    let w = world_of c.args.self.now (g.F.Flash.state c.args.flash.now) c.args.space.now c.args.map.now c.args.counts.now in
    (next_place_is w c.args.job c.args.original _ _ c.requires.ready c.requires.phase (ap (λ (v : CollectorView). v.per_block) c.self.view_is) c.next-next.ensures c.if-next-self.true).within

pub returns-then-next-self : goal.returns-then-next-self
returns-then-next-self g c =
    let per = ap (λ (v : CollectorView). v.per_block) c.self.view_is in
    let next = c.next-next.ensures in
    let below = c.if-next-self.true in
    programs (omega arith) c.program_copy.ensures

pub wait_erase-requires-clause-in_range : goal.wait_erase-requires-clause-in_range
wait_erase-requires-clause-in_range g c =
    let w = world_of c.args.self.now (g.F.Flash.state c.args.flash.now) c.args.space.now c.args.map.now c.args.counts.now in
    let p = at_phase w (Programming c.args.job c.args.original) c.requires.ready c.requires.phase in
    p.copying.blocks.held.is.in_range

pub wait_erase-requires-clause-unmapped : goal.wait_erase-requires-clause-unmapped
wait_erase-requires-clause-unmapped g c =
    let w = world_of c.args.self.now (g.F.Flash.state c.args.flash.now) c.args.space.now c.args.map.now c.args.counts.now in
    let p = at_phase w (Programming c.args.job c.args.original) c.requires.ready c.requires.phase in
    p.copying.blocks.unmapped

pub erase-requires-clause-life : goal.erase-requires-clause-life
erase-requires-clause-life g c = c.requires.life

pub erase-requires-clause-counted : goal.erase-requires-clause-counted
erase-requires-clause-counted g c = c.requires.counted
