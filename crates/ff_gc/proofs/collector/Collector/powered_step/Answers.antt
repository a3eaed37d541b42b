use Rattle.std.proofs.Common.{ap, arith, length, subst, sym, ◌∙◌}
use Rattle.ff_flash.proofs.SealedCells.{closed_within}
use Rattle.ff_flash.specs.Cells.{Cell, IsClosed}
use Rattle.ff_gc.proofs.Numbers.{blocks_below, place_below}
use Rattle.ff_gc.proofs.PageCopies.{at_phase}
use Rattle.ff_gc.proofs.Stepping.{step_in}
use Rattle.ff_gc.proofs.Switching.{can_end, can_switch}
use Rattle.ff_gc.specs.Collector.{CollectorView}
use Rattle.ff_gc.specs.Originals.{spare_in}
use Rattle.ff_gc.specs.World.{world_of}
use Rattle.ff_gc.specs.declared.phase.Phase.TheVariants.{Aborting, Commit, Erasing, Idle, Programming, Reading, Sealing}
use Rattle.ff_gc.proofs.collector.Collector.powered_step.Goals as goal

pub commit-requires-clause-moves : goal.commit-requires-clause-moves
commit-requires-clause-moves g c =
    let w = world_of c.args.self.now (g.F.Flash.state c.args.flash.now) c.args.space.now c.args.map.now c.args.counts.now in
    let phase = sym (ap (λ (v : CollectorView). v.phase) c.self.view_is) ∙ c.in-Commit.is in
    can_switch w c.in-Commit.job c.requires.ready (at_phase w (Commit c.in-Commit.job) c.requires.ready phase)

pub commit-requires-clause-blocks : goal.commit-requires-clause-blocks
commit-requires-clause-blocks g c =
    let w = world_of c.args.self.now (g.F.Flash.state c.args.flash.now) c.args.space.now c.args.map.now c.args.counts.now in
    let phase = sym (ap (λ (v : CollectorView). v.phase) c.self.view_is) ∙ c.in-Commit.is in
    can_end w c.in-Commit.job c.requires.ready (at_phase w (Commit c.in-Commit.job) c.requires.ready phase)

pub returns-in-Idle : goal.returns-in-Idle
returns-in-Idle g c =
    let phase = sym (ap (λ (v : CollectorView). v.phase) c.self.view_is) ∙ c.in-Idle.is in
    step_in Idle _ _ _ phase c.begin.ensures

pub returns-in-Reading : goal.returns-in-Reading
returns-in-Reading g c =
    let phase = sym (ap (λ (v : CollectorView). v.phase) c.self.view_is) ∙ c.in-Reading.is in
    step_in (Reading c.in-Reading.job) _ _ _ phase c.read_next.ensures

pub returns-in-Programming : goal.returns-in-Programming
returns-in-Programming g c =
    let phase = sym (ap (λ (v : CollectorView). v.phase) c.self.view_is) ∙ c.in-Programming.is in
    step_in (Programming c.in-Programming.job c.in-Programming.original) _ _ _ phase c.program_next.ensures

pub returns-in-Sealing : goal.returns-in-Sealing
returns-in-Sealing g c =
    let phase = sym (ap (λ (v : CollectorView). v.phase) c.self.view_is) ∙ c.in-Sealing.is in
    step_in (Sealing c.in-Sealing.job c.in-Sealing.original c.in-Sealing.at) _ _ _ phase c.seal_copy.ensures

pub returns-in-Commit : goal.returns-in-Commit
returns-in-Commit g c =
    let phase = sym (ap (λ (v : CollectorView). v.phase) c.self.view_is) ∙ c.in-Commit.is in
    step_in (Commit c.in-Commit.job) _ _ _ phase c.commit.ensures

pub returns-in-Erasing : goal.returns-in-Erasing
returns-in-Erasing g c =
    let phase = sym (ap (λ (v : CollectorView). v.phase) c.self.view_is) ∙ c.in-Erasing.is in
    step_in (Erasing c.in-Erasing.block) _ _ _ phase c.erase.ensures

pub returns-in-Aborting : goal.returns-in-Aborting
returns-in-Aborting g c =
    let phase = sym (ap (λ (v : CollectorView). v.phase) c.self.view_is) ∙ c.in-Aborting.is in
    step_in (Aborting c.in-Aborting.block) _ _ _ phase c.erase-in-Aborting.ensures

pub begin-requires-clause-ready : goal.begin-requires-clause-ready
begin-requires-clause-ready g c = c.requires.ready

pub begin-requires-clause-life : goal.begin-requires-clause-life
begin-requires-clause-life g c = c.requires.life

pub begin-requires-clause-counted : goal.begin-requires-clause-counted
begin-requires-clause-counted g c = c.requires.counted

pub begin-requires-clause-phase : goal.begin-requires-clause-phase
begin-requires-clause-phase g c = sym (ap (λ (v : CollectorView). v.phase) c.self.view_is) ∙ c.in-Idle.is

pub read_next-requires-clause-ready : goal.read_next-requires-clause-ready
read_next-requires-clause-ready g c = c.requires.ready

pub read_next-requires-clause-life : goal.read_next-requires-clause-life
read_next-requires-clause-life g c = c.requires.life

pub read_next-requires-clause-counted : goal.read_next-requires-clause-counted
read_next-requires-clause-counted g c = c.requires.counted

pub read_next-requires-clause-phase : goal.read_next-requires-clause-phase
read_next-requires-clause-phase g c = sym (ap (λ (v : CollectorView). v.phase) c.self.view_is) ∙ c.in-Reading.is

pub program_next-requires-clause-ready : goal.program_next-requires-clause-ready
program_next-requires-clause-ready g c = c.requires.ready

pub program_next-requires-clause-life : goal.program_next-requires-clause-life
program_next-requires-clause-life g c = c.requires.life

pub program_next-requires-clause-counted : goal.program_next-requires-clause-counted
program_next-requires-clause-counted g c = c.requires.counted

pub program_next-requires-clause-phase : goal.program_next-requires-clause-phase
program_next-requires-clause-phase g c = sym (ap (λ (v : CollectorView). v.phase) c.self.view_is) ∙ c.in-Programming.is

pub seal_copy-requires-clause-life : goal.seal_copy-requires-clause-life
seal_copy-requires-clause-life g c = c.requires.life

pub seal_copy-requires-clause-counted : goal.seal_copy-requires-clause-counted
seal_copy-requires-clause-counted g c = c.requires.counted

pub seal_copy-requires-clause-some : goal.seal_copy-requires-clause-some
seal_copy-requires-clause-some g c = c.requires.ready.fits.some

pub erase-requires-clause-life : goal.erase-requires-clause-life
erase-requires-clause-life g c = c.requires.life

pub erase-requires-clause-counted : goal.erase-requires-clause-counted
erase-requires-clause-counted g c = c.requires.counted

pub erase-requires-clause-waits : goal.erase-requires-clause-waits
erase-requires-clause-waits g c =
    let w = world_of c.args.self.now (g.F.Flash.state c.args.flash.now) c.args.space.now c.args.map.now c.args.counts.now in
    let phase = sym (ap (λ (v : CollectorView). v.phase) c.self.view_is) ∙ c.in-Erasing.is in
    (at_phase w (Erasing c.in-Erasing.block) c.requires.ready phase).waits.is

pub erase-requires-clause-size : goal.erase-requires-clause-size
erase-requires-clause-size g c = c.requires.ready.fits.blocks

pub erase-requires-in-Aborting-clause-life : goal.erase-requires-in-Aborting-clause-life
erase-requires-in-Aborting-clause-life g c = c.requires.life

pub erase-requires-in-Aborting-clause-counted : goal.erase-requires-in-Aborting-clause-counted
erase-requires-in-Aborting-clause-counted g c = c.requires.counted

pub erase-requires-in-Aborting-clause-waits : goal.erase-requires-in-Aborting-clause-waits
erase-requires-in-Aborting-clause-waits g c =
    let w = world_of c.args.self.now (g.F.Flash.state c.args.flash.now) c.args.space.now c.args.map.now c.args.counts.now in
    let phase = sym (ap (λ (v : CollectorView). v.phase) c.self.view_is) ∙ c.in-Aborting.is in
    (at_phase w (Aborting c.in-Aborting.block) c.requires.ready phase).waits.is

pub erase-requires-in-Aborting-clause-size : goal.erase-requires-in-Aborting-clause-size
erase-requires-in-Aborting-clause-size g c = c.requires.ready.fits.blocks

pub seal_copy-requires-clause-place : goal.seal_copy-requires-clause-place
seal_copy-requires-clause-place g c =
    let w = world_of c.args.self.now (g.F.Flash.state c.args.flash.now) c.args.space.now c.args.map.now c.args.counts.now in
    let phase = sym (ap (λ (v : CollectorView). v.phase) c.self.view_is) ∙ c.in-Sealing.is in
    let p = at_phase w (Sealing c.in-Sealing.job c.in-Sealing.original c.in-Sealing.at) c.requires.ready phase in
    closed_within w.flash.cells c.in-Sealing.at.0 w.gc.bytes (spare_in c.in-Sealing.original) p.copy.cell

pub seal_copy-requires-clause-closed : goal.seal_copy-requires-clause-closed
seal_copy-requires-clause-closed g c =
    let w = world_of c.args.self.now (g.F.Flash.state c.args.flash.now) c.args.space.now c.args.map.now c.args.counts.now in
    let phase = sym (ap (λ (v : CollectorView). v.phase) c.self.view_is) ∙ c.in-Sealing.is in
    let p = at_phase w (Sealing c.in-Sealing.job c.in-Sealing.original c.in-Sealing.at) c.requires.ready phase in
    subst (λ (x : Cell). IsClosed x) (sym p.copy.cell) tt

pub seal_copy-requires-clause-room : goal.seal_copy-requires-clause-room
seal_copy-requires-clause-room g c =
    let w = world_of c.args.self.now (g.F.Flash.state c.args.flash.now) c.args.space.now c.args.map.now c.args.counts.now in
    let phase = sym (ap (λ (v : CollectorView). v.phase) c.self.view_is) ∙ c.in-Sealing.is in
    let p = at_phase w (Sealing c.in-Sealing.job c.in-Sealing.original c.in-Sealing.at) c.requires.ready phase in
    let few = p.programming.stale.few in
    let unseen = p.programming.hand.unseen in
    let below = place_below w.gc.per_block c.in-Sealing.original.from.0 c.in-Sealing.job.victim.0 c.requires.ready.fits.some
    p.programming.hand.from_in in
    omega (arith, few, unseen, below)

pub seal_copy-requires-clause-small : goal.seal_copy-requires-clause-small
seal_copy-requires-clause-small g c =
    let w = world_of c.args.self.now (g.F.Flash.state c.args.flash.now) c.args.space.now c.args.map.now c.args.counts.now in
    let phase = sym (ap (λ (v : CollectorView). v.phase) c.self.view_is) ∙ c.in-Sealing.is in
    let p = at_phase w (Sealing c.in-Sealing.job c.in-Sealing.original c.in-Sealing.at) c.requires.ready phase in
    let below = blocks_below w.gc.per_block c.in-Sealing.job.victim.0 (length w.table.blocks)
    p.programming.copying.blocks.full.in_range in
    let small = c.requires.ready.fits.small in
    omega (arith, below, small)
