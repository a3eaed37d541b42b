-- Every step leaves fewer steps, and a collection of which no step fails ends with a page to program.
use Rattle.std.proofs.Common.{◌≡◌, ◌≢◌, ◌<◌, ◌≤◌, ◌+◌, ◌-◌, ◌*◌, ◌%◌, ℕ, true, false, eqb, List, [], ◌∷◌, ◌++◌, length, inl, inr, refl, sym, ap, subst, ◌∙◌, arith}
use Rattle.std.specs.Prelude.{Ok, ◌⊎◌}
use Rattle.std.proofs.lemmas.Bool.{cases_Bool, cases_lt, eqb-true}
use Rattle.std.proofs.lemmas.List.{length_push}
use Rattle.std.proofs.lemmas.Nat.{mod_below}
use Rattle.ff_base.specs.declared.numbers.Block.{Block}
use Rattle.ff_base.specs.declared.numbers.Ppn.{Ppn}
use Rattle.ff_space.proofs.Changed.{
  block_at-after_into,
  block_at-changed_at,
  block_at-changed_at_other,
  count_by-changed_at,
  count_by-some,
  length-after_collection,
  length-changed_at,
}
use Rattle.ff_space.specs.Blocks.{advanced, after_hold, erased_block, is_erased, state_by_next, waiting}
use Rattle.ff_space.specs.BlockTable.{IsBlockTableSound, BlockTableView, after_collection, block_at, changed_at, erased_count}
use Rattle.ff_space.specs.declared.block.BlockEntry.{BlockEntry}
use Rattle.ff_space.specs.declared.block.BlockState.TheVariants.{Erased, Full, Open}
use Rattle.ff_map.specs.PageMap.{PageMapView}
use Rattle.ff_map.specs.declared.places.Move.{Move}
use Rattle.ff_gc.proofs.Begun.{begun_ready, erased_next}
use Rattle.ff_gc.proofs.Emptied.{emptying_is}
use Rattle.ff_gc.proofs.Numbers.{place_is}
use Rattle.ff_gc.proofs.PageCopies.{at_phase}
use Rattle.ff_gc.proofs.Switching.{can_end}
use Rattle.ff_gc.specs.Collector.{CollectorView}
use Rattle.ff_gc.specs.Left.{IsEnding, IsEndingAt, is_open, left_from, left_in, open_count}
use Rattle.ff_gc.specs.Originals.{IsAfter, IsNextOriginal, move_to, past}
use Rattle.ff_gc.specs.Running.{HasStale, HasStaleBeside, IsCommitting, IsEmptying}
use Rattle.ff_gc.specs.Steps.{Begins, Commits, ErasesBlock, IsStep, IsStepAt, ProgramsNext, ReadsNext, SealsCopy, begun_with, empty, emptying, full, given_up, idle, job_of, mapped, none, programs, reads}
use Rattle.ff_gc.specs.World.{IsCollectorReady, World}
use Rattle.ff_gc.specs.declared.collector.GcStep.{GcStep}
use Rattle.ff_gc.specs.declared.collector.GcStep.TheVariants.{Idle as IdleStep, Erased as ErasedStep, Aborted}
use Rattle.ff_gc.specs.declared.phase.Job.{Job}
use Rattle.ff_gc.specs.declared.phase.Original.{Original}
use Rattle.ff_gc.specs.declared.phase.Phase.{Phase}
use Rattle.ff_gc.specs.declared.phase.Phase.TheVariants.{Idle, Programming, Reading, Sealing, Commit, Erasing, Aborting}

-- what is seen of a victim is before the page that is next
seen_before : (per : ℕ) (places : PageMapView) (job : Job) (original : Original) → IsNextOriginal per places job original
    → job.seen ≤ original.from.0 % per
seen_before per places job original next =
    let is = place_is per original.from.0 job.victim.0 next.from_in in let unseen = next.unseen in omega arith

reads_fall : (old new : World) (job : Job) (step : GcStep) → 0 < old.gc.per_block → ReadsNext old job (Ok step) new
    → left_in old.gc.per_block new.gc.phase < 3 * (old.gc.per_block - job.seen) + 2
reads_fall old new job step some (reads original next r) =
    let phase : new.gc.phase ≡ Programming job original = ap (λ (g : CollectorView). g.phase) r.gc in
    let seen = seen_before old.gc.per_block old.places job original next in
    let small = mod_below original.from.0 old.gc.per_block some in
    rw phase (omega arith)
reads_fall old new job step some (none all r) =
    let phase : new.gc.phase ≡ Erasing job.victim = ap (λ (g : CollectorView). g.phase) r.gc in rw phase (omega arith)

erases_fall : (old new : World) (block : Block) (ends step : GcStep) → ErasesBlock old block ends (Ok step) new
    → left_in old.gc.per_block new.gc.phase ≡ 0
erases_fall old new block ends step r =
    let phase : new.gc.phase ≡ Idle = ap (λ (g : CollectorView). g.phase) r.gc in rw phase refl

programs_fall : (old new : World) (job : Job) (original : Original) (step : GcStep)
    → ProgramsNext old job original (Ok step) new
    → left_in old.gc.per_block new.gc.phase < 3 * (old.gc.per_block - original.from.0 % old.gc.per_block) + 1
programs_fall old new job original step (programs small r) =
    let phase : new.gc.phase ≡ Sealing job original r.at = ap (λ (g : CollectorView). g.phase) r.gc in
    rw phase (omega arith)
programs_fall old new job original step (full whole r) =
    let none_left = erases_fall (given_up old job) new job.into Aborted step r in omega arith

after_falls : (per : ℕ) (places : PageMapView) (job : Job) (original : Original) (phase : Phase) → 0 < per
    → IsAfter per places (past per job original) phase
    → left_in per phase < 3 * (per - original.from.0 % per)
after_falls per places job original (Reading next) some after =
    let small = mod_below original.from.0 per some in
    let seen = ap (λ (j : Job). j.seen) after.0 in omega arith
after_falls per places job original (Commit next) some after =
    let small = mod_below original.from.0 per some in omega arith
after_falls per places job original Idle some after = absurd after
after_falls per places job original (Programming next other) some after = absurd after
after_falls per places job original (Sealing next other at) some after = absurd after
after_falls per places job original (Erasing block) some after = absurd after
after_falls per places job original (Aborting block) some after = absurd after

begins_fall : (old new : World) (step : GcStep) → 0 < old.gc.per_block → step ≢ IdleStep → Begins old (Ok step) new
    → left_in old.gc.per_block new.gc.phase < 3 * old.gc.per_block + 3
begins_fall old new step some other (idle all is same) = absurd (other (let e : step ≡ IdleStep = cc in e))
begins_fall old new step some other (empty victim v unmapped r) =
    let none_left = erases_fall (emptying old victim) new victim ErasedStep step r in omega arith
begins_fall old new step some other (mapped victim into v more least r) =
    let fewer = reads_fall (begun_with old (job_of victim into)) new (job_of victim into) step some r in omega arith

step_falls : (phase : Phase) (old new : World) (step : GcStep) → 0 < old.gc.per_block → step ≢ IdleStep
    → IsStepAt phase old (Ok step) new
    → left_in old.gc.per_block new.gc.phase < left_from old.gc.per_block phase
step_falls Idle old new step some other r = begins_fall old new step some other r
step_falls (Reading job) old new step some other r = reads_fall old new job step some r
step_falls (Programming job original) old new step some other r = programs_fall old new job original step r
step_falls (Sealing job original at) old new step some other r =
    after_falls old.gc.per_block old.places job original new.gc.phase some r.gc.phase
step_falls (Commit job) old new step some other r =
    let phase : new.gc.phase ≡ Erasing job.victim = ap (λ (g : CollectorView). g.phase) r.gc in rw phase (omega arith)
step_falls (Erasing block) old new step some other r =
    let none_left = erases_fall old new block ErasedStep step r in omega arith
step_falls (Aborting block) old new step some other r =
    let none_left = erases_fall old new block Aborted step r in omega arith

-- a step that worked leaves fewer steps
pub steps_fall : (old new : World) (step : GcStep) → IsCollectorReady old → step ≢ IdleStep → IsStep old (Ok step) new
    → left_in old.gc.per_block new.gc.phase < left_from old.gc.per_block old.gc.phase
steps_fall old new step ready other r = step_falls old.gc.phase old new step ready.fits.some other r

-- there are fewer copies than pages of a block
copies_few : (per : ℕ) (moves : List Move) (places : PageMapView) (job : Job) → HasStale per moves places job
    → job.seen ≤ per → length moves < per
copies_few per moves places job stale seen = elim (cases_lt stale.place job.seen) [
  | inl before ↦ (let fewer = stale.fewer before in omega arith)
  | inr behind ↦ (let few = stale.few in let small = stale.small in omega arith)
]

few_beside : (per : ℕ) (moves : List Move) (places : PageMapView) (job : Job) (from : Ppn)
    → HasStaleBeside per moves places job from → job.seen ≤ per → length moves < per
few_beside per moves places job from stale seen = elim (cases_lt stale.place job.seen) [
  | inl before ↦ (let fewer = stale.fewer before in omega arith)
  | inr behind ↦ (let few = stale.few in let small = stale.small in omega arith)
]

-- the erase of the waiting block
erased_ends : (table : BlockTableView) (block : Block) → IsEmptying table block
    → 0 < open_count table.blocks + erased_count table.blocks
    → 0 < open_count (changed_at table block.0 (λ _. erased_block)).blocks
    + (erased_count (changed_at table block.0 (λ _. erased_block)).blocks - 1)
erased_ends table block e some =
    let opened = count_by-changed_at (λ (b : BlockEntry). is_open b.state) table block.0 (λ _. erased_block) e.waits.is.in_range in
    let blank = count_by-changed_at (λ (b : BlockEntry). is_erased b.state) table block.0 (λ _. erased_block) e.waits.is.in_range in
    let not_open : is_open (block_at table block.0).state ≡ false = ap is_open e.waits.is.state in
    let not_erased : is_erased (block_at table block.0).state ≡ false = ap is_erased e.waits.is.state in
    let opened2 = rw not_open at opened in
    let blank2 = rw not_erased at blank in
    omega arith

erases_end : (old new : World) (block : Block) (ends step : GcStep) → IsEmptying old.table block
    → ErasesBlock old block ends (Ok step) new → 0 < open_count old.table.blocks + erased_count old.table.blocks
    → IsEnding new.gc new.table
erases_end old new block ends step e r some =
    let phase : new.gc.phase ≡ Idle = ap (λ (g : CollectorView). g.phase) r.gc in
    rw (phase, r.table) (erased_ends old.table block e some)

-- the end of a collection whose destination isn't full
committed_ends : (w : World) (job : Job) → IsCollectorReady w
    → IsCommitting w.gc.per_block w.gc.moves w.flash.cells w.table w.places job
    → (block_at w.table job.into.0).next ≡ length w.gc.moves
    → 0 < open_count (after_collection w.table job.victim.0 job.into.0).blocks
    + erased_count (after_collection w.table job.victim.0 job.into.0).blocks
committed_ends w job ready c same =
    let few = copies_few w.gc.per_block w.gc.moves w.places job c.reading.stale c.reading.copying.seen in
    let after = after_collection w.table job.victim.0 job.into.0 in
    let next = (block_at w.table job.into.0).next in
    let table = ready.fits.table in
    let state : (block_at after job.into.0).state ≡ state_by_next w.table.per_block next =
    ap (λ (e : BlockEntry). e.state) (block_at-after_into w.table job.victim.0 job.into.0 (can_end w job ready c)) in
    let size = length-after_collection w.table job.victim.0 job.into.0 in
    let within : job.into.0 < length after.blocks =
    (let lies = c.reading.copying.blocks.held.is.in_range in omega arith) in
    elim (cases_Bool (eqb next 0)) [
      | inl first ↦
          let blank : (block_at after job.into.0).state ≡ Erased = state ∙ rw first refl in
          let counted = count_by-some (λ (b : BlockEntry). is_erased b.state) after.blocks job.into.0 within
          (ap is_erased blank) in
          omega arith
      | inr some ↦ elim (cases_Bool (eqb next w.table.per_block)) [
        | inl last ↦ (let whole = eqb-true next w.table.per_block last in absurd (omega arith))
        | inr between ↦
            let opened : (block_at after job.into.0).state ≡ Open = state ∙ rw (some, between) refl in
            let counted = count_by-some (λ (b : BlockEntry). is_open b.state) after.blocks job.into.0 within
            (ap is_open opened) in
            omega arith
      ]
    ]

commits_end : (old new : World) (job : Job) (step : GcStep) → IsCollectorReady old
    → IsCommitting old.gc.per_block old.gc.moves old.flash.cells old.table old.places job
    → Commits old job (Ok step) new → (block_at old.table job.into.0).next ≡ length old.gc.moves
    → IsEnding new.gc new.table
commits_end old new job step ready c r same =
    let phase : new.gc.phase ≡ Erasing job.victim = ap (λ (g : CollectorView). g.phase) r.gc in
    rw (phase, r.table) (committed_ends old job ready c same)

reads_end : (old new : World) (job : Job) (step : GcStep) → IsCollectorReady old → old.gc.phase ≡ Reading job
    → ReadsNext old job (Ok step) new → (block_at old.table job.into.0).next ≡ length old.gc.moves
    → IsEnding new.gc new.table
reads_end old new job step ready is (reads original next r) same =
    let phase : new.gc.phase ≡ Programming job original = ap (λ (g : CollectorView). g.phase) r.gc in
    let moves : new.gc.moves ≡ old.gc.moves = ap (λ (g : CollectorView). g.moves) r.gc in
    rw (phase, moves, r.table) same
reads_end old new job step ready is (none all r) same =
    commits_end old new job step ready (record { reading = at_phase old (Reading job) ready is; all_seen = all }) r same

programs_end : (old new : World) (job : Job) (original : Original) (step : GcStep) → IsCollectorReady old
    → old.gc.phase ≡ Programming job original → ProgramsNext old job original (Ok step) new
    → (block_at old.table job.into.0).next ≡ length old.gc.moves → IsEnding new.gc new.table
programs_end old new job original step ready is (programs small r) same =
    let p = at_phase old (Programming job original) ready is in
    let phase : new.gc.phase ≡ Sealing job original r.at = ap (λ (g : CollectorView). g.phase) r.gc in
    let moves : new.gc.moves ≡ old.gc.moves = ap (λ (g : CollectorView). g.moves) r.gc in
    let next : (block_at new.table job.into.0).next ≡ (block_at old.table job.into.0).next + 1 =
    ap (λ (t : BlockTableView). (block_at t job.into.0).next) r.table
    ∙ ap (λ (e : BlockEntry). e.next) (block_at-changed_at old.table job.into.0 (advanced old.table.per_block) p.copying.blocks.held.is.in_range) in
    rw (phase, moves) (omega arith)
programs_end old new job original step ready is (full whole r) same =
    let p = at_phase old (Programming job original) ready is in
    let few = few_beside old.gc.per_block old.gc.moves old.places job original.from p.stale p.copying.seen in
    absurd (omega arith)

after_ends : (per : ℕ) (places : PageMapView) (job next : Job) (moves : List Move) (table : BlockTableView) (phase : Phase)
    → IsAfter per places next phase → next.into.0 ≡ job.into.0
    → (block_at table job.into.0).next ≡ length moves → IsEndingAt moves table phase
after_ends per places job next moves table (Reading j) after into same =
    let e : j.into.0 ≡ job.into.0 = ap (λ (x : Job). x.into.0) after.0 ∙ into in
    ap (λ n. (block_at table n).next) e ∙ same
after_ends per places job next moves table (Commit j) after into same =
    let e : j.into.0 ≡ job.into.0 = ap (λ (x : Job). x.into.0) after.0 ∙ into in
    ap (λ n. (block_at table n).next) e ∙ same
after_ends per places job next moves table Idle after into same = absurd after
after_ends per places job next moves table (Programming j other) after into same = absurd after
after_ends per places job next moves table (Sealing j other at) after into same = absurd after
after_ends per places job next moves table (Erasing block) after into same = absurd after
after_ends per places job next moves table (Aborting block) after into same = absurd after

seals_end : (old new : World) (job : Job) (original : Original) (at : Ppn) (step : GcStep)
    → SealsCopy old job original at (Ok step) new
    → (block_at old.table job.into.0).next ≡ length old.gc.moves + 1 → IsEnding new.gc new.table
seals_end old new job original at step r same =
    let moves : new.gc.moves ≡ old.gc.moves ++ move_to original at ∷ [] = ap (λ (g : CollectorView). g.moves) r.gc.gc in
    let longer = length_push old.gc.moves (move_to original at) in
    let count : length new.gc.moves ≡ length old.gc.moves + 1 = ap (λ (ms : List Move). length ms) moves ∙ longer in
    let next : (block_at new.table job.into.0).next ≡ (block_at old.table job.into.0).next =
    ap (λ (t : BlockTableView). (block_at t job.into.0).next) r.table in
    after_ends old.gc.per_block old.places job (past old.gc.per_block job original) new.gc.moves new.table new.gc.phase
    r.gc.phase refl (omega arith)

-- a collection that begins
begins_end : (old new : World) (step : GcStep) → IsBlockTableSound old.table → IsCollectorReady old → old.gc.phase ≡ Idle
    → step ≢ IdleStep → Begins old (Ok step) new → IsEnding new.gc new.table
begins_end old new step sound ready is other (idle all same same_world) =
    absurd (other (let e : step ≡ IdleStep = cc in e))
begins_end old new step sound ready is other (empty victim v unmapped r) =
    let is_idle = at_phase old Idle ready is in
    let e = emptying_is old victim ready is v.has.full unmapped in
    let spare = is_idle.spare in
    let apart : spare.block ≢ victim.0 = λ same.
    (let states : Erased ≡ Full = sym spare.is.state ∙ ap (λ n. (block_at old.table n).state) same ∙ v.has.full.state in cc) in
    let table = changed_at old.table victim.0 waiting in
    let blank : (block_at table spare.block).state ≡ Erased =
    ap (λ (b : BlockEntry). b.state) (block_at-changed_at_other old.table victim.0 waiting spare.block apart) ∙ spare.is.state in
    let counted = count_by-some (λ (b : BlockEntry). is_erased b.state) table.blocks spare.block
    (let lies = spare.is.in_range in let size = e.waits.is.in_range in
    subst (λ n. spare.block < n) (sym (length-changed_at old.table victim.0 waiting)) lies)
    (ap is_erased blank) in
    erases_end (emptying old victim) new victim ErasedStep step e r (omega arith)
begins_end old new step sound ready is other (mapped victim into v more least r) =
    let stale = v.has.stale in
    let table = ready.fits.table in
    let begun = begun_ready old victim into sound ready is v.has.full least.has (omega arith) in
    let next = erased_next old.table.per_block (block_at old.table into.0) (sound.each into.0 least.has.in_range) least.has.state in
    let change = after_hold old.table.per_block true in
    let same : (block_at (changed_at old.table into.0 change) into.0).next ≡ 0 =
    ap (λ (e : BlockEntry). e.next) (block_at-changed_at old.table into.0 change least.has.in_range) ∙ next in
    reads_end (begun_with old (job_of victim into)) new (job_of victim into) step begun refl r same

step_ends : (phase : Phase) (old new : World) (step : GcStep) → IsBlockTableSound old.table → IsCollectorReady old
    → old.gc.phase ≡ phase → step ≢ IdleStep → IsStepAt phase old (Ok step) new
    → (phase ≡ Idle) ⊎ IsEndingAt old.gc.moves old.table phase → IsEnding new.gc new.table
step_ends Idle old new step sound ready is other r ending = begins_end old new step sound ready is other r
step_ends (Reading job) old new step sound ready is other r (inl e) = absurd (cc)
step_ends (Reading job) old new step sound ready is other r (inr same) = reads_end old new job step ready is r same
step_ends (Programming job original) old new step sound ready is other r (inl e) = absurd (cc)
step_ends (Programming job original) old new step sound ready is other r (inr same) =
    programs_end old new job original step ready is r same
step_ends (Sealing job original at) old new step sound ready is other r (inl e) = absurd (cc)
step_ends (Sealing job original at) old new step sound ready is other r (inr same) =
    seals_end old new job original at step r same
step_ends (Commit job) old new step sound ready is other r (inl e) = absurd (cc)
step_ends (Commit job) old new step sound ready is other r (inr same) =
    commits_end old new job step ready (at_phase old (Commit job) ready is) r same
step_ends (Erasing block) old new step sound ready is other r (inl e) = absurd (cc)
step_ends (Erasing block) old new step sound ready is other r (inr some) =
    erases_end old new block ErasedStep step (at_phase old (Erasing block) ready is) r some
step_ends (Aborting block) old new step sound ready is other r (inl e) = absurd (cc)
step_ends (Aborting block) old new step sound ready is other r (inr some) =
    erases_end old new block Aborted step (at_phase old (Aborting block) ready is) r some

-- a collection that is begun, or ends with a page to program, ends with one after a step that worked
pub steps_end : (old new : World) (step : GcStep) → IsBlockTableSound old.table → IsCollectorReady old → step ≢ IdleStep
    → IsStep old (Ok step) new → (old.gc.phase ≡ Idle) ⊎ IsEnding old.gc old.table → IsEnding new.gc new.table
steps_end old new step sound ready other r ending = step_ends old.gc.phase old new step sound ready refl other r ending
