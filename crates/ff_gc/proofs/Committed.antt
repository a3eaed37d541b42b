-- A collection's end keeps what holds of collector, cells, block table and page map.
use Rattle.std.proofs.Common.{◌≡◌, List, [], length, None, inl, inr, refl, sym, ap, ◌∙◌, arith}
use Rattle.std.specs.Prelude.{Result}
use Rattle.std.proofs.lemmas.Bool.{cases_eq}
use Rattle.ff_flash.specs.Cells.{Cell}
use Rattle.ff_flash.specs.FlashState.{FlashState}
use Rattle.ff_flash.specs.declared.flash.FlashStop.{FlashStop}
use Rattle.ff_space.proofs.Changed.{
  block_at-after_into,
  block_at-after_other,
  block_at-after_victim,
  length-after_collection,
}
use Rattle.ff_space.specs.Blocks.{state_by_next}
use Rattle.ff_space.specs.BlockTable.{BlockTableView, after_collection, block_at}
use Rattle.ff_space.specs.declared.block.BlockEntry.{BlockEntry}
use Rattle.ff_space.specs.declared.block.BlockState.TheVariants.{Held, Waiting}
use Rattle.ff_map.proofs.Lookups.{version_of-switched}
use Rattle.ff_map.specs.PageMap.{mapping_of}
use Rattle.ff_gc.specs.Cells.{IsSafe}
use Rattle.ff_gc.specs.Collector.{CollectorView}
use Rattle.ff_gc.specs.Running.{IsEmptying}
use Rattle.ff_gc.specs.Steps.{Commits}
use Rattle.ff_gc.specs.World.{IsCollectorReady, Keeps, World, mapped_bytes}
use Rattle.ff_gc.specs.declared.collector.GcStep.{GcStep}
use Rattle.ff_gc.specs.declared.phase.Job.{Job}
use Rattle.ff_gc.specs.declared.phase.Phase.TheVariants.{Erasing}
use Rattle.ff_gc.proofs.Switching.{IsCommittingIn, can_end}
use Rattle.ff_gc.proofs.Switched.{same_bytes, switched_mapped, victim_empty}
use Rattle.ff_gc.proofs.SwitchedCounts.{by_next_not, switched_tabled}

switched_emptying : (w : World) (job : Job) → IsCollectorReady w → IsCommittingIn w job
    → IsEmptying (after_collection w.table job.victim.0 job.into.0) job.victim
switched_emptying w job ready c =
    let can = can_end w job ready c in
    let b = c.reading.copying.blocks in
    let after = after_collection w.table job.victim.0 job.into.0 in
    let size = length-after_collection w.table job.victim.0 job.into.0 in
    let victim = block_at-after_victim w.table job.victim.0 job.into.0 can in
    let into : (block_at after job.into.0).state
    ≡ state_by_next w.table.per_block (block_at w.table job.into.0).next =
    ap (λ (e : BlockEntry). e.state) (block_at-after_into w.table job.victim.0 job.into.0 can) in
    let next = (block_at w.table job.into.0).next in
    record {
      waits = record {
        is = record {
          in_range = (let within = b.full.in_range in omega arith);
          state = ap (λ (e : BlockEntry). e.state) victim;
        };
        only = λ other is. elim (cases_eq other job.victim.0) [
          | inl same ↦ same
          | inr not_victim ↦ elim (cases_eq other job.into.0) [
            | inl same ↦
                absurd (by_next_not w.table.per_block next Waiting (λ e. cc) (λ e. cc) (λ e. cc)
                (sym into ∙ ap (λ n. (block_at after n).state) (sym same) ∙ is.state))
            | inr not_into ↦
                let entry = block_at-after_other w.table job.victim.0 job.into.0 other not_victim not_into in
                absurd (b.none_waits other record {
                  in_range = (let within = is.in_range in omega arith);
                  state = sym (ap (λ (e : BlockEntry). e.state) entry) ∙ is.state;
                })
          ]
        ];
      };
      unmapped = ap (λ (e : BlockEntry). e.mapped) victim;
      none_held = λ other is. elim (cases_eq other job.victim.0) [
        | inl same ↦
            let e : Waiting ≡ Held =
            sym (ap (λ (e : BlockEntry). e.state) victim) ∙ ap (λ n. (block_at after n).state) (sym same) ∙ is.state in
            absurd (cc)
        | inr not_victim ↦ elim (cases_eq other job.into.0) [
          | inl same ↦
              by_next_not w.table.per_block next Held (λ e. cc) (λ e. cc) (λ e. cc)
              (sym into ∙ ap (λ n. (block_at after n).state) (sym same) ∙ is.state)
          | inr not_into ↦
              let entry = block_at-after_other w.table job.victim.0 job.into.0 other not_victim not_into in
              not_into (b.held.only other record {
                in_range = (let within = is.in_range in omega arith);
                state = sym (ap (λ (e : BlockEntry). e.state) entry) ∙ is.state;
              })
        ]
      ];
    }

-- the end of a collection
pub commits_kept : (old new : World) (job : Job) (result : Result GcStep FlashStop) → IsCollectorReady old
    → IsCommittingIn old job → Commits old job result new → Keeps old new
commits_kept old new job result ready c r =
    let switched = r.places in
    let blocks : length new.table.blocks ≡ length old.table.blocks =
    ap (λ (t : BlockTableView). length t.blocks) r.table ∙ length-after_collection old.table job.victim.0 job.into.0 in
    let per : new.gc.per_block ≡ old.gc.per_block = ap (λ (g : CollectorView). g.per_block) r.gc in
    let cells : new.flash.cells ≡ old.flash.cells = ap (λ (f : FlashState). f.cells) r.flash in
    let table : new.table.per_block ≡ old.table.per_block = ap (λ (t : BlockTableView). t.per_block) r.table in
    let gc : CollectorView = record old.gc { phase = Erasing job.victim; moves = [] } in
    let safe : IsSafe None (length old.table.blocks) old.gc.per_block old.flash.operations old.flash.cells new.places =
    record {
      sealed_cells = rw switched.pages ready.safe.sealed_cells;
      mapped = switched_mapped old job new.places ready c switched;
      first = rw switched.next_version ready.safe.first;
      drawn = rw switched.next_version ready.safe.drawn;
      spare = record {
        block = job.victim.0;
        in_range = c.reading.copying.blocks.full.in_range;
        unmapped = victim_empty old job new.places c switched;
      };
    } in
    record {
      same = record {
        bytes = λ page.
            ap (λ (cs : List Cell). mapped_bytes cs (mapping_of new.places page)) cells
            ∙ same_bytes old job new.places c switched page (mapping_of old.places page) refl;
        versions = λ page. version_of-switched old.gc.moves old.places new.places switched page;
        next = switched.next_version;
        pages = switched.pages;
        blocks = blocks;
        per_block = per;
      };
      fits = record {
        per_block = ap (λ (f : FlashState). f.per_block) r.flash ∙ ready.fits.per_block ∙ sym per;
        blocks = ap (λ (f : FlashState). f.blocks) r.flash ∙ ready.fits.blocks ∙ sym blocks;
        table = table ∙ ready.fits.table ∙ sym per;
        cells = rw (blocks, per) (ap (λ (cs : List Cell). length cs) cells ∙ ready.fits.cells);
        places = rw (blocks, per) (switched.places ∙ ready.fits.places);
        some = rw per ready.fits.some;
        small = rw (blocks, per) ready.fits.small;
      };
      safe = rw (blocks, per, r.flash) safe;
      live = λ on. rw (r.gc, r.flash, r.table) record {
        tabled = switched_tabled old job new.places ready c switched;
        phase = switched_emptying old job ready c;
      };
    }
