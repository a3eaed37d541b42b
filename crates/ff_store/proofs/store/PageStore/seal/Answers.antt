use Rattle.std.proofs.Common.{refl, ap, sym, ◌∙◌}
use Rattle.ff_space.specs.declared.block.BlockState.TheVariants.{Waiting}
use Rattle.ff_map.specs.PageMap.{mapping_of}
use Rattle.ff_store.proofs.Settled.{old_counted, old_within, settled_failed, settled_off, settled_ok}
use Rattle.ff_store.proofs.Settling.{dropped_counted, pending_in, usable_not}
use Rattle.ff_store.specs.PageStore.{PageStoreView}
use Rattle.ff_store.proofs.store.PageStore.seal.Goals as goal

pub drop_old-requires-clause-within : goal.drop_old-requires-clause-within
drop_old-requires-clause-within g c =
    let on = ap (λ (s : PageStoreView). s.world.flash.on) c.self.view_is ∙ c.requires.on in
    rw c.self.invariant.per_block_is (λ m is. old_within _ c.args.pending c.self.invariant.sound on m is)

pub drop_old-requires-clause-counted : goal.drop_old-requires-clause-counted
drop_old-requires-clause-counted g c =
    let on = ap (λ (s : PageStoreView). s.world.flash.on) c.self.view_is ∙ c.requires.on in
    rw c.self.invariant.per_block_is (λ m is. old_counted _ c.args.pending c.self.invariant.sound on m is)

pub add_mapped-requires-clause-used : goal.add_mapped-requires-clause-used
add_mapped-requires-clause-used g c =
    let on = ap (λ (s : PageStoreView). s.world.flash.on) c.self.view_is ∙ c.requires.on in
    let waits = ap (λ (s : PageStoreView). s.waits) c.self.view_is ∙ c.requires.waits in
    let w = pending_in _ c.args.pending c.self.invariant.sound on waits in
    let counted = dropped_counted _ _ (mapping_of c.self.inside.places c.args.pending.page)
    (old_within _ c.args.pending c.self.invariant.sound on) in
    rw (c.drop_old.ensures, c.self.invariant.per_block_is)
    (λ is. usable_not _ Waiting w.usable (λ e. cc) (λ e. cc) (sym (counted.state _) ∙ is))

pub invariant_of-self : goal.invariant_of-self
invariant_of-self g c =
    let on = ap (λ (s : PageStoreView). s.world.flash.on) c.self.view_is ∙ c.requires.on in
    let waits = ap (λ (s : PageStoreView). s.waits) c.self.view_is ∙ c.requires.waits in
    rw (c.add_mapped.ensures, c.map_page.ensures, c.drop_old.ensures, c.self.invariant.per_block_is) record {
      sound = settled_ok _ (g.F.Flash.state c.seal.new.self) c.begin.new.self c.args.pending c.self.invariant.sound on waits
          (record { flash = c.in-Ok.ensures.counts; counts = c.begin.ensures }) c.in-Ok.ensures.cells;
      per_block_is = refl;
    }

pub invariant_of-self-in-Err-Failed : goal.invariant_of-self-in-Err-Failed
invariant_of-self-in-Err-Failed g c =
    let on = ap (λ (s : PageStoreView). s.world.flash.on) c.self.view_is ∙ c.requires.on in
    let waits = ap (λ (s : PageStoreView). s.waits) c.self.view_is ∙ c.requires.waits in
    let e = rw c.in-Err-Failed.field-0-is at c.in-Err-Failed.ensures in
    record {
      sound = settled_failed _ (g.F.Flash.state c.seal.new.self) c.begin.new.self c.args.pending c.self.invariant.sound on waits
          (record { flash = e.counts; counts = c.begin.ensures }) e.cells;
      per_block_is = c.self.invariant.per_block_is;
    }

pub invariant_of-self-in-Err-Off : goal.invariant_of-self-in-Err-Off
invariant_of-self-in-Err-Off g c =
    let on = ap (λ (s : PageStoreView). s.world.flash.on) c.self.view_is ∙ c.requires.on in
    let waits = ap (λ (s : PageStoreView). s.waits) c.self.view_is ∙ c.requires.waits in
    let e = rw c.in-Err-Off.field-0-is at c.in-Err-Off.ensures in
    record {
      sound = settled_off _ (g.F.Flash.state c.seal.new.self) c.begin.new.self c.args.pending c.self.invariant.sound on waits
          (record { flash = e.counts; counts = c.begin.ensures }) e.cells;
      per_block_is = c.self.invariant.per_block_is;
    }
