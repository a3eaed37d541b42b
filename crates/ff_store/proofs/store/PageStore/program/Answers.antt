use Rattle.std.proofs.Common.{◌<◌, ◌≤◌, length, ap, sym, subst, ◌∙◌}
use Rattle.ff_space.specs.BlockTable.{IsBlockTableSound}
use Rattle.ff_store.proofs.Basics.{ready_in}
use Rattle.ff_store.proofs.PagePrograms.{flushed_failed, flushed_off, flushed_ok}
use Rattle.ff_store.proofs.Targets.{target_of}
use Rattle.ff_store.specs.Calls.{IsWritePlace}
use Rattle.ff_store.specs.PageStore.{PageStoreView}
use Rattle.ff_store.specs.Pages.{mapped_with, page_capacity}
use Rattle.ff_store.proofs.store.PageStore.program.Goals as goal

pub program-requires-clause-place : goal.program-requires-clause-place
program-requires-clause-place g c =
    let view = sym c.self.view_is in
    let on = ap (λ (s : PageStoreView). s.world.flash.on) c.self.view_is ∙ c.requires.on in
    let table = subst (λ (s : PageStoreView). IsBlockTableSound s.world.table) view c.known.ensures.table in
    let place = subst (λ (s : PageStoreView). IsWritePlace s.world.table c.args.place.block.0 c.args.place.at.0) view c.requires.place in
    (target_of _ c.args.place.block.0 c.args.place.at.0 table (ready_in _ c.self.invariant.sound on) place).within

pub program-requires-clause-erased : goal.program-requires-clause-erased
program-requires-clause-erased g c =
    let view = sym c.self.view_is in
    let on = ap (λ (s : PageStoreView). s.world.flash.on) c.self.view_is ∙ c.requires.on in
    let table = subst (λ (s : PageStoreView). IsBlockTableSound s.world.table) view c.known.ensures.table in
    let place = subst (λ (s : PageStoreView). IsWritePlace s.world.table c.args.place.block.0 c.args.place.at.0) view c.requires.place in
    (target_of _ c.args.place.block.0 c.args.place.at.0 table (ready_in _ c.self.invariant.sound on) place).blank

pub invariant_of-self : goal.invariant_of-self
invariant_of-self g c =
    let view = sym c.self.view_is in
    let on = ap (λ (s : PageStoreView). s.world.flash.on) c.self.view_is ∙ c.requires.on in
    let table = subst (λ (s : PageStoreView). IsBlockTableSound s.world.table) view c.known.ensures.table in
    let page = subst (λ (s : PageStoreView). c.args.page.0 < length s.world.places.pages) view c.requires.page in
    let room = subst (λ (s : PageStoreView). mapped_with s.world.places c.args.page ≤ page_capacity s.world) view c.requires.room in
    let place = subst (λ (s : PageStoreView). IsWritePlace s.world.table c.args.place.block.0 c.args.place.at.0) view c.requires.place in
    rw (c.use_place.ensures, c.draw_version-version.ensures.map, c.draw_version-version.ensures.drawn) record {
      sound = flushed_ok _ (g.F.Flash.state c.program.new.self) c.begin.new.self c.args.page c.args.from.now
          c.args.place.block.0 c.args.place.at c.self.invariant.sound on table page room c.as_slice-bytes.ensures.size place
          (record { flash = c.in-Ok.ensures.counts; counts = c.begin.ensures })
          (rw c.draw_version-version.ensures.drawn at c.in-Ok.ensures.cells);
      per_block_is = c.self.invariant.per_block_is;
    }

pub invariant_of-self-in-Err-Failed : goal.invariant_of-self-in-Err-Failed
invariant_of-self-in-Err-Failed g c =
    let view = sym c.self.view_is in
    let on = ap (λ (s : PageStoreView). s.world.flash.on) c.self.view_is ∙ c.requires.on in
    let none = ap (λ (s : PageStoreView). s.waits) c.self.view_is ∙ c.requires.none in
    let table = subst (λ (s : PageStoreView). IsBlockTableSound s.world.table) view c.known.ensures.table in
    let room = subst (λ (s : PageStoreView). mapped_with s.world.places c.args.page ≤ page_capacity s.world) view c.requires.room in
    let place = subst (λ (s : PageStoreView). IsWritePlace s.world.table c.args.place.block.0 c.args.place.at.0) view c.requires.place in
    let drawn = rw c.draw_version-version.ensures.drawn at c.in-Err-Failed.ensures.cells in
    let cells = rw c.in-Err-Failed.field-0-is at drawn in
    let counts = rw c.in-Err-Failed.field-0-is at c.in-Err-Failed.ensures.counts in
    rw (c.use_place-in-Err-Failed.ensures, c.draw_version-version.ensures.map) record {
      sound = flushed_failed _ (g.F.Flash.state c.program.new.self) c.begin.new.self c.args.page c.args.from.now
          c.args.place.block.0 c.args.place.at c.self.invariant.sound on none table room place
          (record { flash = counts; counts = c.begin.ensures }) cells;
      per_block_is = c.self.invariant.per_block_is;
    }

pub invariant_of-self-in-Err-Off : goal.invariant_of-self-in-Err-Off
invariant_of-self-in-Err-Off g c =
    let view = sym c.self.view_is in
    let on = ap (λ (s : PageStoreView). s.world.flash.on) c.self.view_is ∙ c.requires.on in
    let none = ap (λ (s : PageStoreView). s.waits) c.self.view_is ∙ c.requires.none in
    let table = subst (λ (s : PageStoreView). IsBlockTableSound s.world.table) view c.known.ensures.table in
    let room = subst (λ (s : PageStoreView). mapped_with s.world.places c.args.page ≤ page_capacity s.world) view c.requires.room in
    let place = subst (λ (s : PageStoreView). IsWritePlace s.world.table c.args.place.block.0 c.args.place.at.0) view c.requires.place in
    let drawn = rw c.draw_version-version.ensures.drawn at c.in-Err-Off.ensures.cells in
    let cells = rw c.in-Err-Off.field-0-is at drawn in
    let counts = rw c.in-Err-Off.field-0-is at c.in-Err-Off.ensures.counts in
    rw c.draw_version-version.ensures.map record {
      sound = flushed_off _ (g.F.Flash.state c.program.new.self) c.begin.new.self c.args.page c.args.from.now
          c.args.place.block.0 c.args.place.at c.self.invariant.sound on none table room place
          (record { flash = counts; counts = c.begin.ensures }) cells;
      per_block_is = c.self.invariant.per_block_is;
    }
