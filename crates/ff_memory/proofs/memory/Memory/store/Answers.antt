use Rattle.std.proofs.Common.{length, refl, sym, ◌∙◌}
use Rattle.ff_model.proofs.Replies.{span_one_line}
use Rattle.ff_memory.specs.Stores.{IsStoreGiven}
use Rattle.ff_memory.proofs.PostStores.{KeepsStore, store-keeps}
use Rattle.ff_memory.proofs.Spans.{page-in_range}
use Rattle.ff_memory.proofs.memory.Memory.store.Given.{Over}
use Rattle.ff_memory.proofs.memory.Memory.store.Goals as goal

pub store_allowed-requires : goal.store_allowed-requires
store_allowed-requires g c = record {
  sound = c.known.ensures;
  device = c.resident.ensures.known;
  located = c.requires.located;
  within = rw c.of-at.ensures.page (page-in_range (length c.args.self.now.table.homes) c.args.at (length c.args.bytes.now) c.requires.span);
  low = c.of-at.ensures.within;
  fits = rw c.of-at.ensures.from (span_one_line (length c.args.self.now.table.homes) c.args.at (length c.args.bytes.now) c.requires.span);
  allowed = sym c.refuses.ensures ∙ c.if-refuses.false;
}

keeps : (g : Over) (c : goal.After-store_allowed g)
    → KeepsStore c.store_allowed.result c.of-at.result.page.0 c.of-at.result.line c.of-at.result.from c.args.bytes.now c.args.self.now
    (g.D.LineDevice.state c.args.d.now) c.store_allowed.new.self (g.D.LineDevice.state c.store_allowed.new.d)
keeps g c =
    let given : IsStoreGiven c.of-at.result.page.0 c.of-at.result.line c.of-at.result.from c.args.bytes.now c.args.self.now (g.D.LineDevice.state c.args.d.now) =
    record {
      sound = c.known.ensures;
      device = c.resident.ensures.known;
      located = c.requires.located;
      within = rw c.of-at.ensures.page (page-in_range (length c.args.self.now.table.homes) c.args.at (length c.args.bytes.now) c.requires.span);
      low = c.of-at.ensures.within;
      fits = rw c.of-at.ensures.from (span_one_line (length c.args.self.now.table.homes) c.args.at (length c.args.bytes.now) c.requires.span);
      allowed = sym c.refuses.ensures ∙ c.if-refuses.false;
    } in
    store-keeps _ _ c.of-at.result.page.0 c.of-at.result.line c.of-at.result.from c.args.bytes.now c.args.position c.args.self.now _
    c.store_allowed.result c.store_allowed.new.self _ given refl c.store_allowed.ensures.store

pub returns-clause-located : goal.returns-clause-located
returns-clause-located g c = (keeps g c).located

pub returns-clause-lines : goal.returns-clause-lines
returns-clause-lines g c = rw (c.of-at.ensures.page, c.of-at.ensures.line, c.of-at.ensures.from) at (keeps g c).stored
