use Rattle.ff_store.proofs.Basics.{collected_call, collected_same}
use Rattle.ff_store.proofs.store.PageStore.collect_on.Goals as goal

pub returns-clause-call : goal.returns-clause-call
returns-clause-call g c = collected_call _ _ _ _ c.known.ensures.store c.requires.on c.known.ensures.table c.collect-2.ensures

pub returns-clause-same : goal.returns-clause-same
returns-clause-same g c = collected_same _ _ _ _ c.known.ensures.store c.requires.on c.known.ensures.table c.collect-2.ensures
