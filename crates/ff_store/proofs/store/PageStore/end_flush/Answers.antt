use Rattle.ff_store.proofs.Calling.{sealed_call, sealed_placed, sealed_stopped}
use Rattle.ff_store.proofs.store.PageStore.end_flush.Goals as goal

pub returns-clause-call : goal.returns-clause-call
returns-clause-call g c = sealed_call _ _ _ _ c.known.ensures.store c.requires.on c.seal.ensures

pub returns-clause-placed : goal.returns-clause-placed
returns-clause-placed g c = sealed_placed _ _ _ _ c.known.ensures.store c.requires.on c.seal.ensures

pub returns-clause-stopped : goal.returns-clause-stopped
returns-clause-stopped g c = sealed_stopped _ _ _ _ c.known.ensures.store c.requires.on c.seal.ensures
