use Rattle.ff_store.proofs.Calling.{flushes_call, flushes_is, flushes_left, flushes_none, flushes_same}
use Rattle.ff_store.proofs.store.PageStore.flush.Goals as goal

pub returns-clause-call : goal.returns-clause-call
returns-clause-call g c =
    flushes_call _ _ _ _ _ c.known.ensures.store c.requires.on c.known.ensures.table c.program_or_collect.ensures

pub returns-clause-same : goal.returns-clause-same
returns-clause-same g c =
    flushes_same _ _ _ _ _ c.known.ensures.store c.requires.on c.known.ensures.table c.program_or_collect.ensures

pub returns-clause-programmed : goal.returns-clause-programmed
returns-clause-programmed g c is =
    flushes_is _ _ _ _ _ c.known.ensures.store c.requires.on c.known.ensures.table c.program_or_collect.ensures is

pub returns-clause-none : goal.returns-clause-none
returns-clause-none g c other = flushes_none _ _ _ _ _ c.requires.none c.program_or_collect.ensures other

pub returns-clause-left : goal.returns-clause-left
returns-clause-left g c is =
    flushes_left _ _ _ _ _ c.known.ensures.store c.requires.on c.known.ensures.table c.requires.room
    c.program_or_collect.ensures is
