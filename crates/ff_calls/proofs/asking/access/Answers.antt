use Rattle.ff_calls.proofs.asking.access.Goals as goal

pub returns-in-Load-clause-accesses : goal.returns-in-Load-clause-accesses
returns-in-Load-clause-accesses g c = rw c.in-Load.is c.load.ensures.load

pub returns-in-Load-clause-lines : goal.returns-in-Load-clause-lines
returns-in-Load-clause-lines g c = rw c.in-Load.is c.load.ensures.lines

pub returns-in-Store-clause-accesses : goal.returns-in-Store-clause-accesses
returns-in-Store-clause-accesses g c = rw c.in-Store.is c.store.ensures.store

pub returns-in-Store-clause-lines : goal.returns-in-Store-clause-lines
returns-in-Store-clause-lines g c = rw c.in-Store.is c.store.ensures.lines

pub returns-in-Verify-clause-accesses : goal.returns-in-Verify-clause-accesses
returns-in-Verify-clause-accesses g c = rw c.in-Verify.is c.verify.ensures.verified

pub returns-in-Verify-clause-lines : goal.returns-in-Verify-clause-lines
returns-in-Verify-clause-lines g c = rw c.in-Verify.is c.verify.ensures.lines

pub returns-in-Mark-clause-accesses : goal.returns-in-Mark-clause-accesses
returns-in-Mark-clause-accesses g c = rw c.in-Mark.is c.mark.ensures.marks

pub returns-in-Mark-clause-lines : goal.returns-in-Mark-clause-lines
returns-in-Mark-clause-lines g c = rw c.in-Mark.is c.mark.ensures.lines

pub returns-in-Release-clause-accesses : goal.returns-in-Release-clause-accesses
returns-in-Release-clause-accesses g c = rw c.in-Release.is c.release.ensures.releases

pub returns-in-Release-clause-lines : goal.returns-in-Release-clause-lines
returns-in-Release-clause-lines g c = rw c.in-Release.is c.release.ensures.lines
