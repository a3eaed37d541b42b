use Rattle.ff_flash.proofs.Rising.{listed_there, listed_past_test}
use Rattle.ff_flash.proofs.injector.is_next.Goals as goal

pub returns-then-passed-numbers-clause-listed : goal.returns-then-passed-numbers-clause-listed
returns-then-passed-numbers-clause-listed c = listed_there _ _ _ c.requires.rises c.requires.passed

pub returns-else-passed-numbers-clause-listed : goal.returns-else-passed-numbers-clause-listed
returns-else-passed-numbers-clause-listed c = listed_past_test _ _ _ c.requires.rises c.requires.passed c.if-passed-numbers.false
