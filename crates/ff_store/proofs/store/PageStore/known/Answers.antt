use Rattle.std.proofs.Common.{subst}
use Rattle.ff_store.proofs.Mounting.{recoverable}
use Rattle.ff_store.specs.Recoverable.{IsRecoverable}
use Rattle.ff_store.proofs.store.PageStore.known.Goals as goal

pub returns-clause-recoverable : goal.returns-clause-recoverable
returns-clause-recoverable g c =
    subst (λ s. IsRecoverable s) c.self.view_is (recoverable _ c.self.invariant.sound.always)
