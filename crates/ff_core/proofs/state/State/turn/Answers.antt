-- A call that isn't refused at once has its event.
use Rattle.std.proofs.Common.{ap, ◌∙◌}
use Rattle.ff_core.specs.Core.{CoreView}
use Rattle.ff_core.specs.Hierarchy.{flash_under}
use Rattle.ff_core.proofs.Attempts.{attempt-turn}
use Rattle.ff_core.proofs.state.State.turn.Goals as goal

pub returns-in-None : goal.returns-in-None
returns-in-None g c =
    let on = c.if-not-is_on.ensures ∙ ap (λ (core : CoreView _ _). (flash_under core.hierarchy).on) c.self.view_is in
    attempt-turn _ _ _ _ _ _ _ on c.in-None.ensures c.attempt.ensures
