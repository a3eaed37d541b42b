use Rattle.std.proofs.Common.{ap, subst, ◌∙◌}
use Rattle.ff_flash.specs.FlashState.{powered_off}
use Rattle.ff_core.specs.Core.{CoreView}
use Rattle.ff_core.specs.Hierarchy.{flash_under}
use Rattle.ff_core.specs.Losing.{IsLossOf, kept_after}
use Rattle.ff_core.specs.Record.{record_of}
use Rattle.ff_core.proofs.Losing.{lost_account}
use Rattle.ff_core.proofs.core_state.Core.power.Goals as goal

pub lose-requires-clause-sound : goal.lose-requires-clause-sound
lose-requires-clause-sound g c = c.self.invariant

pub lose-requires-clause-memory : goal.lose-requires-clause-memory
lose-requires-clause-memory g c = rw (← c.self.view_is) at c.parts_known.ensures.memory

pub lose-requires-clause-device : goal.lose-requires-clause-device
lose-requires-clause-device g c = rw (← c.self.view_is) at c.parts_known.ensures.device

pub returns-clause-base : goal.returns-clause-base
returns-clause-base g c =
    c.lose.ensures.base ∙ ap (λ (v : CoreView g.row.T.Denot g.row.E.Denot). v.opening.base) c.self.view_is

pub returns-clause-account : goal.returns-clause-account
returns-clause-account g c =
    c.lose.ensures.account
    ∙ ap (λ (v : CoreView g.row.T.Denot g.row.E.Denot). record_of v (kept_after v c.args.arrive)) c.self.view_is

pub returns-clause-flash : goal.returns-clause-flash
returns-clause-flash g c =
    c.lose.ensures.flash
    ∙ ap (λ (v : CoreView g.row.T.Denot g.row.E.Denot). powered_off (flash_under v.hierarchy)) c.self.view_is

pub returns-clause-tuner : goal.returns-clause-tuner
returns-clause-tuner g c =
    c.lose.ensures.tuner ∙ ap (λ (v : CoreView g.row.T.Denot g.row.E.Denot). v.hierarchy.policy.tuner) c.self.view_is

pub returns-clause-picker : goal.returns-clause-picker
returns-clause-picker g c =
    c.lose.ensures.picker ∙ ap (λ (v : CoreView g.row.T.Denot g.row.E.Denot). v.hierarchy.evictor.picker) c.self.view_is

pub returns-clause-good : goal.returns-clause-good
returns-clause-good g c =
    lost_account c.args.self (kept_after c.args.self c.args.arrive) c.lose.result.account (g.F.Flash.state c.lose.result.flash)
    c.parts_known.ensures.sound c.ledgers_known.ensures.store c.ledgers_known.ensures.policy
    (returns-clause-account g c) (returns-clause-flash g c)

pub returns-clause-lost : goal.returns-clause-lost
returns-clause-lost g c =
    subst (λ (v : CoreView g.row.T.Denot g.row.E.Denot). IsLossOf v.geometry v.opening.base c.args.arrive c.lose.result.account
    c.lose.result.nv (g.F.Flash.state c.lose.result.flash)) c.self.view_is c.lose.ensures.lost
