use Rattle.std.proofs.Common.{◌≡◌, true, refl, sym, ◌∙◌}
use Rattle.ff_device.specs.CollectTurn.{turn_collects, turn_idle, turn_seals}
use Rattle.ff_device.proofs.SeenSteps.{none_sealed, pending_is}
use Rattle.ff_device.proofs.StoreCalls.{still_calls}
use Rattle.ff_device.proofs.device.Device.collect_turn.Goals as goal

pub seal-requires-clause-pending : goal.seal-requires-clause-pending
seal-requires-clause-pending g c = pending_is c.args.self.now.store ∙ sym c.is_pending.ensures ∙ c.if-is_pending.true

pub collect-requires-clause-idle : goal.collect-requires-clause-idle
collect-requires-clause-idle g c = none_sealed c.args.self.now.store.waits (sym c.is_pending.ensures ∙ c.if-is_pending.false)

pub returns-then-is_pending-clause-turn : goal.returns-then-is_pending-clause-turn
returns-then-is_pending-clause-turn g c = turn_seals c.requires.on (sym c.is_pending.ensures ∙ c.if-is_pending.true) c.seal.ensures.row

pub returns-then-wants_collect-clause-turn : goal.returns-then-wants_collect-clause-turn
returns-then-wants_collect-clause-turn g c =
    turn_collects c.requires.on (none_sealed c.args.self.now.store.waits (sym c.is_pending.ensures ∙ c.if-is_pending.false))
    (c.wants_collect.ensures.0 c.if-wants_collect.true) c.collect.ensures.row

pub returns-else-wants_collect-clause-turn : goal.returns-else-wants_collect-clause-turn
returns-else-wants_collect-clause-turn g c =
    turn_idle c.requires.on (none_sealed c.args.self.now.store.waits (sym c.is_pending.ensures ∙ c.if-is_pending.false))
    (λ wants. let is : c.wants_collect.result ≡ true = c.wants_collect.ensures.1 wants in absurd (cc c.if-wants_collect.false)) refl refl

pub returns-else-wants_collect-clause-calls : goal.returns-else-wants_collect-clause-calls
returns-else-wants_collect-clause-calls g c = still_calls c.args.self.now.store
