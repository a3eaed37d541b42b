-- A served call is counted and answered, and a missed one has its step.
use Rattle.std.proofs.Common.{ap, ◌∙◌}
use Rattle.ff_store.specs.PageStore.{PageStoreView}
use Rattle.ff_core.proofs.AskedPages.{refusal-none}
use Rattle.ff_core.proofs.Attempts.{asked-range, attempt-missed, attempt-served, few-accesses, few-hits, few-served, served-page}
use Rattle.ff_core.proofs.MissedCalls.{missed-call}
use Rattle.ff_core.proofs.state.State.attempt.Goals as goal

pub serve-requires-clause-page : goal.serve-requires-clause-page
serve-requires-clause-page g c =
    served-page _ c.args.op.now _ _ c.access.new.self (rw (← c.self.view_is) at c.requires.sound)
    (rw (← c.self.view_is) at c.requires.asked) c.access.ensures

pub miss-requires-clause-sound : goal.miss-requires-clause-sound
miss-requires-clause-sound g c =
    (missed-call _ c.args.op.now _ c.in-Miss.page c.access.new.self (rw (← c.self.view_is) at c.requires.sound)
    (rw (← c.self.view_is) at c.requires.asked) c.in-Miss.ensures).sound

pub miss-requires-clause-missed : goal.miss-requires-clause-missed
miss-requires-clause-missed g c =
    (missed-call _ c.args.op.now _ c.in-Miss.page c.access.new.self (rw (← c.self.view_is) at c.requires.sound)
    (rw (← c.self.view_is) at c.requires.asked) c.in-Miss.ensures).missed

pub returns-in-Served : goal.returns-in-Served
returns-in-Served g c =
    rw (← c.self.view_is) (attempt-served _ _ _ c.access.new.self _ _ _ _ c.in-Served.reply c.in-Served.side c.serve.result
    c.len-position.ensures c.in-Served.ensures c.serve.ensures.turn c.serve.ensures.policy c.serve.ensures.core)

pub returns-in-Miss : goal.returns-in-Miss
returns-in-Miss g c =
    rw (← c.self.view_is) (attempt-missed _ _ _ c.access.new.self _ _ _ _ c.in-Miss.page c.miss.result c.len-position.ensures
    c.in-Miss.ensures c.miss.ensures)

pub access-requires-clause-range : goal.access-requires-clause-range
access-requires-clause-range g c =
    asked-range _ c.args.op.now (rw (← c.self.view_is) at c.requires.sound) (rw (← c.self.view_is) at c.requires.asked)

pub access-requires-clause-located : goal.access-requires-clause-located
access-requires-clause-located g c = rw (← c.self.view_is) at c.requires.sound.told.located

pub serve-requires-clause-spare : goal.serve-requires-clause-spare
serve-requires-clause-spare g c = rw (← c.self.view_is) at c.requires.spare

pub serve-requires-clause-time : goal.serve-requires-clause-time
serve-requires-clause-time g c = (rw (← c.self.view_is) at c.requires.sound).timed.not_past

pub serve-requires-clause-accesses : goal.serve-requires-clause-accesses
serve-requires-clause-accesses g c =
    few-accesses _ c.args.op.now _ _ c.access.new.self (rw (← c.self.view_is) at c.requires.sound)
    (rw (← c.self.view_is) at c.requires.spare) c.access.ensures

pub serve-requires-clause-hits : goal.serve-requires-clause-hits
serve-requires-clause-hits g c =
    few-hits _ c.args.op.now _ _ c.access.new.self (rw (← c.self.view_is) at c.requires.sound)
    (rw (← c.self.view_is) at c.requires.spare) c.access.ensures

pub serve-requires-clause-few : goal.serve-requires-clause-few
serve-requires-clause-few g c = few-served _ (rw (← c.self.view_is) at c.requires.sound) (rw (← c.self.view_is) at c.requires.spare)

pub miss-requires-clause-on : goal.miss-requires-clause-on
miss-requires-clause-on g c =
    ap (λ (s : PageStoreView). s.world.flash.on) c.access.ensures.store ∙ (rw (← c.self.view_is) at c.requires.on)

pub miss-requires-clause-spare : goal.miss-requires-clause-spare
miss-requires-clause-spare g c = rw (← c.self.view_is) at c.requires.spare

pub miss-requires-clause-time : goal.miss-requires-clause-time
miss-requires-clause-time g c =
    let sound = rw (← c.self.view_is) at c.requires.sound in
    (refusal-none _ _ c.args.op.now sound.timed.not_past (rw (← c.self.view_is) at c.requires.asked)).time
