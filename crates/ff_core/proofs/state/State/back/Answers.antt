use Rattle.std.proofs.Common.{sym, ap, subst, Some, None, ◌∙◌}
use Rattle.std.proofs.Math.Arith.{lt_of_le-ne}
use Rattle.ff_core.specs.Choices.{IsChoice}
use Rattle.ff_core.specs.Core.{CoreView}
use Rattle.ff_core.specs.Hierarchy.{flash_under}
use Rattle.ff_core.proofs.BackEnds.{back_chosen, back_off, back_spent}
use Rattle.ff_core.proofs.state.State.back.Goals as goal

pub returns-then-not-is_on : goal.returns-then-not-is_on
returns-then-not-is_on g c =
    let off = c.if-not-is_on.ensures ∙ ap (λ (core : CoreView g.row.T.Denot g.row.E.Denot). (flash_under core.hierarchy).on) c.self.view_is in
    back_off g.E.Pick.score c.args.kind c.args.self.now (sym off)

pub returns-then-self-eq-LAST_EVENT : goal.returns-then-self-eq-LAST_EVENT
returns-then-self-eq-LAST_EVENT g c =
    let on = c.if-not-is_on.ensures ∙ ap (λ (core : CoreView g.row.T.Denot g.row.E.Denot). (flash_under core.hierarchy).on) c.self.view_is in
    let events = ap (λ (core : CoreView g.row.T.Denot g.row.E.Denot). core.events) c.self.view_is in
    back_spent g.E.Pick.score c.args.kind c.args.self.now c.rest.result c.rest.new.self (sym on)
    (sym events ∙ c.if-self-eq-LAST_EVENT.true) c.rest.ensures.back c.rest.ensures.core

pub act-requires-clause-choice : goal.act-requires-clause-choice
act-requires-clause-choice g c =
    subst (λ (core : CoreView g.row.T.Denot g.row.E.Denot). IsChoice g.E.Pick.score c.args.kind core.hierarchy (Some c.in-Some.action))
    c.self.view_is c.in-Some.ensures

pub returns-in-Some : goal.returns-in-Some
returns-in-Some g c =
    let on = c.if-not-is_on.ensures ∙ ap (λ (core : CoreView g.row.T.Denot g.row.E.Denot). (flash_under core.hierarchy).on) c.self.view_is in
    let events = ap (λ (core : CoreView g.row.T.Denot g.row.E.Denot). core.events) c.self.view_is in
    let choice =
    subst (λ (core : CoreView g.row.T.Denot g.row.E.Denot). IsChoice g.E.Pick.score c.args.kind core.hierarchy (Some c.in-Some.action))
    c.self.view_is c.in-Some.ensures in
    back_chosen (Some c.in-Some.action) g.E.Pick.score c.args.kind c.args.self.now c.act.result c.act.new.self (sym on)
    (λ last. c.if-self-eq-LAST_EVENT.false (events ∙ last)) choice c.act.ensures

pub returns-in-None : goal.returns-in-None
returns-in-None g c =
    let on = c.if-not-is_on.ensures ∙ ap (λ (core : CoreView g.row.T.Denot g.row.E.Denot). (flash_under core.hierarchy).on) c.self.view_is in
    let events = ap (λ (core : CoreView g.row.T.Denot g.row.E.Denot). core.events) c.self.view_is in
    let choice =
    subst (λ (core : CoreView g.row.T.Denot g.row.E.Denot). IsChoice g.E.Pick.score c.args.kind core.hierarchy None)
    c.self.view_is c.in-None.ensures in
    back_chosen None g.E.Pick.score c.args.kind c.args.self.now c.rest-in-None.result c.rest-in-None.new.self (sym on)
    (λ last. c.if-self-eq-LAST_EVENT.false (events ∙ last)) choice (c.rest-in-None.ensures.back, c.rest-in-None.ensures.core)

pub choice-requires-clause-counters : goal.choice-requires-clause-counters
choice-requires-clause-counters g c =
    let sound = rw (← c.self.view_is) at c.requires.sound in
    sound.sized.counters ∙ sym (sound.told.pages ∙ sound.sized.pages)

pub choice-requires-clause-hand : goal.choice-requires-clause-hand
choice-requires-clause-hand g c = (rw (← c.self.view_is) at c.requires.sound).sized.hand

pub act-requires-clause-time : goal.act-requires-clause-time
act-requires-clause-time g c =
    let events = ap (λ (core : CoreView g.row.T.Denot g.row.E.Denot). core.events) c.self.view_is in
    lt_of_le-ne c.requires.sound.timed.not_past (λ last. c.if-self-eq-LAST_EVENT.false (events ∙ last))

pub act-requires-clause-on : goal.act-requires-clause-on
act-requires-clause-on g c =
    sym (c.if-not-is_on.ensures ∙ ap (λ (core : CoreView g.row.T.Denot g.row.E.Denot). (flash_under core.hierarchy).on) c.self.view_is)
