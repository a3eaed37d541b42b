use Rattle.std.proofs.Common.{ap, refl, subst, ◌≡◌, ◌∙◌}
use Rattle.ff_core.specs.Core.{CoreView}
use Rattle.ff_core.specs.Hierarchy.{HierarchyView}
use Rattle.ff_core.specs.Losing.{IsPoweredDown}
use Rattle.ff_core.proofs.Losing.{lost_of, lost_sound}
use Rattle.ff_core.proofs.PoweredDown.{flash_off}
use Rattle.ff_core.proofs.core_state.losing.lose.Goals as goal

pub invariant_of-result : goal.invariant_of-result
invariant_of-result g c =
    let counts = rw (← c.state.view_is) at c.counts-counts.ensures in
    let kept = rw c.len-entries.ensures at c.lose_power-kept.ensures.kept in
    rw (counts, kept) (lost_sound _ c.args.arrive (rw (← c.state.view_is) at c.requires.sound)
    (rw (← c.state.view_is) at c.requires.device))

pub returns-clause-base : goal.returns-clause-base
returns-clause-base g c = ap (λ (v : CoreView g.row.T.Denot g.row.E.Denot). v.opening.base) c.state.view_is

pub returns-clause-account : goal.returns-clause-account
returns-clause-account g c =
    let counts = rw (← c.state.view_is) at c.counts-counts.ensures in
    let kept = rw c.len-entries.ensures at c.lose_power-kept.ensures.kept in
    rw (← c.state.view_is) (rw (counts, kept) refl)

pub returns-clause-flash : goal.returns-clause-flash
returns-clause-flash g c =
    let after : HierarchyView g.row.T.Denot g.row.E.Denot = c.lose_power-kept.new.self in
    let down = subst (λ (v : CoreView g.row.T.Denot g.row.E.Denot). IsPoweredDown c.args.arrive v.hierarchy.device after.device)
    c.state.view_is c.lose_power-kept.ensures.down in
    c.into_left-left.ensures.flash ∙ flash_off c.args.arrive c.args.state.hierarchy.device after.device down

pub returns-clause-tuner : goal.returns-clause-tuner
returns-clause-tuner g c =
    c.into_left-left.ensures.tuner
    ∙ ap (λ (h : HierarchyView g.row.T.Denot g.row.E.Denot). h.policy.tuner) c.lose_power-kept.ensures.rest
    ∙ ap (λ (v : CoreView g.row.T.Denot g.row.E.Denot). v.hierarchy.policy.tuner) c.state.view_is

pub returns-clause-picker : goal.returns-clause-picker
returns-clause-picker g c =
    c.into_left-left.ensures.picker
    ∙ ap (λ (h : HierarchyView g.row.T.Denot g.row.E.Denot). h.evictor.picker) c.lose_power-kept.ensures.rest
    ∙ ap (λ (v : CoreView g.row.T.Denot g.row.E.Denot). v.hierarchy.evictor.picker) c.state.view_is

pub returns-clause-lost : goal.returns-clause-lost
returns-clause-lost g c =
    let after : HierarchyView g.row.T.Denot g.row.E.Denot = c.lose_power-kept.new.self in
    let down = subst (λ (v : CoreView g.row.T.Denot g.row.E.Denot). IsPoweredDown c.args.arrive v.hierarchy.device after.device)
    c.state.view_is c.lose_power-kept.ensures.down in
    let rest = subst (λ (v : CoreView g.row.T.Denot g.row.E.Denot). after ≡ record v.hierarchy { device = after.device })
    c.state.view_is c.lose_power-kept.ensures.rest in
    lost_of c.args.state c.args.arrive after _ _ _ c.requires.sound c.requires.memory c.requires.device down rest
    (returns-clause-account g c) c.into_left-left.ensures.nv c.into_left-left.ensures.flash
