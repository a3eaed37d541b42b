use Rattle.std.proofs.Common.{◌≡◌, ◌∙◌, length, ap}
use Rattle.std.proofs.lemmas.List.{take_at}
use Rattle.ff_rrip.proofs.ways.Ways.victim.Goals as goal

pub victim-requires : goal.victim-requires
victim-requires c = rw c.deref_mut.ensures.value c.self.invariant

pub invariant_of-self : goal.invariant_of-self
invariant_of-self c =
    let whole : length c.victim.new.values ≡ c.self.inside.values.len = c.victim.auto.values ∙ c.deref_mut.ensures.len in
    rw (take_at c.victim.new.values _ c.self.inside.values.len whole) c.victim.ensures.kept

pub returns-clause-found : goal.returns-clause-found
returns-clause-found c =
    let whole : length c.victim.new.values ≡ c.self.inside.values.len = c.victim.auto.values ∙ c.deref_mut.ensures.len in
    rw (take_at c.victim.new.values _ c.self.inside.values.len whole, ← c.self.view_is)
    (rw c.deref_mut.ensures.value at c.victim.ensures.found)

pub returns-clause-none : goal.returns-clause-none
returns-clause-none c = rw (← c.self.view_is) (rw c.deref_mut.ensures.value at c.victim.ensures.none)

pub returns-clause-same : goal.returns-clause-same
returns-clause-same c =
    let whole : length c.victim.new.values ≡ c.self.inside.values.len = c.victim.auto.values ∙ c.deref_mut.ensures.len in
    rw (take_at c.victim.new.values _ c.self.inside.values.len whole, ← c.self.view_is)
    (rw c.deref_mut.ensures.value at c.victim.ensures.same)

pub returns-clause-ways : goal.returns-clause-ways
returns-clause-ways c =
    let whole : length c.victim.new.values ≡ c.self.inside.values.len = c.victim.auto.values ∙ c.deref_mut.ensures.len in
    rw (take_at c.victim.new.values _ c.self.inside.values.len whole, ← c.self.view_is)
    (c.victim.auto.values ∙ ap length c.deref_mut.ensures.value)
