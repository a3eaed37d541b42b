-- The probes that are looked at are those of the scan.
use Rattle.std.proofs.Common.{sym, subst, ◌∙◌}
use Rattle.ff_space.specs.Choices.{NoBlock}
use Rattle.ff_scan.specs.Covered.{IsCoveredBlock}
use Rattle.ff_scan.specs.Found.{IsScan}
use Rattle.ff_scan.specs.Probes.{AreProbes}
use Rattle.ff_scan.specs.Scan.{ScanView}
use Rattle.ff_scan.proofs.scan.Scan.finish.Goals as goal

pub find-spare-requires-clause-limits : goal.find-spare-requires-clause-limits
find-spare-requires-clause-limits c = c.self.invariant.limits

pub find-spare-requires-clause-probes : goal.find-spare-requires-clause-probes
find-spare-requires-clause-probes c =
    rw c.deref.ensures.value
    (subst (λ (s : ScanView). AreProbes s.geometry s.probes) (sym c.self.view_is) c.requires.probes)

pub find-spare-requires-clause-covered : goal.find-spare-requires-clause-covered
find-spare-requires-clause-covered c =
    rw c.deref.ensures.value
    (subst (λ (s : ScanView). NoBlock (IsCoveredBlock s.geometry s.probes) → ⊥) (sym c.self.view_is) c.requires.covered)

pub find-spare-requires-clause-tops : goal.find-spare-requires-clause-tops
find-spare-requires-clause-tops c = c.deref_mut.ensures.value ∙ c.self.invariant.tops

pub find-spare-requires-clause-space : goal.find-spare-requires-clause-space
find-spare-requires-clause-space c = c.self.invariant.space

pub find-spare-requires-clause-places : goal.find-spare-requires-clause-places
find-spare-requires-clause-places c = c.self.invariant.places

pub returns : goal.returns
returns c =
    let found = rw c.deref.ensures.value at c.find-spare.ensures in
    let find = c.find-spare in
    subst (λ (s : ScanView). IsScan s.geometry s.probes find.result.0 find.new.space find.new.places)
    c.self.view_is found
