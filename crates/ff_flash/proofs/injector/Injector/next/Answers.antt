use Rattle.std.proofs.Common.{◌∙◌}
use Rattle.ff_flash.proofs.NextInjected.{cut_by, cuts_next, passed_next}
use Rattle.ff_flash.proofs.injector.Injector.next.Goals as goal

pub invariant_of-self : goal.invariant_of-self
invariant_of-self c =
    let plan = c.self.invariant.sound.plan in
    let fails = rw c.deref.ensures.value at c.is_next-fails.ensures.listed in
    let cut = rw c.deref-2.ensures.value at c.next_cut-cut.ensures.cut in
    record {
      sound = record { plan = plan; cut = rw (c.power_left-self-inside.ensures, cut) (cut_by _) };
      fails = c.passed-self-inside.ensures ∙ passed_next _ _ _ _ plan.fail c.self.invariant.fails fails;
      cuts = c.passed-self-inside-2.ensures ∙ rw c.is_some.ensures (cuts_next _ _ _ _ plan.cuts c.self.invariant.cuts cut);
    }
