use Rattle.std.proofs.Common.{List, ap, ◌∙◌}
use Rattle.ff_flash.specs.Plans.{Planned}
use Rattle.ff_flash.specs.declared.plan.CutAt.{CutAt}
use Rattle.ff_settings.proofs.Lists.{planned-fits}
use Rattle.ff_settings.proofs.reading.plan.Goals as goal

pub returns-in-Ok : goal.returns-in-Ok
returns-in-Ok c =
    let plan_with : List CutAt → Planned = λ cuts. record { fail = c.args.fail.items; cuts = cuts } in
    ap plan_with (c.in-Ok.ensures ∙ planned-fits c.args.cuts.now c.requires)
