use Rattle.std.proofs.Common.{◌∙◌, List, ℕ, ap, ap₂, subst, sym}
use Rattle.ff_flash.specs.Plans.{Planned}
use Rattle.ff_settings.specs.Bounds.{IsSettingsSound}
use Rattle.ff_settings.specs.Given.{as_cuts, given_view}
use Rattle.ff_settings.specs.Settings.{SettingsView}
use Rattle.ff_settings.specs.declared.cuts.WideCut.{WideCut}
use Rattle.ff_settings.proofs.Within.{arrive-fits, sound}
use Rattle.ff_settings.proofs.reading.settings_from.Goals as goal

pub returns-in-Ok-clause-ok : goal.returns-in-Ok-clause-ok
returns-in-Ok-clause-ok c =
    let plan_with : List WideCut → Planned = λ cuts. record { fail = c.args.given.fail.items; cuts = as_cuts cuts } in
    let settings_with : Planned → ℕ → SettingsView = λ plan arrive. record {
      geometry = c.args.given.geometry;
      plan = plan;
      power_event = c.args.given.power_event;
      power_arrive = arrive;
    } in
    ap₂ settings_with (c.in-Ok.ensures ∙ ap plan_with c.deref.ensures.value)
    (c.short.ensures ∙ arrive-fits (given_view c.args.given) c.requires)

pub returns-in-Ok-clause-fit : goal.returns-in-Ok-clause-fit
returns-in-Ok-clause-fit c =
    subst (λ (s : SettingsView). IsSettingsSound s) (sym (returns-in-Ok-clause-ok c)) (sound (given_view c.args.given) c.requires)
