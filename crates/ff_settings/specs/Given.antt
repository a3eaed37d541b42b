-- The settings of a document before their bounds are looked at.
use Rattle.std.specs.Prelude.{List, map}
use Rattle.ff_flash.specs.declared.plan.CutAt.{CutAt}
use Rattle.ff_settings.specs.Settings.{SettingsView}
use Rattle.ff_settings.specs.Values.{short}
use Rattle.ff_settings.specs.declared.cuts.WideCut.{WideCut}
use Rattle.ff_settings.specs.declared.reading.Given.{Given}

-- a cut's three numbers
abbrev pub as_cut : WideCut → CutAt
as_cut cut = record { at = cut.at; mask = cut.mask; arrive = cut.arrive }

abbrev pub as_cuts : List WideCut → List CutAt
as_cuts cuts = map as_cut cuts

-- a cut's numbers as those of 32 bits
abbrev pub planned_cut : CutAt → CutAt
planned_cut cut = record { at = cut.at; mask = short cut.mask; arrive = short cut.arrive }

-- what a document gives, as settings
abbrev pub given_view : Given → SettingsView
given_view given = record {
  geometry = given.geometry;
  plan = record { fail = given.fail.items; cuts = as_cuts given.cuts.items };
  power_event = given.power_event;
  power_arrive = given.power_arrive;
}
