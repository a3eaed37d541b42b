-- The bounds of settings.
use Rattle.std.specs.Prelude.{ℕ, ◌+◌, ◌^◌, ◌≤◌, Bool, true, not, ◌&&◌, nat_le, nat_lt, List, [], ◌∷◌, length, Option, find, IfSome}
use Rattle.std.specs.List.{list_all}
use Rattle.std.specs.Option.{option_map_or}
use Rattle.ff_base.specs.Count.{last_event}
use Rattle.ff_base.specs.Geometry.{IsWithinLimits, greatest_of, least_of, value_of}
use Rattle.ff_base.specs.declared.geometry.Geometry.{Geometry}
use Rattle.ff_base.specs.declared.limits.LimitName.{LimitName}
use Rattle.ff_base.specs.declared.limits.LimitName.TheVariants as limit
use Rattle.ff_flash.specs.Plans.{IsPlan, cut_numbers, is_listed}
use Rattle.ff_flash.specs.declared.plan.CutAt.{CutAt}
use Rattle.ff_settings.specs.Names.{setting_names}
use Rattle.ff_settings.specs.Settings.{SettingsView}
use Rattle.ff_settings.specs.declared.names.SettingName.{SettingName}
use Rattle.ff_settings.specs.declared.names.SettingName.TheVariants as name

-- the most operations that a plan lets fail, and the most that it cuts
abbrev pub most_fails : ℕ
most_fails = 64

abbrev pub most_cuts : ℕ
most_cuts = 16

-- a number of a geometry keeps its bounds
unfoldable pub is_kept : Geometry → LimitName → Bool
is_kept geometry name =
    nat_le (least_of name) (value_of geometry name)
    && nat_le (value_of geometry name) (greatest_of name)

-- the numbers rise, from the least on and at most to the last number of an event
abbrev pub rises_from : ℕ → List ℕ → Bool
rises_from least [] = true
rises_from least (number ∷ later) =
    nat_le least number && nat_le number last_event && rises_from (number + 1) later

-- these may be the operations that fail
abbrev pub are_fails : List ℕ → Bool
are_fails fail = nat_le (length fail) most_fails && rises_from 1 fail

-- a cut's mask and its count of posts are numbers of 32 bits
abbrev pub fits_in_cut : CutAt → Bool
fits_in_cut cut = nat_lt cut.mask (2 ^ 32) && nat_lt cut.arrive (2 ^ 32)

-- these may be the cuts beside the operations that fail
abbrev pub are_cuts_beside : List ℕ → List CutAt → Bool
are_cuts_beside fail cuts =
    nat_le (length cuts) most_cuts && rises_from 1 (cut_numbers cuts)
    && list_all (λ cut. not (is_listed cut.at fail)) cuts && list_all fits_in_cut cuts

-- an event number may be missing, or is at most the last one
abbrev pub event_fits : Option ℕ → Bool
event_fits event = option_map_or (λ number. nat_le number last_event) event true

-- a setting is within its bounds
abbrev pub is_within : SettingsView → SettingName → Bool
is_within settings name.Blocks = is_kept settings.geometry limit.Blocks
is_within settings name.PerBlock = is_kept settings.geometry limit.PerBlock
is_within settings name.Pages = is_kept settings.geometry limit.Pages
is_within settings name.Sets = is_kept settings.geometry limit.Sets
is_within settings name.Ways = is_kept settings.geometry limit.Ways
is_within settings name.Frames = is_kept settings.geometry limit.Frames
is_within settings name.Plb = is_kept settings.geometry limit.Plb
is_within settings name.Window = is_kept settings.geometry limit.Window
is_within settings name.Low = is_kept settings.geometry limit.Low
is_within settings name.FlashPages = is_kept settings.geometry limit.FlashPages
is_within settings name.CacheWays = is_kept settings.geometry limit.CacheWays
is_within settings name.Fail = are_fails settings.plan.fail
is_within settings name.Cut = are_cuts_beside settings.plan.fail settings.plan.cuts
is_within settings name.PowerEvent = event_fits settings.power_event
is_within settings name.PowerArrive = nat_lt settings.power_arrive (2 ^ 32)

-- the first setting that is out of its bounds
abbrev pub first_beyond : SettingsView → Option SettingName
first_beyond settings = find (λ name. not (is_within settings name)) setting_names

-- what settings keep for those who use them
pub record IsSettingsSound (settings : SettingsView) : Type 0 where
  pub geometry : IsWithinLimits settings.geometry
  pub plan : IsPlan settings.plan
  pub few_cuts : length settings.plan.cuts ≤ most_cuts
  pub power_event : IfSome settings.power_event (λ event. event ≤ last_event)
