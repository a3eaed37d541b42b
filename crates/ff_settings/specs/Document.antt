-- What the settings of a document are, and why a document is refused.
use Rattle.std.specs.Prelude.{ℕ, ◌≡◌, Bool, not, List, map, Option, Some, None, find, IsUtf8, codes, Result, Ok, Err, if◌then◌else◌}
use Rattle.toml.specs.Data.{Data, table, Members, get_member}
use Rattle.toml.specs.Parse.{parse_document}
use Rattle.ff_base.specs.Geometry.{default_geometry}
use Rattle.ff_base.specs.declared.geometry.Geometry.{Geometry}
use Rattle.ff_flash.specs.Plans.{Planned, planned_of}
use Rattle.ff_flash.specs.declared.plan.CutAt.{CutAt}
use Rattle.ff_settings.specs.Bounds.{first_beyond}
use Rattle.ff_settings.specs.Keys.{has_known_keys}
use Rattle.ff_settings.specs.Kinds.{has_kind}
use Rattle.ff_settings.specs.Names.{setting_names}
use Rattle.ff_settings.specs.Settings.{SettingsView}
use Rattle.ff_settings.specs.Values.{whole_number_of, number_or, short, items_in}
use Rattle.ff_settings.specs.declared.given.Settings.{Settings}
use Rattle.ff_settings.specs.declared.given.BadSettings.{BadSettings}
use Rattle.ff_settings.specs.declared.given.BadSettings.TheVariants as bad
use Rattle.ff_settings.specs.declared.names.SettingName.{SettingName}

-- settings as contracts see them
abbrev pub settings_view : Settings → SettingsView
settings_view settings = record {
  geometry = settings.geometry;
  plan = planned_of settings.plan;
  power_event = settings.power_event;
  power_arrive = settings.power_arrive;
}

-- a number of the geometry: what is missing has its default
abbrev pub size_in : Members → List ℕ → ℕ → ℕ
size_in members key default = short (number_or default (get_member key members))

-- the sizes that a document gives
abbrev pub geometry_in : Members → Geometry
geometry_in members = record {
  blocks = size_in members (codes "blocks") default_geometry.blocks;
  per_block = size_in members (codes "per_block") default_geometry.per_block;
  pages = size_in members (codes "pages") default_geometry.pages;
  sets = size_in members (codes "sets") default_geometry.sets;
  ways = size_in members (codes "ways") default_geometry.ways;
  frames = size_in members (codes "frames") default_geometry.frames;
  plb = size_in members (codes "plb") default_geometry.plb;
  window = size_in members (codes "window") default_geometry.window;
  low = size_in members (codes "low") default_geometry.low;
}

-- a cut, from its three numbers
abbrev pub cut_in : Members → CutAt
cut_in members = record {
  at = number_or 0 (get_member (codes "at") members);
  mask = number_or 0 (get_member (codes "mask") members);
  arrive = number_or 0 (get_member (codes "arrive") members);
}

abbrev pub cut_of : Data → CutAt
cut_of (table members) = cut_in members
cut_of other = record { at = 0; mask = 0; arrive = 0 }

-- the plan that a document gives
abbrev pub plan_in : Members → Planned
plan_in members = record {
  fail = map (λ value. number_or 0 (Some value)) (items_in (get_member (codes "fail") members));
  cuts = map cut_of (items_in (get_member (codes "cut") members));
}

-- the settings that a document gives
abbrev pub settings_in : Members → SettingsView
settings_in members = record {
  geometry = geometry_in members;
  plan = plan_in members;
  power_event = whole_number_of (get_member (codes "power_event") members);
  power_arrive = number_or 0 (get_member (codes "power_arrive") members);
}

-- an answer, unless some setting speaks against it: then that one is told
abbrev pub unless : Option SettingName → (SettingName → BadSettings)
    → Result SettingsView BadSettings → Result SettingsView BadSettings
unless None refusal answer = answer
unless (Some name) refusal answer = Err (refusal name)

-- the first setting whose value has another kind
abbrev pub first_of_other_kind : Members → Option SettingName
first_of_other_kind members = find (λ name. not (has_kind members name)) setting_names

-- the settings, where all are within their bounds
abbrev pub answer_within : SettingsView → Result SettingsView BadSettings
answer_within settings = unless (first_beyond settings) (λ name. bad.Bound name) (Ok settings)

-- the same, where all have their kind
abbrev pub answer_of_kinds : Members → Result SettingsView BadSettings
answer_of_kinds members =
    unless (first_of_other_kind members) (λ name. bad.Kind name)
    (answer_within (settings_in members))

-- the answer to a document: keys are looked at first, then kinds, then bounds
abbrev pub answer_in : Bool → Members → Result SettingsView BadSettings
answer_in threads members =
    if has_known_keys threads members then answer_of_kinds members else Err bad.Key

-- the answer to a document, or to bytes that are none
abbrev pub answer_of : Bool → Option Members → Result SettingsView BadSettings
answer_of threads None = Err bad.Text
answer_of threads (Some members) = answer_in threads members

-- the bytes are a TOML document with these members, or none
abbrev pub IsReadAs : List ℕ → Option Members → Type 0
IsReadAs bytes (Some members) = IsUtf8 bytes × (parse_document bytes ≡ Some members)
IsReadAs bytes None = IsUtf8 bytes → parse_document bytes ≡ None

-- this is the answer to the bytes
pub record IsAnswer (bytes : List ℕ) (threads : Bool)
    (answer : Result SettingsView BadSettings) : Type 0 where
  pub document : Option Members
  pub read : IsReadAs bytes document
  pub answered : answer_of threads document ≡ answer
