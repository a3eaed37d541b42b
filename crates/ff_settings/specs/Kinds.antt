-- Which kind the value of a setting has.
use Rattle.std.specs.Prelude.{Bool, true, false, ◌&&◌, Option, Some, None, codes, is_some}
use Rattle.std.specs.List.{list_all}
use Rattle.toml.specs.Data.{Data, array, table, Members, get_member, as_integer}
use Rattle.ff_settings.specs.Names.{text_of, cut_keys}
use Rattle.ff_settings.specs.Values.{whole_number_of, items_in}
use Rattle.ff_settings.specs.declared.names.SettingName.{SettingName}
use Rattle.ff_settings.specs.declared.names.SettingName.TheVariants.{Fail, Cut}

-- a value is a whole number
abbrev pub is_whole_number : Data → Bool
is_whole_number value = is_some (as_integer value)

-- a value is a table with the three numbers of a cut
abbrev pub is_cut : Data → Bool
is_cut (table members) = list_all (λ key. is_some (whole_number_of (get_member key members))) cut_keys
is_cut other = false

-- a value is missing, or passes a test
abbrev pub may_be : (Data → Bool) → Option Data → Bool
may_be test None = true
may_be test (Some value) = test value

-- a value is an array
abbrev pub is_array : Data → Bool
is_array (array items) = true
is_array other = false

-- a value is missing, or an array of values that pass a test
abbrev pub may_be_list : (Data → Bool) → Option Data → Bool
may_be_list test value = may_be is_array value && list_all test (items_in value)

-- the value of a setting may be missing, or has its kind. The two products are no keys, so they have no value
abbrev pub has_kind : Members → SettingName → Bool
has_kind members Fail = may_be_list is_whole_number (get_member (codes "fail") members)
has_kind members Cut = may_be_list is_cut (get_member (codes "cut") members)
has_kind members name = may_be is_whole_number (get_member (text_of name) members)
