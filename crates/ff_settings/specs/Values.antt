-- What the values of a document are.
use Rattle.std.specs.Prelude.{ℕ, ℤ, pos, negsuc, ◌-◌, ◌^◌, min, List, [], ◌∷◌, Option, Some, unwrap_or, option_map, option_and_then}
use Rattle.toml.specs.Data.{Data, array, Items, no_items, item, Members, no_members, member, as_integer}

-- the keys of members
abbrev pub keys_in : Members → List (List ℕ)
keys_in no_members = []
keys_in (member key value later) = key ∷ keys_in later

-- the values of an array
abbrev pub list_of : Items → List Data
list_of no_items = []
list_of (item value later) = value ∷ list_of later

-- the values of a value that is an array, and none of any other
abbrev pub items_in : Option Data → List Data
items_in (Some (array items)) = list_of items
items_in other = []

-- a whole number as one of 64 bits: a negative one counts as the greatest, which no bound allows
abbrev pub wide : ℤ → ℕ
wide (pos n) = n
wide (negsuc n) = 2 ^ 64 - 1

-- a number as one of 32 bits: a greater one counts as the greatest, which no geometry allows
abbrev pub short : ℕ → ℕ
short n = min n (2 ^ 32 - 1)

-- the whole number that a value is, if there is a value and it is one
abbrev pub whole_number_of : Option Data → Option ℕ
whole_number_of value = option_map wide (option_and_then as_integer value)

-- the same, and a default where there is none
abbrev pub number_or : ℕ → Option Data → ℕ
number_or default value = unwrap_or (whole_number_of value) default
