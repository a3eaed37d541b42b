-- Which keys a document may have.
use Rattle.std.specs.Prelude.{ℕ, Bool, true, ◌&&◌, List, codes}
use Rattle.std.specs.List.{list_all, list_any}
use Rattle.std.specs.Str.{bytes_eq}
use Rattle.toml.specs.Data.{Data, table, Members, get_member}
use Rattle.ff_settings.specs.Names.{text_of, key_names, cut_keys}
use Rattle.ff_settings.specs.Values.{keys_in, items_in}

-- a key of the document
abbrev pub is_key : Bool → List ℕ → Bool
is_key threads key = list_any (λ name. bytes_eq (text_of name) key) (key_names threads)

-- a key of a cut
abbrev pub is_cut_key : List ℕ → Bool
is_cut_key key = list_any (λ known. bytes_eq known key) cut_keys

-- a value has no other keys than a cut's: where it is no table, it has none at all
abbrev pub has_cut_keys : Data → Bool
has_cut_keys (table members) = list_all is_cut_key (keys_in members)
has_cut_keys other = true

-- every key of the document and of each of its cuts is known
abbrev pub has_known_keys : Bool → Members → Bool
has_known_keys threads members =
    list_all (is_key threads) (keys_in members)
    && list_all has_cut_keys (items_in (get_member (codes "cut") members))
