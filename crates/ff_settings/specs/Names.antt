-- The settings, and how they are written.
use Rattle.std.specs.Prelude.{ℕ, Bool, List, [], ◌∷◌, ◌++◌, codes, if◌then◌else◌}
use Rattle.ff_base.specs.declared.limits.LimitName.{LimitName}
use Rattle.ff_base.specs.declared.limits.LimitName.TheVariants as limit
use Rattle.ff_settings.specs.declared.names.SettingName.{SettingName}
use Rattle.ff_settings.specs.declared.names.SettingName.TheVariants as name

-- the name as it is written
abbrev pub text_of : SettingName → List ℕ
text_of name.Blocks = codes "blocks"
text_of name.PerBlock = codes "per_block"
text_of name.Pages = codes "pages"
text_of name.Sets = codes "sets"
text_of name.Ways = codes "ways"
text_of name.Frames = codes "frames"
text_of name.Plb = codes "plb"
text_of name.Window = codes "window"
text_of name.Low = codes "low"
text_of name.FlashPages = codes "flash_pages"
text_of name.CacheWays = codes "cache_ways"
text_of name.Fail = codes "fail"
text_of name.Cut = codes "cut"
text_of name.PowerEvent = codes "power_event"
text_of name.PowerArrive = codes "power_arrive"

-- the settings behind those of the geometry
abbrev pub later_names : List SettingName
later_names = name.Fail ∷ name.Cut ∷ name.PowerEvent ∷ name.PowerArrive ∷ []

-- every setting, in the order in which kinds and bounds are looked at
abbrev pub setting_names : List SettingName
setting_names =
    name.Blocks ∷ name.PerBlock ∷ name.Pages ∷ name.Sets ∷ name.Ways ∷ name.Frames ∷ name.Plb
    ∷ name.Window ∷ name.Low ∷ name.FlashPages ∷ name.CacheWays ∷ later_names

-- the settings that are keys of every document
abbrev pub common_keys : List SettingName
common_keys =
    name.Blocks ∷ name.PerBlock ∷ name.Pages ∷ name.Sets ∷ name.Ways ∷ name.Frames ∷ name.Plb
    ∷ name.Window ∷ name.Low ∷ name.Fail ∷ name.Cut ∷ []

-- the settings that are keys of a document: the two of the power are keys for threads alone
abbrev pub key_names : Bool → List SettingName
key_names threads =
    if threads then common_keys ++ (name.PowerEvent ∷ name.PowerArrive ∷ []) else common_keys

-- the keys of a cut
abbrev pub cut_keys : List (List ℕ)
cut_keys = codes "at" ∷ codes "mask" ∷ codes "arrive" ∷ []

-- the setting of a geometry's number
abbrev pub name_of : LimitName → SettingName
name_of limit.Blocks = name.Blocks
name_of limit.PerBlock = name.PerBlock
name_of limit.Pages = name.Pages
name_of limit.Sets = name.Sets
name_of limit.Ways = name.Ways
name_of limit.Frames = name.Frames
name_of limit.Plb = name.Plb
name_of limit.Window = name.Window
name_of limit.Low = name.Low
name_of limit.FlashPages = name.FlashPages
name_of limit.CacheWays = name.CacheWays
