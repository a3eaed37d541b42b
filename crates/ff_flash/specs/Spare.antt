-- The spare of a page as it is written.
use Rattle.std.specs.Prelude.{ℕ, List, ◌++◌, replicate}
use Rattle.std.specs.Int.{to_be_bytes, w32, w64}
use Rattle.ff_flash.specs.declared.spare.Spare.{Spare}

-- the page, four zeros and the version, each most significant byte first
abbrev pub spare_text : Spare → List ℕ
spare_text spare = to_be_bytes w32 spare.page.0 ++ replicate 4 0 ++ to_be_bytes w64 spare.version
