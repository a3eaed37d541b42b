-- The pages by their places: the inverse of the mappings.
use Rattle.std.specs.Prelude.{◌≡◌, List, slice_index_or, slice_set, Option, None, Some, option_map}
use Rattle.ff_base.specs.declared.numbers.PageNo.{PageNo}
use Rattle.ff_base.specs.declared.numbers.Ppn.{Ppn}
use Rattle.ff_map.specs.declared.places.Mapping.{Mapping}

-- the place of a page, in the list by page
abbrev pub listed_place : List (Option Mapping) → PageNo → Option Ppn
listed_place pages page = option_map (λ mapping. mapping.at) (slice_index_or pages page.0 None)

-- the owner of a place, in the list by place
abbrev pub listed_owner : List (Option PageNo) → Ppn → Option PageNo
listed_owner owners at = slice_index_or owners at.0 None

-- each of the two lists is the inverse of the other
pub record IsInverse (pages : List (Option Mapping)) (owners : List (Option PageNo)) : Type 0 where
  pub owned : (page : PageNo) (at : Ppn) → listed_place pages page ≡ Some at
      → listed_owner owners at ≡ Some page
  pub mapped : (page : PageNo) (at : Ppn) → listed_owner owners at ≡ Some page
      → listed_place pages page ≡ Some at

-- the owners without that of the place where a page was
abbrev pub released : Option Mapping → List (Option PageNo) → List (Option PageNo)
released None owners = owners
released (Some old) owners = slice_set owners old.at.0 None
