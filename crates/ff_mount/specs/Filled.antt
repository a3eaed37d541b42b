-- What is put into an image for a page.
use Rattle.std.specs.Prelude.{ℕ, if◌then◌else◌, List, Option, None, Some}
use Rattle.ff_base.specs.declared.numbers.PageNo.{PageNo}
use Rattle.ff_gc.specs.World.{World, page_bytes}
use Rattle.ff_model.specs.Image.{Content, with_held}
use Rattle.ff_store.specs.Pages.{is_mapped}

-- the image with these bytes for a page, if there are any
abbrev pub with_found : Content → ℕ → Option (List ℕ) → Content
with_found image page None = image
with_found image page (Some bytes) = with_held image page bytes

-- a page as a store has it
abbrev pub stored_page : World → PageNo → Option (List ℕ)
stored_page w page = if is_mapped w.places page then Some (page_bytes w page) else None

-- how many reads that takes
abbrev pub stored_reads : World → PageNo → ℕ
stored_reads w page = if is_mapped w.places page then 1 else 0
