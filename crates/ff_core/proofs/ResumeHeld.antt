-- The pages that an image of mounted parts holds.
use Rattle.std.specs.Prelude.{if◌then◌else◌, is_some}
use Rattle.std.specs.List.{range_with_len}
use Rattle.std.proofs.Common.{◌≡◌, ℕ, Bool, true, false, List, length, count_by, get_or, Option, Some, None, inl, inr, refl, sym, ap, ◌∙◌}
use Rattle.std.proofs.Math.ListN.{get_or-map as get_or-map_all}
use Rattle.std.proofs.lemmas.Bool.{cases_lt, le-ltb, lt-ltb}
use Rattle.std.proofs.lemmas.List.{length-map}
use Rattle.std.proofs.lemmas.List.FromFn.{length-range_with_len}
use Rattle.std.proofs.lemmas.Option.{unwrap_or-slice_get}
use Rattle.ff_base.specs.declared.geometry.Geometry.{Geometry}
use Rattle.ff_cache.specs.Nv.{NvView}
use Rattle.ff_flash.specs.Cells.{Cell}
use Rattle.ff_flash.specs.FlashState.{FlashState}
use Rattle.ff_lines.specs.PageSets.{count_below}
use Rattle.ff_lines.proofs.PageCounts.{count_below-same}
use Rattle.ff_memory.proofs.Rooms.{count_below-list}
use Rattle.ff_model.specs.Image.{Content, held_page}
use Rattle.ff_mount.proofs.Contents.{content_page, unheld_past}
use Rattle.ff_mount.specs.Held.{held_content, image_page, is_held}
use Rattle.ff_mount.specs.Sound.{AreSound}
use Rattle.ff_core.specs.Resume.{pages_held}

-- an image has as many pages as it was made for
pub content-size : (pages : ℕ) (nv : NvView) (cells : List Cell) → length (held_content pages nv cells).pages ≡ pages
unfolding held_content
content-size pages nv cells =
    length-map (range_with_len 0 pages) (image_page nv.slots cells) ∙ length-range_with_len 0 pages

pub content-marks : (pages : ℕ) (nv : NvView) (cells : List Cell) → (held_content pages nv cells).marks ≡ nv.marks
unfolding held_content
content-marks pages nv cells = refl

-- which page an image holds, by the list of all
pub held-each : (base : Content) (page : ℕ) → get_or (pages_held base) page false ≡ is_some (held_page base page)
held-each base page =
    get_or-map_all (λ (held : Option (List ℕ)). is_some held) base.pages page None
    ∙ ap (λ (held : Option (List ℕ)). is_some held) (sym (unwrap_or-slice_get base.pages page None))

image-some : (holds : Bool) (bytes : List ℕ) → is_some (if holds then Some bytes else None) ≡ holds
image-some true bytes = refl
image-some false bytes = refl

-- a page of the image is held by the battery or the flash
pub content-holds : (g : Geometry) (nv : NvView) (flash : FlashState) (page : ℕ) → AreSound g nv flash
    → is_some (held_page (held_content g.pages nv flash.cells) page) ≡ is_held nv.slots flash.cells page
content-holds g nv flash page sound =
    ap (λ (held : Option (List ℕ)). is_some held) (content_page g.pages nv flash.cells page)
    ∙ elim (cases_lt page g.pages) [
      | inl below ↦ rw (lt-ltb page g.pages below) (image-some (is_held nv.slots flash.cells page) _)
      | inr past ↦ rw (le-ltb page g.pages past) (sym (unheld_past g nv flash page sound past))
    ]

-- how many pages an image holds
pub held-count : (base : Content) (set : ℕ → Bool) → ((page : ℕ) → is_some (held_page base page) ≡ set page)
    → count_by (λ b. b) (pages_held base) ≡ count_below set (length base.pages)
held-count base set each =
    let bits : List Bool = pages_held base in
    sym (count_below-list bits)
    ∙ sym (count_below-same (λ page. get_or bits page false) set (length bits) (λ page. sym (held-each base page ∙ each page)))
    ∙ ap (λ n. count_below set n) (length-map base.pages (λ (held : Option (List ℕ)). is_some held))
