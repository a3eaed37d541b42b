-- The bytes of what is held, by address.
use Rattle.std.proofs.Common.{◌≡◌, ◌<◌, ◌≤◌, ◌+◌, ◌-◌, ◌*◌, ◌/◌, ◌%◌, ℕ, zero, Bool, true, false, List, drop, get_or, Option, None, Some, inl, inr, refl, sym, ap, ◌∙◌, arith}
use Rattle.std.specs.Prelude.{◌||◌, is_some, map, nat_lt, replicate, if◌then◌else◌}
use Rattle.std.specs.List.{range_with_len}
use Rattle.std.proofs.lemmas.Bool.{cases_lt, le-ltb, lt-ltb}
use Rattle.std.proofs.lemmas.List.{get_or-drop, get_or-replicate, get_or-take, get_or_past, length-map, length-replicate}
use Rattle.std.proofs.lemmas.List.FromFn.{get_or-map-range_with_len, length-range_with_len}
use Rattle.std.proofs.lemmas.Option.{unwrap_or-slice_get}
use Rattle.ff_base.specs.Page.{blank_page}
use Rattle.ff_base.specs.declared.geometry.Geometry.{Geometry}
use Rattle.ff_cache.specs.Nv.{NvView, NvWay}
use Rattle.ff_flash.specs.Cells.{Cell}
use Rattle.ff_flash.specs.FlashState.{FlashState}
use Rattle.ff_lines.specs.BlankLine.{line_or_blank}
use Rattle.ff_model.specs.Image.{byte_at, byte_in, held_page}
use Rattle.ff_mount.specs.Held.{best_of, held_bytes, held_content, image_page, is_dirty_way, is_held, way_bytes, way_of_page}
use Rattle.ff_mount.specs.Sound.{AreSound}
use Rattle.ff_store.proofs.Bests.{IsBest, best_is, sealed_found}
use Rattle.ff_store.specs.Best.{Version, bytes_or_zeros}

-- neither a best version nor a dirty way
unheld_by : (way : Option NvWay) (newest : Option Version)
    → ((w : NvWay) → way ≡ Some w → w.dirty ≡ false → w.bytes ≡ bytes_or_zeros newest)
    → (is_dirty_way way || is_some newest) ≡ false → way_bytes way (bytes_or_zeros newest) ≡ blank_page
unheld_by None None clean none = refl
unheld_by None (Some one) clean none = absurd (cc)
unheld_by (Some way) newest clean none = by way.dirty refl none where
  by : (dirty : Bool) → way.dirty ≡ dirty → (dirty || is_some newest) ≡ false → way.bytes ≡ blank_page
  by true is none = absurd (cc)
  by false is none = clean way refl is ∙ blank newest none where
    blank : (o : Option Version) → is_some o ≡ false → bytes_or_zeros o ≡ blank_page
    blank None none = refl
    blank (Some one) none = absurd (cc)

-- a page that isn't held reads as zeros
pub unheld_blank : (g : Geometry) (nv : NvView) (flash : FlashState) (page : ℕ) → AreSound g nv flash
    → is_held nv.slots flash.cells page ≡ false → held_bytes nv.slots flash.cells page ≡ blank_page
unheld_blank g nv flash page sound none =
    unheld_by (way_of_page nv.slots page) (best_of flash.cells page) (sound.clean page) none

past_by : (g : Geometry) (nv : NvView) (flash : FlashState) (page : ℕ) (way : Option NvWay) (newest : Option Version)
    → AreSound g nv flash → g.pages ≤ page → way_of_page nv.slots page ≡ way
    → IsBest flash.cells (record { 0 = page }) newest → (is_dirty_way way || is_some newest) ≡ false
past_by g nv flash page (Some way) newest sound past is best_now =
    let below = sound.ways.page page way is in absurd (omega arith)
past_by g nv flash page None (Some one) sound past is best_now =
    let below = sound.sealed_cells.page best_now.at one.bytes _ (sealed_found (record { 0 = page }) _ one best_now.is) in
    absurd (omega arith)
past_by g nv flash page None None sound past is best_now = refl

-- no page past the last is held
pub unheld_past : (g : Geometry) (nv : NvView) (flash : FlashState) (page : ℕ) → AreSound g nv flash → g.pages ≤ page
    → is_held nv.slots flash.cells page ≡ false
unheld_past g nv flash page sound past =
    past_by g nv flash page (way_of_page nv.slots page) (best_of flash.cells page) sound past refl
    (best_is flash.cells (record { 0 = page }))

-- what the content has of a page
pub content_page : (pages : ℕ) (nv : NvView) (cells : List Cell) (page : ℕ)
    → held_page (held_content pages nv cells) page
    ≡ (if nat_lt page pages then image_page nv.slots cells page else None)
unfolding held_content
content_page pages nv cells page =
    unwrap_or-slice_get (map (image_page nv.slots cells) (range_with_len 0 pages)) page None
    ∙ elim (cases_lt page pages) [
      | inl below ↦ rw (lt-ltb page pages below)
          (get_or-map-range_with_len (image_page nv.slots cells) 0 pages page page None below (omega arith))
      | inr past ↦ rw (le-ltb page pages past)
          (get_or_past (map (image_page nv.slots cells) (range_with_len 0 pages)) page None
          (let size = length-map (range_with_len 0 pages) (image_page nv.slots cells) in
          let numbers = length-range_with_len 0 pages in
          omega arith))
    ]

repeated : (n i : ℕ) → get_or (replicate n zero) i 0 ≡ 0
repeated n i = elim (cases_lt i n) [
  | inl within ↦ get_or-replicate n i zero 0 within
  | inr past ↦ get_or_past (replicate n zero) i 0 (let size = length-replicate {A = ℕ} n zero in omega arith)
]

blank_byte : (offset : ℕ) → get_or blank_page offset 0 ≡ 0
unfolding blank_page
blank_byte offset = repeated 4096 offset

page_byte : (held : Bool) (bytes : List ℕ) (offset : ℕ) → (held ≡ false → bytes ≡ blank_page)
    → byte_in (if held then Some bytes else None) offset ≡ get_or bytes offset 0
page_byte true bytes offset blank = refl
page_byte false bytes offset blank = sym (ap (λ (x : List ℕ). get_or x offset 0) (blank refl) ∙ blank_byte offset)

found_byte : (g : Geometry) (nv : NvView) (flash : FlashState) (page offset : ℕ) → AreSound g nv flash
    → byte_in (if nat_lt page g.pages then image_page nv.slots flash.cells page else None) offset
    ≡ get_or (held_bytes nv.slots flash.cells page) offset 0
found_byte g nv flash page offset sound =
    let blank = unheld_blank g nv flash page sound in
    let bytes = held_bytes nv.slots flash.cells page in
    elim (cases_lt page g.pages) [
      | inl below ↦ rw (lt-ltb page g.pages below)
          (page_byte (is_held nv.slots flash.cells page) bytes offset blank)
      | inr past ↦ rw (le-ltb page g.pages past)
          (sym (ap (λ (x : List ℕ). get_or x offset 0) (blank (unheld_past g nv flash page sound past)) ∙ blank_byte offset))
    ]

-- the byte at an address is that of what its page reads
pub content_byte : (g : Geometry) (nv : NvView) (flash : FlashState) (address : ℕ) → AreSound g nv flash
    → byte_at (held_content g.pages nv flash.cells) address
    ≡ get_or (held_bytes nv.slots flash.cells (address / 4096)) (address % 4096) 0
content_byte g nv flash address sound =
    ap (λ (held : Option (List ℕ)). byte_in held (address % 4096)) (content_page g.pages nv flash.cells (address / 4096))
    ∙ found_byte g nv flash (address / 4096) (address % 4096) sound

-- a byte of a page, by its line
line_byte : (page : List ℕ) (address : ℕ)
    → get_or (line_or_blank page (address % 4096 / 64)) (address % 64) 0 ≡ get_or page (address % 4096) 0
line_byte page address =
    let line : ℕ = address % 4096 / 64 in
    let within : line < 64 = omega arith in
    let inside : address % 64 < 64 * line + 64 - 64 * line = omega arith in
    let offset : 64 * line + address % 64 ≡ address % 4096 = omega arith in
    rw (lt-ltb line 64 within)
    (get_or-take (64 * line + 64 - 64 * line) (drop (64 * line) page) (address % 64) 0 inside
    ∙ get_or-drop (64 * line) page (address % 64) 0
    ∙ ap (λ k. get_or page k 0) offset)

-- and the byte of the line that its page reads
pub content_line : (g : Geometry) (nv : NvView) (flash : FlashState) (address : ℕ) → AreSound g nv flash
    → byte_at (held_content g.pages nv flash.cells) address
    ≡ get_or (line_or_blank (held_bytes nv.slots flash.cells (address / 4096)) (address % 4096 / 64)) (address % 64) 0
content_line g nv flash address sound =
    content_byte g nv flash address sound
    ∙ sym (line_byte (held_bytes nv.slots flash.cells (address / 4096)) address)
