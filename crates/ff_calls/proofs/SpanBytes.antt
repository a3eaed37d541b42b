-- The bytes of a span, taken from its line and taken by address.
use Rattle.std.proofs.Common.{◌≡◌, ◌≤◌, ◌<◌, ℕ, zero, suc, ◌+◌, ◌-◌, ◌*◌, ◌/◌, ◌%◌, List, ◌∷◌, length, take, drop, get_or, map, Option, Some, None, refl, sym, ap, ◌∙◌, arith}
use Rattle.std.specs.List.{range_with_len}
use Rattle.std.proofs.lemmas.List.{drop_more}
use Rattle.ff_base.proofs.PageLines.{length-line_of}
use Rattle.ff_frames.specs.Frames.{frame_at}
use Rattle.ff_lines.specs.DeviceState.{DeviceState, IsDevice}
use Rattle.ff_lines.proofs.DeviceLines.{length-line_at}
use Rattle.ff_memory.specs.Loads.{span_of}
use Rattle.ff_memory.specs.Memory.{IsMemorySound, MemoryView}
use Rattle.ff_memory.specs.LineBytes.{byte_of, line_from, line_in_page, page_of, line_bytes, serving_frame}
use Rattle.ff_model.specs.Legal.{span_bytes}

length-line_from : (m : MemoryView) (d : DeviceState) (page line : ℕ) (from : Option ℕ) → IsMemorySound m → IsDevice d → line < 64
    → length (line_from m.frames d page line from) ≡ 64
length-line_from m d page line None sound device low = length-line_at d page line device
length-line_from m d page line (Some frame) sound device low =
    length-line_of (frame_at m.frames frame).bytes line (sound.frames_sound.sized frame) low

-- each line has 64 bytes
pub length-line_bytes : (m : MemoryView) (d : DeviceState) (page line : ℕ) → IsMemorySound m → IsDevice d → line < 64
    → length (line_bytes m d page line) ≡ 64
length-line_bytes m d page line sound device low = length-line_from m d page line (serving_frame m page line) sound device low

-- a byte of a line, by its address
byte-here : (m : MemoryView) (d : DeviceState) (page line from at : ℕ) → line < 64 → from < 64
    → at ≡ 4096 * page + (64 * line + from) → byte_of m d at ≡ get_or (line_bytes m d page line) from 0
byte-here m d page line from at low few is =
    let on_page : at / 4096 ≡ page = omega arith in
    let on_line : at % 4096 / 64 ≡ line = omega arith in
    let offset : at % 64 ≡ from = omega arith in
    rw (on_page, on_line, offset) refl

span-line : (m : MemoryView) (d : DeviceState) (page line from at len : ℕ) → line < 64 → from + len ≤ 64
    → at ≡ 4096 * page + (64 * line + from) → length (line_bytes m d page line) ≡ 64
    → take len (drop from (line_bytes m d page line)) ≡ map (byte_of m d) (range_with_len at len)
span-line m d page line from at zero low fits is size = refl
span-line m d page line from at (suc len) low fits is size =
    let bytes : List ℕ = line_bytes m d page line in
    let later = span-line m d page line (from + 1) (at + 1) len low (omega arith) (omega arith) size in
    ap (λ (l : List ℕ). take (suc len) l) (drop_more bytes from 0 (omega arith))
    ∙ ap (λ (l : List ℕ). get_or bytes from 0 ∷ l) later
    ∙ ap (λ (b : ℕ). b ∷ map (byte_of m d) (range_with_len (at + 1) len))
    (sym (byte-here m d page line from at low (omega arith) is))

-- a span within a line has the bytes of its addresses
pub span_of-bytes : (m : MemoryView) (d : DeviceState) (at len : ℕ) → IsMemorySound m → IsDevice d → at % 64 + len ≤ 64
    → span_of m d at len ≡ span_bytes (byte_of m d) at len
span_of-bytes m d at len sound device fits =
    let size = length-line_bytes m d (page_of at) (line_in_page at) sound device (omega arith) in
    let count : at % 64 + len - at % 64 ≡ len = omega arith in
    ap (λ (n : ℕ). take n (drop (at % 64) (line_bytes m d (page_of at) (line_in_page at)))) count
    ∙ span-line m d (page_of at) (line_in_page at) (at % 64) at len (omega arith) fits (omega arith) size
