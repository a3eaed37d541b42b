-- If every byte is flat over a history and a store was made, every byte is flat over the history with its entry.
use Rattle.std.specs.Prelude.{nat_le, slice_get, unwrap_or}
use Rattle.std.proofs.Common.{◌≡◌, ◌≢◌, ℕ, ◌+◌, ◌-◌, ◌*◌, ◌/◌, ◌%◌, ◌≤◌, true, false, cond, List, [], ◌∷◌, ◌++◌, length, get_or, None, inl, inr, refl, sym, ap, ◌∙◌, arith}
use Rattle.std.proofs.lemmas.Bool.{cases_eq, cases_lt, le-leb, lt-leb}
use Rattle.std.proofs.lemmas.Option.{slice_get_past}
use Rattle.ff_lines.specs.DeviceState.{DeviceState}
use Rattle.ff_lines.specs.Overlay.{overlaid}
use Rattle.ff_lines.proofs.Overlaid.{byte-overlaid}
use Rattle.ff_model.specs.Flat.{byte_after, IsFlat}
use Rattle.ff_model.specs.Image.{Content}
use Rattle.ff_model.specs.declared.history.Entry.{Entry}
use Rattle.ff_model.specs.declared.op.Op.TheVariants.{Store}
use Rattle.ff_model.specs.declared.op.Reply.TheVariants.{Done}
use Rattle.ff_model.proofs.Appended.{flat-append}
use Rattle.ff_memory.specs.Memory.{MemoryView}
use Rattle.ff_memory.specs.LineBytes.{byte_of, line_in_page, page_of, line_bytes, offset_in_line, SameLineBytes}
use Rattle.ff_memory.specs.Stores.{IsStored}

-- the parts of an address
parts : (a : ℕ) → a ≡ 4096 * (a / 4096) + 64 * (a % 4096 / 64) + a % 64
parts a = omega arith

-- a byte of the line over which a piece was laid
laid-byte : (line : List ℕ) (from to : ℕ) (piece : List ℕ) (at a : ℕ) → from + length piece ≤ length line → a + from ≡ at + to
    → get_or (overlaid line from piece) to 0
    ≡ unwrap_or (cond (nat_le at a) (slice_get piece (a - at)) None) (get_or line to 0)
laid-byte line from to piece at a fits same = elim (cases_lt to from) [
  | inl before ↦
      let first : nat_le from to ≡ false = lt-leb from to before in
      let second : nat_le at a ≡ false = lt-leb at a (omega arith) in
      byte-overlaid line from piece to fits ∙ rw (first, second) refl
  | inr from_on ↦
      let first : nat_le from to ≡ true = le-leb from to from_on in
      let second : nat_le at a ≡ true = le-leb at a (omega arith) in
      let offset : to - from ≡ a - at = omega arith in
      byte-overlaid line from piece to fits ∙ rw (first, second, offset) refl
]

-- an address that the piece doesn't cover
uncovered : (piece : List ℕ) (at a byte : ℕ) → (at ≤ a → at + length piece ≤ a)
    → byte ≡ unwrap_or (cond (nat_le at a) (slice_get piece (a - at)) None) byte
uncovered piece at a byte past = elim (cases_lt a at) [
  | inl before ↦ let test : nat_le at a ≡ false = lt-leb at a before in rw test refl
  | inr from_on ↦
      let test : nat_le at a ≡ true = le-leb at a from_on in
      let behind = past from_on in
      let none : slice_get piece (a - at) ≡ None = slice_get_past piece (a - at) (omega arith) in
      rw (test, none) refl
]

-- an address in another line isn't covered
other-line : (at a size : ℕ) → at % 64 + size ≤ 64 → (a / 4096 ≡ at / 4096 → a % 4096 / 64 ≢ at % 4096 / 64) → at ≤ a → at + size ≤ a
other-line at a size fits apart order = elim (cases_lt a (at + size)) [
  | inr past ↦ past
  | inl within ↦
      let one = parts at in
      let other = parts a in
      let page : a / 4096 ≡ at / 4096 = omega arith in
      let line : a % 4096 / 64 ≡ at % 4096 / 64 = omega arith in
      absurd (apart page line)
]

-- the bytes of the lines are those of the store's piece, where it covers them, and else as before
pub byte-stored : (m : MemoryView) (d : DeviceState) (m' : MemoryView) (d' : DeviceState) (at : ℕ) (piece : List ℕ)
    → length (line_bytes m d (page_of at) (line_in_page at)) ≡ 64 → at % 64 + length piece ≤ 64
    → IsStored (page_of at) (line_in_page at) (offset_in_line at) piece m d m' d'
    → (a : ℕ) → byte_of m' d' a ≡ byte_after a (Store at piece) Done (byte_of m d a)
byte-stored m d m' d' at piece size fits is a =
    let other : (page_of a ≡ page_of at → line_in_page a ≢ line_in_page at) → byte_of m' d' a ≡ byte_after a (Store at piece) Done (byte_of m d a) =
    λ apart.
    let same = is.others (page_of a) (line_in_page a) (omega arith) apart in
    ap (λ (bytes : List ℕ). get_or bytes (offset_in_line a) 0) same
    ∙ uncovered piece at a (byte_of m d a) (other-line at a (length piece) fits apart) in
    elim (cases_eq (page_of a) (page_of at)) [
      | inr apart ↦ other (λ page. absurd (apart page))
      | inl page ↦ elim (cases_eq (line_in_page a) (line_in_page at)) [
        | inr apart ↦ other (λ same. apart)
        | inl line ↦
            let one = parts at in
            let two = parts a in
            let before : line_bytes m d (page_of a) (line_in_page a) ≡ line_bytes m d (page_of at) (line_in_page at) =
            ap (λ (q : ℕ). line_bytes m d q (line_in_page a)) page ∙ ap (λ (j : ℕ). line_bytes m d (page_of at) j) line in
            let after : line_bytes m' d' (page_of a) (line_in_page a) ≡ line_bytes m' d' (page_of at) (line_in_page at) =
            ap (λ (q : ℕ). line_bytes m' d' q (line_in_page a)) page ∙ ap (λ (j : ℕ). line_bytes m' d' (page_of at) j) line in
            let aligned : a + at % 64 ≡ at + a % 64 = omega arith in
            let room : at % 64 + length piece ≤ length (line_bytes m d (page_of at) (line_in_page at)) = omega arith in
            ap (λ (bytes : List ℕ). get_or bytes (offset_in_line a) 0) (after ∙ is.here)
            ∙ laid-byte (line_bytes m d (page_of at) (line_in_page at)) (at % 64) (a % 64) piece at a room aligned
            ∙ ap (λ (bytes : List ℕ). unwrap_or (cond (nat_le at a) (slice_get piece (a - at)) None) (get_or bytes (a % 64) 0)) (sym before)
      ]
    ]

-- every byte is flat over the history with the store's entry
pub flat-stored : (base : Content) (before : List Entry) (entry : Entry) (pages : ℕ) (m : MemoryView) (d : DeviceState) (m' : MemoryView)
    (d' : DeviceState) (at : ℕ) (piece : List ℕ) → length (line_bytes m d (page_of at) (line_in_page at)) ≡ 64 → at % 64 + length piece ≤ 64
    → entry.op ≡ Store at piece → entry.reply ≡ Done → IsStored (page_of at) (line_in_page at) (offset_in_line at) piece m d m' d'
    → IsFlat base before pages (byte_of m d) → IsFlat base (before ++ entry ∷ []) pages (byte_of m' d')
flat-stored base before entry pages m d m' d' at piece size fits op reply is flat =
    flat-append base before entry pages (byte_of m d) (byte_of m' d') flat
    (λ a within. rw (op, reply) (byte-stored m d m' d' at piece size fits is a))

-- no byte changes where no line does
pub byte-same : (m : MemoryView) (d : DeviceState) (m' : MemoryView) (d' : DeviceState) → SameLineBytes m d m' d' → (a : ℕ)
    → byte_of m' d' a ≡ byte_of m d a
byte-same m d m' d' same a =
    ap (λ (bytes : List ℕ). get_or bytes (offset_in_line a) 0) (same (page_of a) (line_in_page a) (omega arith))
