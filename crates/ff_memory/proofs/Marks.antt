-- The facts stay where the marks of one page change, and it is home where it has a mark.
use Rattle.std.proofs.Common.{◌≡◌, ◌≢◌, ◌-◌, ◌^◌, ℕ, Bool, true, false, Option, None, Some, inl, inr, length, length-set, refl, ap, arith, ◌∙◌}
use Rattle.std.specs.Prelude.{bit_and, is_none, slice_set}
use Rattle.std.specs.Int.Bits.{and_zero_l}
use Rattle.std.proofs.lemmas.Bool.{cases_eq, cases_lt}
use Rattle.std.proofs.lemmas.List.{get_or-set_other, get_or-set_same, get_or_past}
use Rattle.ff_lines.specs.DeviceState.{DeviceState}
use Rattle.ff_memory.specs.LineBytes.{frame_of_page, is_home}
use Rattle.ff_memory.specs.Located.{IsLocated}
use Rattle.ff_memory.specs.Memory.{MemoryView, entry_at, home_at, marks_set}
use Rattle.ff_table.specs.Table.{TableView, marked_to, marks_of, with_marks}

no-frame : (frame : Option ℕ) → is_none frame ≡ true → frame ≡ None
no-frame None is = refl
no-frame (Some frame) is = absurd (cc)

-- a page that is home has no frame
pub home-frame : (m : MemoryView) (page : ℕ) → is_home m page ≡ true → frame_of_page (home_at m page) (entry_at m page) ≡ None
home-frame m page is = no-frame (frame_of_page (home_at m page) (entry_at m page)) is

pub located-marks : (m : MemoryView) (d : DeviceState) (page lines : ℕ) (on : Bool)
    → (marks_of (with_marks page lines on m.table) page ≢ 0 → frame_of_page (home_at m page) (entry_at m page) ≡ None)
    → IsLocated m d → IsLocated (marks_set page lines on m) d
located-marks m d page lines on home located = record {
  sites = located.sites;
  used = located.used;
  pins = located.pins;
  accounts = record {
    dirty_born = located.accounts.dirty_born;
    written_born = located.accounts.written_born;
    few_born = located.accounts.few_born;
    room = located.accounts.room;
    pages = located.accounts.pages;
    marked_home = λ q marked. elim (cases_eq q page) [
      | inl same ↦ rw same (home (rw same at marked))
      | inr other ↦
          let stays = get_or-set_other m.table.marks page q (marked_to (marks_of m.table page) lines on) 0 other in
          located.accounts.marked_home q (λ none. marked (stays ∙ none))
    ];
  };
}

-- a page that has a mark after some were cleared had one before
pub mark-stood : (table : TableView) (page lines : ℕ) → marks_of (with_marks page lines false table) page ≢ 0 → marks_of table page ≢ 0
mark-stood table page lines marked none =
    let rest = marked_to (marks_of table page) lines false in
    let empty : rest ≡ 0 = ap (λ (mask : ℕ). bit_and mask (2 ^ 64 - 1 - lines)) none ∙ and_zero_l (2 ^ 64 - 1 - lines) in
    elim (cases_lt page (length table.marks)) [
      | inl within ↦ marked (get_or-set_same table.marks page rest 0 within ∙ empty)
      | inr past ↦
          let size = length-set table.marks page rest in
          marked (get_or_past (slice_set table.marks page rest) page 0 (omega (arith, size, past)))
    ]
