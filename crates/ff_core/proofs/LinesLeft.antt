-- How many lines of a page in flight are left, and its steps, after each of them.
use Rattle.std.proofs.Common.{◌≡◌, ◌≢◌, ◌<◌, ◌≤◌, ◌||◌, ℕ, zero, suc, ◌+◌, ◌*◌, Bool, true, false, not, Some, None, inl, inr, refl, sym, ap, ◌∙◌, arith}
use Rattle.std.specs.Prelude.{if◌then◌else◌}
use Rattle.std.specs.Option.{is_some}
use Rattle.std.proofs.lemmas.Bool.{cases_eq, eq-eqb, ne_eqb}
use Rattle.ff_lines.specs.LineMask.{IsLeastClear, has_line, mask_with}
use Rattle.ff_lines.specs.PageSets.{count_below}
use Rattle.ff_lines.specs.declared.line_mask.LineMask.{LineMask}
use Rattle.ff_lines.proofs.MaskLines.{has_line-mask_with}
use Rattle.ff_lines.proofs.PageCounts.{count_below-most}
use Rattle.ff_plb.specs.Slot.{after_landing, after_lift}
use Rattle.ff_plb.specs.declared.slot.Flight.{Flight}
use Rattle.ff_plb.specs.declared.slot.Slot.{Slot}
use Rattle.ff_core.specs.EventsLeft.{clear_lines, entry_steps}

count_same : (f g : ℕ → Bool) (n : ℕ) → ((q : ℕ) → q < n → f q ≡ g q) → count_below f n ≡ count_below g n
count_same f g zero same = refl
count_same f g (suc n) same =
    rw (count_same f g n (λ q low. same q (omega arith)), same n (omega arith)) refl

-- a set without one of another's has one less
count_less : (f g : ℕ → Bool) (n line : ℕ) → line < n → f line ≡ false → g line ≡ true → ((q : ℕ) → q ≢ line → f q ≡ g q)
    → count_below f n + 1 ≡ count_below g n
count_less f g zero line within out in_it others = absurd (omega arith)
count_less f g (suc n) line within out in_it others = elim (cases_eq line n) [
  | inl last ↦
      let rest = count_same f g n (λ q low. others q (λ e. absurd (omega arith))) in
      let here : f n ≡ false = ap f (sym last) ∙ out in
      let there : g n ≡ true = ap g (sym last) ∙ in_it in
      rw (here, there, rest) (omega arith)
  | inr apart ↦
      let rest = count_less f g n line (omega arith) out in_it others in
      let here : f n ≡ g n = others n (λ e. apart (sym e)) in
      let count : ℕ = count_below g n in
      rw (here, sym rest) (omega arith)
]

-- a line is put into a mask
clear-with : (mask : LineMask) (line : ℕ) → line < 64 → has_line mask line ≡ false
    → clear_lines (mask_with mask line) + 1 ≡ clear_lines mask
unfolding clear_lines
clear-with mask line within clear =
    let here : has_line (mask_with mask line) line ≡ true =
    has_line-mask_with mask line line within ∙ ap (λ (b : Bool). b || has_line mask line) (eq-eqb line line refl) in
    count_less (λ q. not (has_line (mask_with mask line) q)) (λ q. not (has_line mask q)) 64 line within
    (ap not here) (ap not clear)
    (λ q apart. ap not (has_line-mask_with mask line q within
    ∙ ap (λ (b : Bool). b || has_line mask q) (ne_eqb q line apart)))

clear-most : (mask : LineMask) → clear_lines mask ≤ 64
unfolding clear_lines
clear-most mask = count_below-most (λ q. not (has_line mask q)) 64

most : (flies : Bool) (n : ℕ) → n ≤ 64 → (if flies then 2 else 1) + 2 * n ≤ 130
most true n few = omega arith
most false n few = omega arith

pub entry_most : (entry : Slot) → entry_steps entry ≤ 130
entry_most entry = most (is_some entry.flight) (clear_lines (after_landing entry).bits) (clear-most (after_landing entry).bits)

some : (flies : Bool) (n : ℕ) → 1 ≤ (if flies then 2 else 1) + 2 * n
some true n = omega arith
some false n = omega arith

pub entry_some : (entry : Slot) → 1 ≤ entry_steps entry
entry_some entry = some (is_some entry.flight) (clear_lines (after_landing entry).bits)

-- a flight ends
pub landed_fewer : (entry : Slot) (flight : Flight) → entry.flight ≡ Some flight
    → entry_steps (after_landing entry) < entry_steps entry
landed_fewer entry flight flying =
    let n : ℕ = clear_lines (mask_with entry.bits flight.line) in
    rw flying (omega arith)

-- a line is lifted
pub lifted_fewer : (entry : Slot) (flight : Flight) → entry.flight ≡ None → IsLeastClear entry.bits flight.line
    → entry_steps (after_lift flight entry) < entry_steps entry
lifted_fewer entry flight flying least =
    let one = clear-with entry.bits flight.line least.in_page least.clear in
    let n : ℕ = clear_lines (mask_with entry.bits flight.line) in
    rw (flying, sym one) (omega arith)
