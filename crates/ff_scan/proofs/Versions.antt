-- The next version.
use Rattle.std.proofs.Common.{◌≡◌, ◌≢◌, ◌+◌, ℕ, List, inl, inr, sym, ap, subst, ◌∙◌, arith}
use Rattle.std.specs.Prelude.{max}
use Rattle.std.proofs.lemmas.Bool.{cases_lt}
use Rattle.ff_flash.specs.declared.flash.Probe.{Probe}
use Rattle.ff_flash.specs.declared.flash.Probe.TheVariants.{Sealed}
use Rattle.ff_flash.specs.declared.spare.Spare.{Spare}
use Rattle.ff_scan.proofs.Newest.{same_spare}
use Rattle.ff_scan.specs.Found.{IsNextVersion, IsOneAbove}
use Rattle.ff_scan.specs.Probes.{probe_at}

-- over no place
pub next_none : (probes : List Probe) → IsNextVersion probes 0 1
next_none probes = record {
  least = omega arith;
  above = λ at spare below is. absurd (omega arith);
  drawn = λ some. absurd (omega arith);
}

-- one more place, which holds nothing sealed
pub next_kept : (probes : List Probe) (place next : ℕ) → IsNextVersion probes place next
    → ((spare : Spare) → probe_at probes place ≢ Sealed spare) → IsNextVersion probes (place + 1) next
next_kept probes place next version unsealed = record {
  least = version.least;
  above = λ at spare below is. elim (cases_lt at place) [
    | inl lower ↦ version.above at spare lower is
    | inr last ↦
        (let same : at ≡ place = omega arith in
        absurd (unsealed spare (ap (λ (n : ℕ). probe_at probes n) (sym same) ∙ is)))
  ];
  drawn = version.drawn;
}

-- one more place, which holds this
pub next_more : (probes : List Probe) (place next : ℕ) (spare : Spare) → IsNextVersion probes place next
    → probe_at probes place ≡ Sealed spare → IsNextVersion probes (place + 1) (max next (spare.version + 1))
next_more probes place next spare version is =
    let least = version.least in
    record {
      least = omega arith;
      above = λ at other below there. elim (cases_lt at place) [
        | inl lower ↦ (let above = version.above at other lower there in omega arith)
        | inr last ↦
            (let same : at ≡ place = omega arith in
            let one = same_spare (probe_at probes place) spare other is
            (ap (λ (n : ℕ). probe_at probes n) (sym same) ∙ there) in
            let number = ap (λ (x : Spare). x.version) one in
            omega arith)
      ];
      drawn = λ some. elim (cases_lt spare.version next) [
        | inl lower ↦
            (let same : next ≡ max next (spare.version + 1) = omega arith in
            subst (λ (n : ℕ). IsOneAbove probes n) same (version.drawn (omega arith)))
        | inr newer ↦ record { at = place; spare = spare; is = is; above = omega arith }
      ];
    }
