use Rattle.std.proofs.Common.{◌≡◌, ◌<◌, ◌≤◌, ◌^◌, ℕ}
use Rattle.ff_flash.specs.declared.flash.Probe.TheVariants.{Sealed}
use Rattle.ff_flash.specs.declared.spare.Spare.{Spare}
use Rattle.ff_scan.specs.Probes.{probe_at}
use Rattle.ff_scan.proofs.tests.are_probes.Given as goal

abbrev pub invariant-loop-place : goal.invariant-loop-place
invariant-loop-place l = (a : ℕ) → a < l.place → (spare : Spare) → probe_at l.probes a ≡ Sealed spare
    → (spare.page.0 < l.geometry.pages) × (1 ≤ spare.version) × (spare.version < 2 ^ 63)
