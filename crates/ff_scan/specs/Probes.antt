-- The probes of all places of a flash, in their order, and what must hold of them.
use Rattle.std.specs.Prelude.{ℕ, ◌*◌, ◌<◌, ◌≤◌, ◌≡◌, ◌^◌, List, length, map, slice_index_or}
use Rattle.ff_base.specs.declared.geometry.Geometry.{Geometry}
use Rattle.ff_flash.specs.Cells.{Cell, cell_probe}
use Rattle.ff_flash.specs.declared.flash.Probe.{Probe}
use Rattle.ff_flash.specs.declared.flash.Probe.TheVariants.{Erased, Sealed}
use Rattle.ff_flash.specs.declared.spare.Spare.{Spare}

-- what the probes of these cells tell
abbrev pub probes_of : List Cell → List Probe
probes_of cells = map cell_probe cells

-- the probe of a place; past the end it reads as erased
abbrev pub probe_at : List Probe → ℕ → Probe
probe_at probes place = slice_index_or probes place Erased

-- every place was probed. Sealed pages are of logical pages, and their versions are at least 1
pub record AreProbes (g : Geometry) (probes : List Probe) : Type 0 where
  pub size : length probes ≡ g.blocks * g.per_block
  pub page : (a : ℕ) (spare : Spare) → probe_at probes a ≡ Sealed spare → spare.page.0 < g.pages
  pub least : (a : ℕ) (spare : Spare) → probe_at probes a ≡ Sealed spare → 1 ≤ spare.version
  pub most : (a : ℕ) (spare : Spare) → probe_at probes a ≡ Sealed spare → spare.version < 2 ^ 63
