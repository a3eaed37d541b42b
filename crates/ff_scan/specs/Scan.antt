-- What a contract sees of a scan.
use Rattle.std.specs.Prelude.{List, []}
use Rattle.ff_base.specs.declared.geometry.Geometry.{Geometry}
use Rattle.ff_flash.specs.declared.flash.Probe.{Probe}

-- the sizes of the flash, and what the probes of its first places told
pub record ScanView : Type 0 where
  pub geometry : Geometry
  pub probes : List Probe

-- no place was probed
abbrev pub new_scan : Geometry → ScanView
new_scan geometry = record { geometry = geometry; probes = [] }
