-- A step of work where each way of the page's set is pinned is that of the page in the least way.
use Rattle.std.proofs.Common.{◌≡◌, ℕ, subst}
use Rattle.ff_base.specs.declared.numbers.PageNo.{PageNo}
use Rattle.ff_device.specs.Device.{parts_of}
use Rattle.ff_device.specs.Parts.{Parts}
use Rattle.ff_device.specs.WorkRows.{IsPinnedSet, IsWorkStep, seals, fills, no_way, replaces, flushes}
use Rattle.ff_lines.specs.declared.device.Work.TheVariants.{Pinned}
use Rattle.ff_plb.specs.Plb.{IsFound}
use Rattle.ff_core.specs.Hierarchy.{HierarchyView}
use Rattle.ff_core.specs.Performs.{IsAdvanced, IsDeviceStep, IsWorkedFor, yields}
use Rattle.ff_core.specs.declared.action.Progress.{Progress}

pinned_set : (page : ℕ) (other : PageNo) (old new : Parts) → IsWorkStep page old (Pinned other) new
    → IsPinnedSet page other old
pinned_set page other old new (seals waits row) = absurd row
pinned_set page other old new (fills idle slot empty row) = absurd row
pinned_set page other old new (no_way idle full none row) = row.0
pinned_set page other old new (replaces idle full slot mid raised clean row) = absurd row
pinned_set page other old new (flushes idle full slot mid raised dirty row) = absurd row

pub yielded : {T E : Type 0} (page : ℕ) (other : PageNo) (h mid h' : HierarchyView T E) (progress : Progress)
    → IsDeviceStep page (Pinned other) h mid → mid ≡ h
    → (slot : ℕ) × IsFound mid.memory.slots other.0 slot × IsAdvanced slot mid progress h'
    → IsWorkedFor page h progress h'
yielded page other h mid h' progress step same made =
    let here = subst (λ (g : HierarchyView _ _). (slot : ℕ) × IsFound g.memory.slots other.0 slot × IsAdvanced slot g progress h') same made in
    yields other here.0 (pinned_set page other (parts_of h.device) (parts_of mid.device) step.row) here.1 here.2
