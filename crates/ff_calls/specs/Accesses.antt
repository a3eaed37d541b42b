-- What a call that is in range asks of the memory and its device.
use Rattle.std.specs.Prelude.{ℕ, ◌≡◌, ◌<◌, ◌^◌, false}
use Rattle.ff_lines.specs.DeviceState.{DeviceState, IsDrained}
use Rattle.ff_lines.specs.LineMask.{IsLineRange}
use Rattle.ff_lines.specs.declared.line_mask.LineMask.{LineMask}
use Rattle.ff_memory.specs.Loads.{IsLoad}
use Rattle.ff_memory.specs.Marking.{IsMarkBy}
use Rattle.ff_memory.specs.Memory.{MemoryView, marks_set}
use Rattle.ff_memory.specs.LineBytes.{SameLineBytes, is_home, line_in_page, page_of, offset_in_line}
use Rattle.ff_memory.specs.Stores.{IsStore, StoresBy}
use Rattle.ff_memory.specs.declared.access.Access.{Access}
use Rattle.ff_memory.specs.declared.access.Access.TheVariants.{Served}
use Rattle.ff_memory.specs.declared.access.Side.TheVariants.{Neither}
use Rattle.ff_model.specs.declared.op.Op.{Op}
use Rattle.ff_model.specs.declared.op.Op.TheVariants.{Load, Store, Verify, Mark, Release}
use Rattle.ff_model.specs.declared.op.Reply.TheVariants.{Done}

-- every post was drained
pub record IsVerified (m : MemoryView) (d : DeviceState) (access : Access) (m' : MemoryView)
    (d' : DeviceState) : Type 0 where
  pub access_is : access ≡ Served Done Neither
  pub memory : m' ≡ m
  pub device : IsDrained d d'

-- lines of a page were marked, or the page isn't home
pub record IsMarking (page from count : ℕ) (m : MemoryView) (d : DeviceState) (access : Access)
    (m' : MemoryView) (d' : DeviceState) : Type 0 where
  pub mask : LineMask
  pub mask_is : IsLineRange from count mask
  pub marks : IsMarkBy (is_home m page) page mask.0 m d access m' d'

-- marks of a page's lines were cleared
pub record IsReleasing (page from count : ℕ) (m : MemoryView) (d : DeviceState) (access : Access)
    (m' : MemoryView) (d' : DeviceState) : Type 0 where
  pub mask : LineMask
  pub mask_is : IsLineRange from count mask
  pub mask_fits : mask.0 < 2 ^ 64
  pub access_is : access ≡ Served Done Neither
  pub memory : m' ≡ marks_set page mask.0 false m
  pub device : d' ≡ d

-- what a call that is in range comes to. A store's position is that of its entry in the history
abbrev pub Accesses : Op → ℕ → MemoryView → DeviceState → Access → MemoryView → DeviceState
    → Type 0
Accesses (Load at len) position m d access m' d' = IsLoad at len m d access m' d'
Accesses (Store at bytes) position m d access m' d' =
    IsStore (page_of at) (line_in_page at) (offset_in_line at) bytes position m d access m' d'
Accesses Verify position m d access m' d' = IsVerified m d access m' d'
Accesses (Mark page from count) position m d access m' d' =
    IsMarking page.0 from count m d access m' d'
Accesses (Release page from count) position m d access m' d' =
    IsReleasing page.0 from count m d access m' d'

-- which lines the call leaves: a store that is served changes its own
abbrev pub LeavesLines : Op → Access → MemoryView → DeviceState → MemoryView → DeviceState → Type 0
LeavesLines (Load at len) access m d m' d' = SameLineBytes m d m' d'
LeavesLines (Store at bytes) access m d m' d' =
    StoresBy access (page_of at) (line_in_page at) (offset_in_line at) bytes m d m' d'
LeavesLines Verify access m d m' d' = SameLineBytes m d m' d'
LeavesLines (Mark page from count) access m d m' d' = SameLineBytes m d m' d'
LeavesLines (Release page from count) access m d m' d' = SameLineBytes m d m' d'
