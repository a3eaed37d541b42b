-- Rising numbers, looked at one after the other.
use Rattle.std.proofs.Common.{◌≡◌, ℕ, ◌+◌, ◌≤◌, List}
use Rattle.ff_base.specs.Count.{last_event}
use Rattle.ff_settings.specs.Bounds.{rises_from}

-- the numbers of what is left rise where all of them do
pub record Rise (least : ℕ) (rest all : List ℕ) : Type 0 where
  pub same : rises_from least rest ≡ rises_from 1 all
  pub bound : least ≤ last_event + 1
