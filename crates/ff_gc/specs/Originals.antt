-- The next page of the victim to be copied.
use Rattle.std.specs.Prelude.{ℕ, ◌+◌, ◌*◌, ◌/◌, ◌%◌, ◌<◌, ◌≤◌, ◌≡◌, Some}
use Rattle.ff_base.specs.declared.numbers.PageNo.{PageNo}
use Rattle.ff_base.specs.declared.numbers.Ppn.{Ppn}
use Rattle.ff_flash.specs.declared.spare.Spare.{Spare}
use Rattle.ff_map.specs.PageMap.{PageMapView, mapping_of}
use Rattle.ff_map.specs.declared.places.Mapping.{Mapping}
use Rattle.ff_map.specs.declared.places.Move.{Move}
use Rattle.ff_gc.specs.declared.phase.Job.{Job}
use Rattle.ff_gc.specs.declared.phase.Original.{Original}
use Rattle.ff_gc.specs.declared.phase.Phase.{Phase}
use Rattle.ff_gc.specs.declared.phase.Phase.TheVariants.{Reading, Commit}

-- the spare of a page that was read
abbrev pub spare_in : Original → Spare
spare_in original = record { page = original.page; version = original.version }

-- the copy of a page that was read, at a place
abbrev pub move_to : Original → Ppn → Move
move_to original at = record { page = original.page; from = original.from; to = at }

-- the collection with all that is seen up to a page
abbrev pub past : ℕ → Job → Original → Job
past per_block job original = record job { seen = original.from.0 % per_block + 1 }

-- no page is mapped in the victim behind what is seen
abbrev pub IsAllSeen : ℕ → PageMapView → Job → Type 0
IsAllSeen per_block places job = (page : PageNo) (m : Mapping) → mapping_of places page ≡ Some m
    → m.at.0 / per_block ≡ job.victim.0 → m.at.0 < job.victim.0 * per_block + job.seen

-- no page is mapped in the victim from what is seen on to this place
abbrev pub IsPassed : ℕ → PageMapView → Job → ℕ → Type 0
IsPassed per_block places job place = (page : PageNo) (m : Mapping)
    → mapping_of places page ≡ Some m → m.at.0 / per_block ≡ job.victim.0
    → job.victim.0 * per_block + job.seen ≤ m.at.0 → job.victim.0 * per_block + place ≤ m.at.0

-- the page is mapped at this place with its version
pub record IsThere (places : PageMapView) (from : Ppn) (original : Original) : Type 0 where
  pub place : original.from ≡ from
  pub is : mapping_of places original.page
      ≡ Some (record { at = from; version = original.version })

-- the first page that is mapped in the victim behind what is seen
pub record IsNextOriginal (per_block : ℕ) (places : PageMapView) (job : Job) (original : Original)
    : Type 0 where
  pub is : mapping_of places original.page
      ≡ Some (record { at = original.from; version = original.version })
  pub from_in : original.from.0 / per_block ≡ job.victim.0
  pub unseen : job.victim.0 * per_block + job.seen ≤ original.from.0
  pub next : (page : PageNo) (m : Mapping) → mapping_of places page ≡ Some m
      → m.at.0 / per_block ≡ job.victim.0 → job.victim.0 * per_block + job.seen ≤ m.at.0
      → original.from.0 ≤ m.at.0

-- what is next in a collection that copies: to read, where a page is left, else to commit
abbrev pub IsAfter : ℕ → PageMapView → Job → Phase → Type 0
IsAfter per_block places job (Reading next) =
    (next ≡ job) × (IsAllSeen per_block places job → ⊥)
IsAfter per_block places job (Commit next) = (next ≡ job) × IsAllSeen per_block places job
IsAfter per_block places job _ = ⊥
