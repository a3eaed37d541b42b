-- The slot that is chosen of a set, and the values of the set after the choice.
use Rattle.std.proofs.Common.{◌≡◌, ◌+◌, ◌*◌, ◌%◌, ◌<◌, ◌∙◌, ℕ, List, length, arith, ap, length-set, Fits, w32}
use Rattle.std.specs.Prelude.{slice_set}
use Rattle.std.proofs.lemmas.Grind.{common_steps}
use Rattle.ff_cache.specs.Cache.{values_at, AreSizes, AreValues}
use Rattle.ff_cache.proofs.Sets.{set_fits}

-- the values of one set changed, and there are as many as before
pub values_changed : (sets ways set : ℕ) (old new : List (List ℕ)) → AreValues sets ways old
    → new ≡ slice_set old set (values_at new set) → length (values_at new set) ≡ length (values_at old set)
    → AreValues sets ways new
values_changed sets ways set old new sound others as_many = record {
  count = ap length others ∙ length-set old set (values_at new set) ∙ sound.count;
  each = λ k below. let before = sound.each k below in grind (arith, common_steps, before);
}

-- the first slot of a set is one of 4,096 at most
pub first_fits : (sets ways page : ℕ) → AreSizes sets ways → Fits w32 (page % sets * ways)
first_fits sets ways page sizes =
    let some = sizes.some_sets in
    let fits = set_fits (page % sets) sets ways (omega arith) in
    let few = sizes.few in
    omega arith

-- and so is the slot of a way
pub slot_fits : (sets ways page way : ℕ) (values : List (List ℕ)) → AreSizes sets ways → AreValues sets ways values
    → way < length (values_at values (page % sets)) → Fits w32 (page % sets * ways + way)
slot_fits sets ways page way values sizes are within =
    let some = sizes.some_sets in
    let below : page % sets < sets = omega arith in
    let fits = set_fits (page % sets) sets ways below in
    let as_many = are.each (page % sets) below in
    let few = sizes.few in
    omega arith
