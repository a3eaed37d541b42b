-- What the record of a session keeps.
use Rattle.std.proofs.Common.{◌≡◌, ◌≤◌, ◌+◌, ◌*◌, ℕ, length, subst, mul_comm, refl, arith}
use Rattle.ff_model.specs.Legal.{IsLegal, Opening, faults_after, next_event}
use Rattle.ff_policy.specs.Policy.{IsPolicySound}
use Rattle.ff_store.specs.PageStore.{IsStoreSound}
use Rattle.ff_core.specs.Account.{IsAccountOf, start_of}
use Rattle.ff_core.specs.Core.{CoreView}
use Rattle.ff_core.specs.CoreSound.{IsCoreSound}
use Rattle.ff_core.specs.Hierarchy.{flash_under}
use Rattle.ff_core.specs.Record.{IsRecordSound, opening_from, record_of}

opening_is : {T E : Type 0} → (core : CoreView T E) (kept : ℕ) → IsCoreSound core
    → core.opening ≡ opening_from core.opening.base (record_of core kept)
opening_is core kept sound = let p = sound.sized.pages in let c = sound.sized.capacity in rw (← p, ← c) refl

pub record_sound : {T E : Type 0} → (core : CoreView T E) (kept : ℕ) → IsCoreSound core → kept ≤ length core.history.entries
    → IsRecordSound (record_of core kept)
record_sound core kept sound few =
    let is = opening_is core kept sound in
    let told = sound.counted.faults in
    record {
      base = core.opening.base;
      legal = subst (λ (o : Opening). IsLegal o core.history.entries) is sound.told.legal;
      events = subst (λ (o : Opening). next_event o core.history.entries ≤ core.events) is sound.timed.next;
      not_past = sound.timed.not_past;
      served = sound.counted.served;
      promotions = sound.counted.promotions;
      faults = omega arith;
      kept = few;
    }

-- the promotions were paid for by the accesses of the device
paid_for : (sum floor promotions accesses promoted device : ℕ) → sum + floor * promotions ≤ accesses → promotions ≡ promoted
    → accesses ≡ device → promoted * floor ≤ device
paid_for sum floor promotions accesses promoted device paid is counted =
    rw (← is, ← counted) (let commuted = mul_comm promotions floor in omega arith)

pub account_of : {T E : Type 0} → (core : CoreView T E) (kept : ℕ) → IsCoreSound core → IsStoreSound core.hierarchy.device.store
    → IsPolicySound core.hierarchy.policy
    → IsAccountOf core.geometry core.hierarchy.policy.tuner.floor (start_of core) (record_of core kept) (flash_under core.hierarchy)
account_of core kept sound store policy =
    let is = opening_is core kept sound in
    let counted = sound.counted in
    let kinds = counted.kinds in
    let faults = counted.faults in
    record {
      geometry_is = refl;
      from_event = refl;
      legal = subst (λ (o : Opening). IsLegal o core.history.entries) is sound.told.legal;
      events = subst (λ (o : Opening). next_event o core.history.entries ≤ core.events) is sound.timed.next;
      not_past = sound.timed.not_past;
      served = counted.served;
      promotions = counted.promotions;
      paid = paid_for _ _ _ _ _ _ policy.paid counted.paid counted.accesses;
      operations =
          let all = store.counted in
          let reads = kinds.reads in
          let programs = kinds.programs in
          let seals = kinds.seals in
          let erases = kinds.erases in
          omega arith;
      faults = omega arith;
      met = subst (λ (o : Opening). faults_after o core.history.entries ≤ (flash_under core.hierarchy).faults) is sound.told.faults;
      told = λ tells. let all = counted.planned tells in omega arith;
    }
