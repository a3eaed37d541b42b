-- Reads one after another.
use Rattle.std.proofs.Common.{◌≡◌, ◌≤◌, ◌+◌, ℕ, true, Option, None, Some, refl, sym, ap, subst, ◌∙◌, arith, add-zero}
use Rattle.std.specs.Prelude.{Result, Ok, Err, IfErr}
use Rattle.ff_flash.specs.FlashState.{FlashState}
use Rattle.ff_flash.specs.Plans.{Planned}
use Rattle.ff_mount.specs.Reading.{CanRead, GoesAsTold, GoesByTold, HasStoppedReading, Reads, after_reads}
use Rattle.ff_mount.specs.declared.stop.MountStop.{MountStop}
use Rattle.ff_mount.specs.declared.stop.MountStop.TheVariants.{NoMemory}
use Rattle.ff_store.specs.PageStore.{PageStoreView}

reads_by : (s : PageStoreView) (operations reads operations' reads' : ℕ) → operations ≡ operations' → reads ≡ reads'
    → record s {
      world = record s.world {
        flash = record s.world.flash { operations = operations };
        counts = record s.world.counts { reads = reads };
      };
    }
    ≡ record s {
      world = record s.world {
        flash = record s.world.flash { operations = operations' };
        counts = record s.world.counts { reads = reads' };
      };
    }
reads_by s operations reads operations' reads' e f = cc

-- no read
pub after_none : (s : PageStoreView) → s ≡ after_reads s 0
after_none s = reads_by s s.world.flash.operations s.world.counts.reads _ _ (sym (add-zero s.world.flash.operations))
    (sym (add-zero s.world.counts.reads))

-- some reads, and then some more
pub after_more : (s : PageStoreView) (n m : ℕ) → after_reads (after_reads s n) m ≡ after_reads s (n + m)
after_more s n m = reads_by s (s.world.flash.operations + n + m) (s.world.counts.reads + n + m) _ _ (omega arith) (omega arith)

-- want of memory after reads that went well
pub stopped_after : (s new : PageStoreView) (n : ℕ) → s.world.flash.on ≡ true → new ≡ after_reads s n
    → HasStoppedReading s NoMemory new
stopped_after s new n on is = subst (λ (x : PageStoreView). HasStoppedReading s NoMemory x) (sym is) (record {
  flash = record {
    same = record { blocks = refl; per_block = refl; plan = refl; making = refl };
    cells = refl;
    rise = omega arith;
    no_fall = omega arith;
    failed = (λ same. absurd (cc), λ both. (let less = both.0 in absurd (omega arith)));
    off = (λ same. absurd (cc), λ down. absurd (cc));
  };
  store = refl;
})

-- a stop after reads that went well
pub stopped_later : (s new : PageStoreView) (n : ℕ) (stop : MountStop) → HasStoppedReading (after_reads s n) stop new
    → HasStoppedReading s stop new
stopped_later s new n stop is = record {
  flash = record {
    same = record {
      blocks = is.flash.same.blocks;
      per_block = is.flash.same.per_block;
      plan = is.flash.same.plan;
      making = is.flash.same.making;
    };
    cells = is.flash.cells;
    rise = (let rise = is.flash.rise in omega arith);
    no_fall = is.flash.no_fall;
    failed = is.flash.failed;
    off = is.flash.off;
  };
  store = is.store;
}

-- nothing was read
pub none_read : (s : PageStoreView) (n : ℕ) (result : Result (Unit {0}) MountStop) → n ≡ 0 → s.world.flash.on ≡ true
    → IfErr result (λ stop. stop ≡ NoMemory) → Reads s n result s
none_read s n (Ok done) none on err = after_none s ∙ ap (λ k. after_reads s k) (sym none)
none_read s n (Err stop) none on err =
    subst (λ (x : MountStop). HasStoppedReading s x s) (sym err) (stopped_after s s 0 on (after_none s))

none_planned_by : (told : Option Planned) (made n : ℕ) (result : Result (Unit {0}) MountStop) → n ≡ 0
    → IfErr result (λ stop. stop ≡ NoMemory) → GoesByTold told made n result
none_planned_by None made n result none err = tt
none_planned_by (Some plan) made n (Ok done) none err = rw none refl
none_planned_by (Some plan) made n (Err stop) none err = rw err tt

pub none_planned : (flash : FlashState) (n : ℕ) (result : Result (Unit {0}) MountStop) → n ≡ 0
    → IfErr result (λ stop. stop ≡ NoMemory) → GoesAsTold flash n result
none_planned flash n result none err = none_planned_by flash.plan flash.operations n result none err

-- there can be more reads
pub can_read_more : (s new : PageStoreView) (n m total : ℕ) → n + m ≤ total → CanRead total s → new ≡ after_reads s n → CanRead m new
can_read_more s new n m total within can is = subst (λ (x : PageStoreView). CanRead m x) (sym is) (record {
  on = can.on;
  uncut = can.uncut;
  none = can.none;
  life = (let life = can.life in omega arith);
})
