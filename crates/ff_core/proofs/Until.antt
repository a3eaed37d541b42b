-- A call that is driven up to an event number.
use Rattle.std.proofs.Common.{◌≡◌, ◌≤◌, ◌<◌, ◌+◌, ℕ, Option, Some, refl, sym, ap, ◌∙◌, arith}
use Rattle.std.proofs.Math.Arith.{lt_of_le-ne}
use Rattle.ff_base.specs.declared.numbers.Caller.{Caller}
use Rattle.ff_base.specs.declared.numbers.PageNo.{PageNo}
use Rattle.ff_flash.specs.FlashState.{FlashState}
use Rattle.ff_model.specs.declared.op.Op.{Op}
use Rattle.ff_core.specs.Core.{CoreView}
use Rattle.ff_core.specs.Drives.{IsEvent, cut}
use Rattle.ff_core.specs.Hierarchy.{flash_under}
use Rattle.ff_core.specs.Losing.{core_off}
use Rattle.ff_core.specs.Until.{GoesUntil, IsEventUntil}
use Rattle.ff_core.specs.declared.turn.Turn.TheVariants.{Miss, Off}
use Rattle.ff_core.proofs.PoweredDown.{off_down, off_same}

-- the power was cut in place of an event
pub cut_event : {T E : Type 0} (core : CoreView T E) (caller : Caller) (number : ℕ) (op : Op)
    → IsEvent core caller number op Off (core_off core)
cut_event core caller number op =
    let flash : FlashState = flash_under core.hierarchy in
    let operations = off_same (λ (f : FlashState). f.operations) flash refl in
    record {
      answer = cut refl refl (off_down flash);
      log = refl;
      same = record {
        opening = refl;
        geometry = refl;
        from_counts = refl;
        room = refl;
        turns_room = refl;
        floor = refl;
        picker = refl;
        store = record {
          blocks = refl;
          per_block = refl;
          pages = refl;
          plan = off_same (λ (f : FlashState). f.plan) flash refl;
          making = off_same (λ (f : FlashState). f.making) flash refl;
          low = refl;
          opened = refl;
        };
      };
      events = omega arith;
      no_fall = omega (arith, operations);
      one_more = omega (arith, operations);
    }

-- the power was cut at the number to stop at
pub until_cut : {T E : Type 0} (stop : Option ℕ) (core : CoreView T E) → stop ≡ Some core.events
    → IsEventUntil stop core Off (core_off core)
until_cut stop core at = record { stops = λ same. (refl, refl); goes = λ other. absurd (other at) }

-- no event so far
pub until_none : {T E : Type 0} (stop : Option ℕ) (core : CoreView T E) → GoesUntil stop core core
until_none stop core = record { not_past = λ number is low. low; on = λ on. on; no_fall = omega arith }

-- one more event missed a page
pub until_more : {T E : Type 0} (stop : Option ℕ) (caller : Caller) (number : ℕ) (op : Op) (page : PageNo) (a b c : CoreView T E)
    → GoesUntil stop a b → IsEvent b caller number op (Miss page) c → IsEventUntil stop b (Miss page) c → GoesUntil stop a c
until_more stop caller number op page a b c before event until =
    let other : stop ≡ Some b.events → ⊥ = λ at. (let off = (until.stops at).0 in absurd (cc)) in
    let low = before.no_fall in
    let lower = event.no_fall in
    record {
      not_past = λ at is low.
          (let reached : b.events ≤ at = before.not_past at is low in
          let differs : b.events ≡ at → ⊥ = λ same. other (is ∙ ap (λ (n : ℕ). Some n) (sym same)) in
          let one : c.events ≤ b.events + 1 = event.events in
          let less : b.events < at = lt_of_le-ne reached differs in
          omega (arith, less, one));
      on = λ on. event.answer.on;
      no_fall = omega (arith, low, lower);
    }
