-- How the operations of a simulated flash go by its plan, and what they have in common.
use Rattle.std.proofs.Common.{◌≡◌, ◌+◌, ◌*◌, ◌/◌, ◌%◌, set, inl, inr, ℕ, Bool, true, false, List, [], length, Result, Option, Some, None, refl, sym, ap, subst, ◌∙◌, arith}
use Rattle.std.specs.Prelude.{if◌then◌else◌, is_some, replicate, ◌==◌, Ok, Err, IsErrAnd}
use Rattle.std.proofs.lemmas.Bool.{cases_Bool}
use Rattle.std.proofs.lemmas.List.{set-get_or}
use Rattle.std.proofs.lemmas.Nat.Bits.{bit_at-zero}
use Rattle.ff_flash.proofs.NextInjected.{cut_by}
use Rattle.ff_flash.proofs.Rising.{count_next, count_within, none_passed}
use Rattle.ff_flash.proofs.SimCells.{fresh_cells}
use Rattle.ff_flash.specs.Cells.{Cell, Operation, program, seal, erase, erased, cell_after, cell_after_erase, cell_at, cells_after, ChangesEach}
use Rattle.ff_flash.specs.FlashState.{CountsFaults, Operates, UsesPower}
use Rattle.ff_flash.specs.Injected.{Went, injected_answer, stop_of}
use Rattle.ff_flash.specs.Injector.{InjectorView, IsCutBy, IsInjectorSound, counted_injector, injector_after, is_cut_off, is_powered, next_injected, power_after}
use Rattle.ff_flash.specs.PageState.{cells_of}
use Rattle.ff_flash.specs.Plans.{Planned, IsPlan, is_listed, listed_count, cut_at, cut_injected, due_injected}
use Rattle.ff_flash.specs.SimFlash.{HasPageBytes, IsSimFlashSound}
use Rattle.ff_flash.specs.SimFlashFields.{flash_of}
use Rattle.ff_flash.specs.declared.flash.FlashStop.{FlashStop}
use Rattle.ff_flash.specs.declared.flash.FlashStop.TheVariants.{Off}
use Rattle.ff_flash.specs.declared.injected.Injected.{Injected}
use Rattle.ff_flash.specs.declared.injected.Injected.TheVariants.{Nothing, Failure, Cut, PowerOff}
use Rattle.ff_flash.specs.declared.injector.Power.{Power}
use Rattle.ff_flash.specs.declared.injector.Power.TheVariants.{On, Down, CutOff}
use Rattle.ff_flash.specs.declared.page_states.PageState.TheVariants.{Erased}
use Rattle.ff_flash.specs.declared.plan.CutAt.{CutAt}

-- an operation that goes so went so, by its answer
pub went : (Holds : Injected → Type 0) (injected : Injected) → (Holds PowerOff → Holds (Cut 0)) → Holds injected → Went (injected_answer injected) Holds
went Holds Nothing idle holds = holds
went Holds Failure idle holds = holds
went Holds (Cut mask) idle holds = (mask, holds)
went Holds PowerOff idle holds = (0, idle holds)

-- a cut with the mask 0 changes nothing
pub cut_none : (operation : Operation) (cell : Cell) → cell_after operation (Cut 0) cell ≡ cell_after operation PowerOff cell
cut_none (program bytes spare) cell = refl
cut_none seal cell = refl
cut_none (erase page) cell = rw (bit_at-zero (page % 32)) refl

pub went_page : (operation : Operation) (injected : Injected) (old new : List Cell) (at : ℕ) (answer : Result (Unit {0}) FlashStop)
    → answer ≡ injected_answer injected → new ≡ cells_after operation injected old at
    → Went answer (λ how. new ≡ cells_after operation how old at)
went_page operation injected old new at answer answers is =
    rw answers
    (went (λ how. new ≡ cells_after operation how old at) injected
    (λ off. off ∙ ap (λ (cell : Cell). set old at cell) (sym (cut_none operation (cell_at old at)))) is)

pub went_block : (n block : ℕ) (injected : Injected) (old new : List Cell) (answer : Result (Unit {0}) FlashStop)
    → answer ≡ injected_answer injected → ChangesEach (cell_after_erase n block injected) old new
    → Went answer (λ how. ChangesEach (cell_after_erase n block how) old new)
went_block n block injected old new answer answers changes =
    rw answers
    (went (λ how. ChangesEach (cell_after_erase n block how) old new) injected
    (λ off. record {
      size = off.size;
      each = λ place within.
          off.each place within
          ∙ ap (λ (cell : Cell). if place / n == block then cell else cell_at old place)
          (sym (cut_none (erase (place % n)) (cell_at old place)));
    })
    changes)

idle : (operation : Operation) (cell : Cell) → cell_after operation PowerOff cell ≡ cell
idle (program bytes spare) cell = refl
idle seal cell = refl
idle (erase page) cell = refl

-- with the power off the cells stay
pub cells_off : (operation : Operation) (injected : Injected) (cells : List Cell) (at : ℕ) → injected ≡ PowerOff
    → cells_after operation injected cells at ≡ cells
cells_off operation injected cells at off =
    ap (λ (how : Injected). cells_after operation how cells at) off
    ∙ ap (λ (cell : Cell). set cells at cell) (idle operation (cell_at cells at))
    ∙ set-get_or cells at erased

-- an operation that was injected so went as the plan says
pub page_by : (operation : Operation) (injected next : Injected) (old new : List Cell) (at : ℕ) → injected ≡ next
    → new ≡ cells_after operation injected old at → new ≡ cells_after operation next old at
page_by operation injected next old new at is changed =
    changed ∙ ap (λ (how : Injected). cells_after operation how old at) is

pub block_by : (n block : ℕ) (injected next : Injected) (old new : List Cell) → injected ≡ next
    → ChangesEach (cell_after_erase n block injected) old new → ChangesEach (cell_after_erase n block next) old new
block_by n block injected next old new is changed =
    subst (λ (how : Injected). ChangesEach (cell_after_erase n block how) old new) is changed

-- what an injector that is on makes of the power
used_power : (blocks per_block : ℕ) (old new : List Cell) (injector : InjectorView) (fails : Bool) (cut : Option CutAt)
    → is_powered injector.power ≡ true → (fails ≡ true → cut ≡ None)
    → UsesPower (flash_of blocks per_block old injector) (stop_of (injected_answer (if fails then Failure else cut_injected cut)))
    (flash_of blocks per_block new (record injector { operations = injector.operations + 1; power = power_after cut }))
used_power blocks per_block old new injector true None on apart = record {
  unpowered = λ off. (let e : true ≡ false = sym on ∙ off in cc);
  counted = λ _. refl;
  off = (λ e. cc, λ e. cc);
  cut = λ _. refl;
}
used_power blocks per_block old new injector true (Some cut) on apart = (let e = apart refl in cc)
used_power blocks per_block old new injector false (Some cut) on apart = record {
  unpowered = λ off. (let e : true ≡ false = sym on ∙ off in cc);
  counted = λ _. refl;
  off = (λ e. refl, λ e. refl);
  cut = λ _. refl;
}
used_power blocks per_block old new injector false None on apart = record {
  unpowered = λ off. (let e : true ≡ false = sym on ∙ off in cc);
  counted = λ _. refl;
  off = (λ e. cc, λ e. cc);
  cut = λ _. refl;
}

-- what an operation by the plan makes of the count of faults
counted_faults : (blocks per_block : ℕ) (old new : List Cell) (injector : InjectorView) (power : Power) (fails : Bool)
    (cut : Option CutAt) → IsPlan injector.plan
    → is_listed (injector.operations + 1) injector.plan.fail ≡ fails
    → cut_at (injector.operations + 1) injector.plan.cuts ≡ cut
    → CountsFaults (flash_of blocks per_block old injector) (stop_of (injected_answer (if fails then Failure else cut_injected cut)))
    (flash_of blocks per_block new (record injector { operations = injector.operations + 1; power = power }))
counted_faults blocks per_block old new injector power true cut is listed at =
    let count = count_next injector.operations 1 injector.plan.fail is.fail in
    let rose : listed_count (injector.operations + 1) injector.plan.fail ≡ listed_count injector.operations injector.plan.fail + 1 =
    rw listed at count in
    let within = count_within (injector.operations + 1) 1 injector.plan.fail is.fail in
    record {
      failed = λ _. rose;
      worked = λ e. cc;
      no_fall = omega arith;
      one_more = omega arith;
      within = omega arith;
      planned = λ _. rw listed refl;
      planned_cut = λ _ e. cc;
    }
counted_faults blocks per_block old new injector power false (Some cut) is listed at =
    let count = count_next injector.operations 1 injector.plan.fail is.fail in
    let same : listed_count (injector.operations + 1) injector.plan.fail ≡ listed_count injector.operations injector.plan.fail =
    rw listed at count in
    let within = count_within (injector.operations + 1) 1 injector.plan.fail is.fail in
    record {
      failed = λ e. cc;
      worked = λ e. cc;
      no_fall = omega arith;
      one_more = omega arith;
      within = omega arith;
      planned = λ _. rw (listed, at) refl;
      planned_cut = λ _ _. same;
    }
counted_faults blocks per_block old new injector power false None is listed at =
    let count = count_next injector.operations 1 injector.plan.fail is.fail in
    let same : listed_count (injector.operations + 1) injector.plan.fail ≡ listed_count injector.operations injector.plan.fail =
    rw listed at count in
    let within = count_within (injector.operations + 1) 1 injector.plan.fail is.fail in
    record {
      failed = λ e. cc;
      worked = λ _. same;
      no_fall = omega arith;
      one_more = omega arith;
      within = omega arith;
      planned = λ _. rw (listed, at) refl;
      planned_cut = λ _ e. cc;
    }

-- a call with the power off
not_made : (blocks per_block : ℕ) (cells : List Cell) (injector : InjectorView) → is_powered injector.power ≡ false → IsPlan injector.plan
    → Operates (flash_of blocks per_block cells injector) (Some Off) (flash_of blocks per_block cells injector)
not_made blocks per_block cells injector off is =
    let within = count_within injector.operations 1 injector.plan.fail is.fail in
    let never : is_powered injector.power ≡ true → ⊥ = λ on. let e : true ≡ false = sym on ∙ off in cc in
    record {
      same = record { blocks = refl; per_block = refl; plan = refl; making = refl };
      power = record { unpowered = λ _. refl; counted = λ on. absurd (never on); off = (λ e. off, λ e. refl); cut = λ on. absurd (never on) };
      faults = record {
        failed = λ e. cc;
        worked = λ e. cc;
        no_fall = omega arith;
        one_more = omega arith;
        within = omega arith;
        planned = λ on. absurd (never on);
        planned_cut = λ _ _. refl;
      };
    }

-- what an operation that is made makes of all but the cells
made : (blocks per_block : ℕ) (old new : List Cell) (injector : InjectorView) → is_powered injector.power ≡ true → IsPlan injector.plan
    → Operates (flash_of blocks per_block old injector) (stop_of (injected_answer (due_injected injector.plan (injector.operations + 1))))
    (flash_of blocks per_block new (counted_injector injector))
made blocks per_block old new injector on is =
    let fails : Bool = is_listed (injector.operations + 1) injector.plan.fail in
    let cut : Option CutAt = cut_at (injector.operations + 1) injector.plan.cuts in
    record {
      same = record { blocks = refl; per_block = refl; plan = refl; making = refl };
      power = used_power blocks per_block old new injector fails cut on (is.apart (injector.operations + 1));
      faults = counted_faults blocks per_block old new injector (power_after cut) fails cut is refl refl;
    }

-- what an operation makes of all but the cells, which stay where the power is off
pub operates_as : (blocks per_block : ℕ) (old new : List Cell) (injector : InjectorView) (stop : Option FlashStop)
    → IsPlan injector.plan → (next_injected injector ≡ PowerOff → new ≡ old)
    → stop ≡ stop_of (injected_answer (next_injected injector))
    → Operates (flash_of blocks per_block old injector) stop (flash_of blocks per_block new (injector_after injector))
operates_as blocks per_block old new injector stop is same stops = elim (cases_Bool (is_powered injector.power)) [
  | inl on ↦
      let next : next_injected injector ≡ due_injected injector.plan (injector.operations + 1) = rw on refl in
      let after : injector_after injector ≡ counted_injector injector = rw on refl in
      rw (stops, next, after) (made blocks per_block old new injector on is)
  | inr off ↦
      let next : next_injected injector ≡ PowerOff = rw off refl in
      let after : injector_after injector ≡ injector = rw off refl in
      rw (stops, next, after, same next) (not_made blocks per_block old injector off is)
]

-- an injector keeps what it must
pub sound_after : (injector : InjectorView) → IsInjectorSound injector → IsInjectorSound (injector_after injector)
sound_after injector sound = elim (cases_Bool (is_powered injector.power)) [
  | inl on ↦
      let after : injector_after injector ≡ counted_injector injector = rw on refl in
      subst (λ (a : InjectorView). IsInjectorSound a) (sym after)
      (record { plan = sound.plan; cut = cut_by (cut_at (injector.operations + 1) injector.plan.cuts) })
  | inr off ↦
      let after : injector_after injector ≡ injector = rw off refl in
      subst (λ (a : InjectorView). IsInjectorSound a) (sym after) sound
]

is_cut_on : (power : Power) → is_powered power ≡ true → is_cut_off power ≡ false
is_cut_on On on = refl
is_cut_on Down on = cc
is_cut_on (CutOff arrive) on = cc

cut_some : (power : Power) (cut : Option CutAt) → IsCutBy power cut → is_cut_off power ≡ true → is_some cut ≡ true
cut_some On cut by is = cc
cut_some Down cut by is = cc
cut_some (CutOff arrive) (Some cut) by is = refl
cut_some (CutOff arrive) None by is = cc

-- what the fields keep, told of the flash that they show
pub sim_sound : (blocks per_block : ℕ) (cells : List Cell) (injector : InjectorView) → length cells ≡ blocks * per_block
    → IsInjectorSound injector → ((place : ℕ) → HasPageBytes (cell_at cells place))
    → IsSimFlashSound (flash_of blocks per_block cells injector)
sim_sound blocks per_block cells injector size sound full =
    let within = count_within injector.operations 1 injector.plan.fail sound.plan.fail in
    record {
      sound = record { size = size; faults = omega arith; power = is_cut_on injector.power };
      told = refl;
      plan = sound.plan;
      faults = refl;
      cut = cut_some injector.power (cut_at injector.operations injector.plan.cuts) sound.cut;
      making = refl;
      full = full;
    }

-- a flash that was just made
pub fresh_is : (blocks per_block n : ℕ) (plan : Planned) → IsPlan plan
    → flash_of blocks per_block (cells_of (replicate n Erased) (replicate n [])) (record { plan = plan; operations = 0; power = On })
    ≡ record { blocks = blocks; per_block = per_block; cells = replicate n erased; faults = 0; on = true; operations = 0; plan = Some plan; making = []; cut = false }
fresh_is blocks per_block n plan is = rw (fresh_cells n, none_passed 0 1 plan.fail is.fail (omega arith)) refl

-- how a call stopped that handed on this error
pub stop_of-error : {T : Type 0} (result : Result T FlashStop) (stop : FlashStop) → IsErrAnd result (λ handed. handed ≡ stop) → stop_of result ≡ Some stop
stop_of-error (Ok value) stop is = absurd is
stop_of-error (Err handed) stop is = ap Some is
