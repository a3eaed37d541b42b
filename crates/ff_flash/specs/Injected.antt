-- How an operation goes, and what it answers then.
use Rattle.std.specs.Prelude.{ℕ, Option, Some, None, Result, Ok, Err}
use Rattle.ff_flash.specs.declared.flash.FlashStop.{FlashStop}
use Rattle.ff_flash.specs.declared.flash.FlashStop.TheVariants.{Failed, Off}
use Rattle.ff_flash.specs.declared.injected.Injected.{Injected}
use Rattle.ff_flash.specs.declared.injected.Injected.TheVariants.{Nothing, Failure, Cut, PowerOff}

-- what an operation that goes so answers
abbrev pub injected_answer : Injected → Result (Unit {0}) FlashStop
injected_answer Nothing = Ok tt
injected_answer Failure = Err Failed
injected_answer (Cut mask) = Err Off
injected_answer PowerOff = Err Off

-- how an answer stopped, if it did
abbrev pub stop_of : {T : Type 0} → Result T FlashStop → Option FlashStop
stop_of (Ok _) = None
stop_of (Err stop) = Some stop

-- this holds of a way to go of an operation that answered so. With the power off before it, it went as a cut
-- with the mask 0, which changes nothing
abbrev pub Went : {T : Type 0} → Result T FlashStop → (Injected → Type 0) → Type 0
Went (Ok _) Holds = Holds Nothing
Went (Err Failed) Holds = Holds Failure
Went (Err Off) Holds = (mask : ℕ) × Holds (Cut mask)
