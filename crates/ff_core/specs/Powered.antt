-- That the power goes off by an operation that is cut, and by nothing else.
use Rattle.std.specs.Prelude.{◌<◌, ◌≡◌, true, false}
use Rattle.ff_flash.specs.FlashState.{FlashState}

-- an operation was made, and its cut turned the power off
pub record IsCutOff (old new : FlashState) : Type 0 where
  pub cut : new.cut ≡ true
  pub counted : old.operations < new.operations

-- where the power went off, an operation was cut
abbrev pub GoesOffByCut : FlashState → FlashState → Type 0
GoesOffByCut old new = old.on ≡ true → new.on ≡ false → IsCutOff old new
