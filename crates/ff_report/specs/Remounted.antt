-- What a contract sees of what the remount after a session came to.
use Rattle.ff_model.specs.Image.{Content}

-- the image that it found, or that it met a fault of the flash, or that the power went
pub data RemountedView : Type 0 where
  Found : Content → RemountedView
  Faulted Cut : RemountedView
