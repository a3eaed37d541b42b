-- What one or more writes leave of a sink.
use Rattle.std.specs.Prelude.{ℕ, List, Option, Result, OnOk, OnErr}
use Rattle.std.specs.Io.KnownBytes.{Appends}
use Rattle.ff_io.specs.Faults.{CountsFault}
use Rattle.ff_io.specs.Known.{AppendsPrefix}
use Rattle.ff_io.specs.declared.traits.Failed.{Failed}

-- the text was appended and no write failed, or the last write failed and a prefix was appended
pub record Wrote (result : Result (Unit {0}) Failed) (before after : Option (List ℕ))
    (faults_before faults_after : ℕ) (text : List ℕ) : Type 0 where
  pub ok : OnOk result (Appends before after text)
  pub err : OnErr result (AppendsPrefix before after text)
  pub faults : CountsFault result faults_before faults_after
