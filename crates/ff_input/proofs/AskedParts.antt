-- What an input asks for, by what its bytes ask for once they were read.
use Rattle.std.proofs.Common.{◌≡◌, ◌≤◌, ℕ, List, [], length, sym, subst}
use Rattle.std.specs.Prelude.{Option, Some, None, IfSome}
use Rattle.ff_input.specs.Asking.{IsInputCause, IsPartsCause}
use Rattle.ff_input.specs.Input.{ReadsWhole, SourceChange, input_limit}
use Rattle.ff_input.specs.declared.reading.BadInput.{BadInput}
use Rattle.ff_input.specs.declared.reading.BadInput.TheVariants as bad_input

such_in : (before after : Option (List ℕ)) (bytes : List ℕ) (IsSuch : List ℕ → Type 0)
    → IfSome before (λ input. (after ≡ Some []) × (length input ≤ input_limit) × (input ≡ bytes)) → IsSuch bytes
    → IfSome before (λ input. (after ≡ Some []) × (length input ≤ input_limit) × IsSuch input)
such_in None after bytes IsSuch read such = tt
such_in (Some input) after bytes IsSuch read such = (read.0, read.1, subst IsSuch (sym read.2) such)

-- the input that was read is such as its bytes are
pub whole_such : (source : SourceChange) (bytes : List ℕ) (IsSuch : List ℕ → Type 0)
    → ReadsWhole source (λ input. input ≡ bytes) → IsSuch bytes → ReadsWhole source IsSuch
whole_such source bytes IsSuch read such = record {
  bytes = such_in source.before source.after bytes IsSuch read.bytes such;
  faults = read.faults;
}

-- why the bytes are refused is why the input is
pub cause_of_parts : (source : SourceChange) (bytes : List ℕ) (why : BadInput)
    → ReadsWhole source (λ input. input ≡ bytes) → IsPartsCause bytes why → IsInputCause source why
cause_of_parts source bytes bad_input.NoMemory read cause = read.faults
cause_of_parts source bytes bad_input.ReadFault read cause = absurd cause
cause_of_parts source bytes bad_input.TooLong read cause = absurd cause
cause_of_parts source bytes bad_input.NoSeparator read cause = whole_such source bytes _ read cause
cause_of_parts source bytes (bad_input.BadSettings settings) read cause = whole_such source bytes _ read cause
cause_of_parts source bytes (bad_input.BadRow number) read cause = whole_such source bytes _ read cause
