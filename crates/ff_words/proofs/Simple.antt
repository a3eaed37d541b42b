-- The command line is one of those of which `clap` states the meaning.
use Rattle.std.proofs.Common.{◌≡◌, [], ◌∷◌, true, inl, inr, refl}
use Rattle.clap.specs.Words.{HasKind, Kinds, is_simple, is_simple_and_free, kind_of}
use Rattle.clap.specs.declared.error.Error.{Error}
use Rattle.clap.specs.declared.error.kind.ErrorKind.TheVariants as kind
use Rattle.clap.proofs.OnLiterals.{clap_on_literals}
use Rattle.ff_words.specs.CommandLine.{flatflash}

pub simple_and_free : is_simple_and_free flatflash ≡ true
unfolding clap_on_literals flatflash
simple_and_free = refl

pub simple : is_simple flatflash ≡ true
unfolding clap_on_literals flatflash
simple = refl

-- an error that isn't want of memory comes only where some kind of refusal does
pub refused_by : (kinds : Kinds) (error : Error) → HasKind kinds error → (kind_of error ≡ kind.OutOfMemory → ⊥) → kinds ≡ [] → ⊥
refused_by kinds error (inl memory) other none = other memory
refused_by [] error (inr among) other none = among
refused_by (k ∷ ks) error (inr among) other none = cc
