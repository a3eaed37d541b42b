-- What the words of a command line ask for.
use Rattle.std.specs.Prelude.{◌≡◌, ◌≢◌, ◌<◌, ◌^◌, ℕ, List, [], Option, Some, option_map, option_and_then, codes}
use Rattle.std.specs.Str.Parse.{IsNumeral, digits_value, without_leading_plus}
use Rattle.clap.specs.Words.{Row, Text, fault_of, one_of, subcommand_of}
use Rattle.ff_words.specs.CommandLine.{flatflash}
use Rattle.ff_words.specs.declared.asked.Command.{Command}
use Rattle.ff_words.specs.declared.asked.Command.TheVariants.{Schedule, Threads, Load}

-- `clap` refuses the words
abbrev pub AreRefused : List Text → Type 0
AreRefused words = fault_of flatflash words ≢ []

-- the name of a command that was entered
abbrev pub name_in : Option (Text × List Row) → Option Text
name_in entered = option_map (λ (name, rows). name) entered

-- the text of its number
abbrev pub number_in : Option (Text × List Row) → Option Text
number_in entered = option_and_then (λ (name, rows). one_of (codes "N") rows) entered

-- a text is the number, in decimal digits behind a plus or none
pub record IsNumberText (text : Text) (number : ℕ) : Type 0 where
  pub numeral : IsNumeral 10 (without_leading_plus text)
  pub value : number ≡ digits_value 10 (without_leading_plus text)
  pub fits : number < 2 ^ 32

-- a number was given
pub record HasNumber (given : Option Text) (number : ℕ) : Type 0 where
  pub text : Text
  pub is_given : given ≡ Some text
  pub is_number : IsNumberText text number

-- the command that was entered
abbrev pub IsEntered : Option (Text × List Row) → Command → Type 0
IsEntered entered Schedule = name_in entered ≡ Some (codes "schedule")
IsEntered entered Threads = name_in entered ≡ Some (codes "threads")
IsEntered entered (Load number) =
    (name_in entered ≡ Some (codes "load")) × HasNumber (number_in entered) number

-- no number was given
abbrev pub HasNoNumber : Option Text → Type 0
HasNoNumber given = (number : ℕ) → HasNumber given number → ⊥

-- no command was entered
abbrev pub IsNoCommand : Option (Text × List Row) → Type 0
IsNoCommand entered = (command : Command) → IsEntered entered command → ⊥

-- `clap` accepts the words and enters this command
pub record AskFor (words : List Text) (command : Command) : Type 0 where
  pub accepted : fault_of flatflash words ≡ []
  pub entered : IsEntered (subcommand_of flatflash words) command
