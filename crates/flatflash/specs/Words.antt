-- What the words ask the program for.
use Rattle.std.specs.Prelude.{ℕ, ◌⊎◌, ⊤, List}
use Rattle.ff_words.specs.Words.{AreRefused, AskFor}
use Rattle.ff_words.specs.declared.asked.Command.TheVariants.{Schedule, Threads, Load}
use Rattle.flatflash.specs.declared.refusal.Refusal.{Refusal}
use Rattle.flatflash.specs.declared.refusal.Refusal.TheVariants as refusal
use Rattle.flatflash.specs.declared.words.Task.{Task}
use Rattle.flatflash.specs.declared.words.Task.TheVariants as asked

-- the words ask for a run of the input, row by row
abbrev pub AskToSchedule : List (List ℕ) → Type 0
AskToSchedule words = AskFor words Schedule

-- the words ask for a run of the rows that a number makes
abbrev pub AskToLoad : List (List ℕ) → ℕ → Type 0
AskToLoad words number = AskFor words (Load number)

-- the words are no command that the program runs: those that ask for threads aren't one yet
abbrev pub AreNoCommand : List (List ℕ) → Type 0
AreNoCommand words = AreRefused words ⊎ AskFor words Threads

-- why words are refused; want of memory has no cause
abbrev pub IsWordsCause : List (List ℕ) → Refusal → Type 0
IsWordsCause words refusal.NoMemory = ⊤
IsWordsCause words refusal.Usage = AreNoCommand words
IsWordsCause words (refusal.Input why) = ⊥

-- the words ask for this
abbrev pub AskForWork : List (List ℕ) → Task → Type 0
AskForWork words asked.Schedule = AskToSchedule words
AskForWork words (asked.Load number) = AskToLoad words number
