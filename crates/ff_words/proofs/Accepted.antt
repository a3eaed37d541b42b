-- Where `clap` finds no fault, a command was entered.
use Rattle.std.proofs.Common.{◌≡◌, List, [], Option, Some, None, Bool, true, false, codes, cond, option_map, refl}
use Rattle.std.specs.Prelude.{is_some}
use Rattle.std.specs.Option.{option_map_or}
use Rattle.clap.specs.Kinds.{Kinds}
use Rattle.clap.specs.Walk.{Row, Text, answers_to, nothing_held, stop_after}
use Rattle.clap.specs.Simple.{Shape, argument_words, built, built_leaf, entered, inherited, label_of, names_of, new_app, rows_at, subcommand_of}
use Rattle.clap.specs.Faults.{entered_fault, fault_of, level_fault}
use Rattle.ff_words.specs.CommandLine.{flatflash, named}
use Rattle.ff_words.specs.Words.{IsEntered, IsNoCommand}
use Rattle.ff_words.specs.declared.asked.Command.{Command}
use Rattle.ff_words.specs.declared.asked.Command.TheVariants.{Schedule, Threads, Load}
use Rattle.ff_words.proofs.Load.{built_load, LevelPasses, level-passes, load-given}

-- the commands as they are built
abbrev built_schedule : Shape
built_schedule = built_leaf (inherited named.top (new_app (codes "schedule")).top)

abbrev built_threads : Shape
built_threads = built_leaf (inherited named.top (new_app (codes "threads")).top)

-- what a name and the words behind it enter, and their faults
abbrev rows_in : List Text → Option Shape → Option (Text × List Row)
rows_in words = option_map (λ s. rows_at s words)

abbrev HasEntered : List Text → Option Shape → Type 0
HasEntered words found = option_map_or (λ s. level_fault s [] nothing_held words false []) found [] ≡ []
    → is_some (rows_in words found) ≡ true → (command : Command) × IsEntered (rows_in words found) command

by-name : (words : List Text) (a b c : Bool) → HasEntered words (cond a (Some built_schedule) (cond b (Some built_threads) (cond c (Some built_load) None)))
by-name words true b c = λ passes some. (Schedule, refl)
by-name words false true c = λ passes some. (Threads, refl)
by-name words false false true = λ passes some. let given = load-given words passes in (Load given.0, (refl, given.1))
by-name words false false false = λ passes some. cc

enters : (stop : Option (Text × List Text)) → entered_fault (built flatflash) stop ≡ [] → is_some (entered (built flatflash) stop) ≡ true
    → (command : Command) × IsEntered (entered (built flatflash) stop) command
unfolding flatflash
enters None passes some = cc
enters (Some p) passes some =
    by-name p.1 (answers_to p.0 (label_of built_schedule)) (answers_to p.0 (label_of built_threads)) (answers_to p.0 (label_of built_load)) passes some

-- the last check wants a subcommand
wanted : (words : List Text) (some : Bool) (below : Kinds) → LevelPasses (built flatflash).top (names_of (built flatflash)) words some below → some ≡ true
unfolding flatflash
wanted words true below passes = refl
wanted words false below passes = let checks = passes.checks in cc

-- so words with no fault enter a command
pub accepted-enters : (words : List Text) → fault_of flatflash words ≡ [] → IsNoCommand (subcommand_of flatflash words) → ⊥
accepted-enters words accepted none =
    let rest : List Text = argument_words flatflash words in
    let stop : Option (Text × List Text) = stop_after (built flatflash).top.rules (names_of (built flatflash)) rest in
    let some : Bool = is_some (entered (built flatflash) stop) in
    let level = level-passes (built flatflash).top (names_of (built flatflash)) rest some (entered_fault (built flatflash) stop) accepted in
    let got = enters stop level.below_passes (wanted rest some _ level) in
    none got.0 got.1
