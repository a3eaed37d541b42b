use Rattle.std.proofs.Common.{◌≡◌, [], List, Option, Some, None, Result, IfErr, MatchOption, map, string_bytes, subst, sym}
use Rattle.std.specs.Option.{ok_or}
use Rattle.clap.specs.Words.{Row, Text, fault_of, subcommand_of}
use Rattle.ff_words.specs.CommandLine.{flatflash}
use Rattle.ff_words.specs.Words.{AreRefused, IsEntered, IsNoCommand}
use Rattle.ff_words.specs.declared.asked.BadWords.{BadWords}
use Rattle.ff_words.specs.declared.asked.BadWords.TheVariants.{Usage}
use Rattle.ff_words.specs.declared.asked.Command.{Command}
use Rattle.ff_words.proofs.Accepted.{accepted-enters}
use Rattle.ff_words.proofs.reading.command.Goals as goal

abbrev ComesRefused : List Text → Result Command BadWords → Type 0
ComesRefused words result = IfErr result (λ cause. cause ≡ Usage → AreRefused words)

none-missing : (words : List Text) (entered : Option (Text × List Row)) (r : Option Command) → fault_of flatflash words ≡ []
    → entered ≡ subcommand_of flatflash words → MatchOption r (IsNoCommand entered) (IsEntered entered) → ComesRefused words (ok_or r Usage)
none-missing words entered (Some command) accepted same is = tt
none-missing words entered None accepted same is = absurd (accepted-enters words accepted (subst IsNoCommand same is))

pub returns-in-Ok-clause-refused : goal.returns-in-Ok-clause-refused
returns-in-Ok-clause-refused c =
    let words : List Text = map string_bytes c.args.words.now in
    subst (ComesRefused words) (sym c.ok_or.ensures.value)
    (none-missing words _ c.asked.result c.in-Ok.ensures.accepted c.in-Ok.ensures.rows c.asked.ensures)
