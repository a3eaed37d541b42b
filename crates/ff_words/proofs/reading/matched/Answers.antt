use Rattle.std.proofs.Common.{◌≡◌, ◌∙◌, List, ap, map, string_bytes, subst, sym}
use Rattle.clap.specs.Words.{App, HasKind, Text, app_of, fault_of, is_simple, is_simple_and_free, subcommand_of}
use Rattle.ff_words.specs.CommandLine.{flatflash}
use Rattle.ff_words.proofs.Simple.{refused_by, simple, simple_and_free}
use Rattle.ff_words.proofs.reading.matched.Goals as goal

pub returns-in-Ok-try_get_matches_from-clause-accepted :
    goal.returns-in-Ok-try_get_matches_from-clause-accepted
returns-in-Ok-try_get_matches_from-clause-accepted c =
    let words : List Text = map string_bytes c.args.words.now in
    let app : app_of c.in-Ok.parser ≡ flatflash = c.in-Ok.ensures in
    sym (ap (λ (a : App). fault_of a words) app)
    ∙ c.in-Ok-try_get_matches_from.ensures.kinds (ap is_simple_and_free app ∙ simple_and_free)

pub returns-in-Ok-try_get_matches_from-clause-rows : goal.returns-in-Ok-try_get_matches_from-clause-rows
returns-in-Ok-try_get_matches_from-clause-rows c =
    let words : List Text = map string_bytes c.args.words.now in
    let app : app_of c.in-Ok.parser ≡ flatflash = c.in-Ok.ensures in
    (c.in-Ok-try_get_matches_from.ensures.matches (ap is_simple app ∙ simple)).1
    ∙ ap (λ (a : App). subcommand_of a words) app

pub returns-in-Err-clause-refused : goal.returns-in-Err-clause-refused
returns-in-Err-clause-refused c = λ usage.
    let words : List Text = map string_bytes c.args.words.now in
    let app : app_of c.in-Ok.parser ≡ flatflash = c.in-Ok.ensures in
    refused_by (fault_of flatflash words) c.in-Err.error
    (subst (λ (a : App). HasKind (fault_of a words) c.in-Err.error) app
    (c.in-Err.ensures.kinds (ap is_simple_and_free app ∙ simple_and_free)))
    (c.refusal_of.ensures usage)
