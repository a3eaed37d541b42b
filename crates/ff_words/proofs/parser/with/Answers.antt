use Rattle.std.proofs.Common.{◌||◌, ◌∙◌, ap, ap₂}
use Rattle.std.proofs.lemmas.Result.{IfOk-weaker}
use Rattle.clap.specs.Words.{App, with_subcommand}
use Rattle.ff_words.proofs.parser.with.Goals as goal

pub returns : goal.returns
returns c a b above below =
    IfOk-weaker c.subcommand.result _ _ (λ all adds. record {
      told = adds.shape below.own ∙ ap₂ with_subcommand above.told (ap (λ (x : App). x.top) below.told);
      own = adds.globals ∙ ap₂ ◌||◌ above.own below.own;
    }) c.subcommand.ensures
