use Rattle.std.proofs.Common.{◌∙◌, ap}
use Rattle.std.specs.Prelude.{Some}
use Rattle.std.proofs.lemmas.Result.{IfOk-weaker}
use Rattle.ff_settings.specs.Values.{number_or, items_in}
use Rattle.ff_settings.proofs.Lists.{map-viewed}
use Rattle.ff_settings.proofs.reading.fail_of.Goals as goal

pub returns : goal.returns
returns c =
    let seen = c.items_in.ensures ∙ ap items_in c.value_at.ensures in
    IfOk-weaker c.numbers_of.result _ _
    (λ fail read. read ∙ map-viewed (λ value. number_or 0 (Some value)) c.items_in.result.now _ seen)
    c.numbers_of.ensures
