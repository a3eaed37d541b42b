use Rattle.std.proofs.Common.{◌∙◌, ap}
use Rattle.std.proofs.lemmas.Result.{IfOk-weaker}
use Rattle.ff_settings.specs.Document.{cut_of}
use Rattle.ff_settings.specs.Values.{items_in}
use Rattle.ff_settings.proofs.Lists.{map-viewed}
use Rattle.ff_settings.proofs.reading.cut_list_of.Goals as goal

pub returns : goal.returns
returns c =
    let seen = c.items_in.ensures ∙ ap items_in c.value_at.ensures in
    IfOk-weaker c.cuts_of.result _ _
    (λ cuts read. read ∙ map-viewed cut_of c.items_in.result.now _ seen)
    c.cuts_of.ensures
