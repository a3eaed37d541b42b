use Rattle.std.proofs.Common.{◌∙◌, ap, map, sym}
use Rattle.std.specs.Prelude.{Some}
use Rattle.toml.specs.View.{view}
use Rattle.toml.proofs.Views.{view-Array}
use Rattle.ff_settings.specs.Values.{items_in}
use Rattle.ff_settings.proofs.Lists.{items-viewed}
use Rattle.ff_settings.proofs.values.items_of.Goals as goal

pub returns-in-Array : goal.returns-in-Array
returns-in-Array c =
    ap (map view) c.deref.ensures.value ∙ items-viewed c.in-Array.values.items
    ∙ sym (ap (λ value. items_in (Some value)) (ap view c.in-Array.is ∙ view-Array c.in-Array.values))
