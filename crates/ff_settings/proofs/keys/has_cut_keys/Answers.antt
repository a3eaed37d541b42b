use Rattle.std.proofs.Common.{◌∙◌, ap, sym}
use Rattle.toml.specs.View.{view}
use Rattle.toml.proofs.Views.{view-Table}
use Rattle.ff_settings.specs.Keys.{has_cut_keys, is_cut_key}
use Rattle.ff_settings.proofs.Lists.{all_keys}
use Rattle.ff_settings.proofs.keys.has_cut_keys.Goals as goal

pub returns-in-Table : goal.returns-in-Table
returns-in-Table c =
    c.has_keys_of_a_cut.ensures ∙ all_keys is_cut_key c.in-Table.table.entries
    ∙ sym (ap has_cut_keys (ap view c.in-Table.is ∙ view-Table c.in-Table.table))
