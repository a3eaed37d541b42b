use Rattle.std.proofs.Common.{◌∙◌, ap}
use Rattle.ff_settings.specs.Keys.{has_cut_keys, is_key}
use Rattle.ff_settings.specs.Values.{items_in}
use Rattle.ff_settings.proofs.Lists.{all-viewed, all_keys, both, stops}
use Rattle.ff_settings.proofs.keys.has_known_keys.Goals as goal

pub returns-then-has_keys : goal.returns-then-has_keys
returns-then-has_keys c =
    let seen = c.items_in.ensures ∙ ap items_in c.value_at.ensures in
    both _ _ c.has_keys.result c.have_cut_keys.result
    (c.has_keys.ensures ∙ all_keys (is_key c.args.threads) c.args.table.now.entries) c.if-has_keys.true
    (all-viewed has_cut_keys c.items_in.result.now _ _ seen c.have_cut_keys.ensures)

pub returns-else-has_keys : goal.returns-else-has_keys
returns-else-has_keys c =
    stops _ _ c.has_keys.result
    (c.has_keys.ensures ∙ all_keys (is_key c.args.threads) c.args.table.now.entries) c.if-has_keys.false
