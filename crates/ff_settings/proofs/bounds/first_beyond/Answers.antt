use Rattle.std.proofs.Common.{◌∙◌, ap}
use Rattle.std.specs.Prelude.{Some}
use Rattle.ff_settings.specs.Given.{given_view}
use Rattle.ff_settings.proofs.Within.{first-broken, first-later}
use Rattle.ff_settings.proofs.bounds.first_beyond.Goals as goal

pub returns-in-Err : goal.returns-in-Err
returns-in-Err c = ap Some c.name_of.ensures ∙ first-broken (given_view c.args.given.now) c.in-Err.limit c.in-Err.ensures.err

pub returns-in-Ok : goal.returns-in-Ok
returns-in-Ok c = c.later_beyond.ensures ∙ first-later (given_view c.args.given.now) c.in-Ok.ensures.ok
