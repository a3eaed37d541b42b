use Rattle.std.proofs.Common.{◌≡◌, ◌∙◌, ◌-◌, List, drop, length, length-drop, sym, subst, arith}
use Rattle.std.proofs.lemmas.List.{take_all}
use Rattle.ff_trace.specs.declared.row.Row.{Row}
use Rattle.ff_sessions.specs.Making.{HasRoomFor}
use Rattle.ff_sessions.specs.Stops.{items_from}
use Rattle.ff_sessions.proofs.chain.open_behind.Goals as goal

pub returns-in-Ok-clause-next : goal.returns-in-Ok-clause-next
returns-in-Ok-clause-next g c =
    let rows = c.args.rows.now in
    let at = c.in-Some.at in
    let size = length-drop at.row rows in
    let left = take_all (length rows - at.row) (drop at.row rows) (omega arith) in
    record {
      cursor = sym c.behind.ensures ∙ c.in-Some.is;
      begun = λ base is.
          let image = c.in-Some-image.is in
          let same : c.in-Some-image.base ≡ base = cc in
          rw (same, c.events-event.ensures) at c.in-Ok.ensures.begun;
      room = subst (λ (rows : List Row). HasRoomFor c.in-Ok.core (items_from at.made rows)) left (c.in-Ok.ensures.room at.made);
    }
