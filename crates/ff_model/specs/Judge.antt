-- How a session was opened, as the judge of a history holds it.
use Rattle.ff_model.specs.Legal.{Opening}
use Rattle.ff_model.specs.declared.judge.JudgedFrom.{JudgedFrom}

-- the opening that is meant
abbrev pub opening_in : JudgedFrom → Opening
opening_in start =
    record { base = start.base.now; pages = start.pages; capacity = start.capacity; event = start.event; faults = start.faults }
