-- How each event is counted.
use Rattle.std.specs.Prelude.{◌+◌}
use Rattle.ff_memory.specs.declared.access.Side.{Side}
use Rattle.ff_memory.specs.declared.access.Side.TheVariants.{Device, Host, Neither}
use Rattle.ff_memory.specs.declared.access.What.{What}
use Rattle.ff_memory.specs.declared.access.What.TheVariants.{Landed, Dropped, Started}
use Rattle.ff_core.specs.declared.action.Action.{Action}
use Rattle.ff_core.specs.declared.action.Action.TheVariants.{Promote}
use Rattle.ff_core.specs.declared.action.Progress.{Progress}
use Rattle.ff_core.specs.declared.action.Progress.TheVariants.{Did}
use Rattle.ff_core.specs.declared.tally.EventTally.{EventTally}

-- nothing was done
abbrev pub no_tally : EventTally
no_tally = record { device = 0; host = 0; landed = 0; dropped = 0; promoted = 0; retreated = 0 }

-- a call was served by this side
abbrev pub served_by : Side → EventTally → EventTally
served_by Device tally = record tally { device = tally.device + 1 }
served_by Host tally = record tally { host = tally.host + 1 }
served_by Neither tally = tally

-- a page began to move: it came in, or it went back
abbrev pub started_by : Action → EventTally → EventTally
started_by (Promote page) tally = record tally { promoted = tally.promoted + 1 }
started_by action tally = record tally { retreated = tally.retreated + 1 }

-- an action did this
abbrev pub did_what : Action → What → EventTally → EventTally
did_what action Landed tally = record tally { landed = tally.landed + 1 }
did_what action Dropped tally = record tally { dropped = tally.dropped + 1 }
did_what action Started tally = started_by action tally
did_what action what tally = tally

-- an action came to this
abbrev pub tally_after : Action → Progress → EventTally → EventTally
tally_after action (Did what) tally = did_what action what tally
tally_after action progress tally = tally
