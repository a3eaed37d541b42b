-- Which of many operations the plan stops first.
use Rattle.std.proofs.Common.{◌≡◌, ◌≤◌, ◌+◌, ◌-◌, ℕ, Option, None, Some, ap, subst, ◌∙◌, arith}
use Rattle.std.specs.Prelude.{Ok, Err}
use Rattle.std.specs.Option.{option_or}
use Rattle.ff_flash.specs.Plans.{Planned}
use Rattle.ff_flash.specs.declared.flash.FlashStop.{FlashStop}
use Rattle.ff_flash.specs.declared.flash.FlashStop.TheVariants.{Failed, Off as FlashOff}
use Rattle.ff_mount.specs.Reading.{GoesByTold}
use Rattle.ff_mount.specs.Stops.{StopsBy}
use Rattle.ff_mount.specs.declared.stop.MountStop.{MountStop}
use Rattle.ff_mount.specs.declared.stop.MountStop.TheVariants.{NoMemory, Fault, Off}
use Rattle.ff_scan.proofs.Probed.{first_stop-add}
use Rattle.ff_scan.specs.Probing.{first_stop}

-- the first run went well
second_stop : (plan : Planned) (made n m : ℕ) → first_stop plan made n ≡ None
    → first_stop plan made (n + m) ≡ first_stop plan (made + n) m
second_stop plan made n m went =
    first_stop-add plan made n m ∙ ap (λ (o : Option FlashStop). option_or o (first_stop plan (made + n) m)) went

-- the first run was stopped
earlier_stop : (plan : Planned) (made n m : ℕ) (stop : FlashStop) → first_stop plan made n ≡ Some stop
    → first_stop plan made (n + m) ≡ Some stop
earlier_stop plan made n m stop is =
    first_stop-add plan made n m ∙ ap (λ (o : Option FlashStop). option_or o (first_stop plan (made + n) m)) is

stops_second : (plan : Planned) (made n m : ℕ) (stop : MountStop) → first_stop plan made n ≡ None
    → StopsBy plan (made + n) m stop → StopsBy plan made (n + m) stop
stops_second plan made n m NoMemory went stops = tt
stops_second plan made n m Fault went stops = second_stop plan made n m went ∙ stops
stops_second plan made n m Off went stops = second_stop plan made n m went ∙ stops

stops_within : (plan : Planned) (made n m : ℕ) (stop : MountStop) → StopsBy plan made n stop → StopsBy plan made (n + m) stop
stops_within plan made n m NoMemory stops = tt
stops_within plan made n m Fault stops = earlier_stop plan made n m Failed stops
stops_within plan made n m Off stops = earlier_stop plan made n m FlashOff stops

-- both went well
pub planned_both : (told : Option Planned) (made n m : ℕ) → GoesByTold {T = Unit {0}} told made n (Ok tt)
    → GoesByTold {T = Unit {0}} told (made + n) m (Ok tt) → GoesByTold {T = Unit {0}} told made (n + m) (Ok tt)
planned_both None made n m first second = tt
planned_both (Some plan) made n m first second = second_stop plan made n m first ∙ second

-- the second was stopped: it is the first stop of all that were to be made
pub planned_stop : (told : Option Planned) (made n m total : ℕ) (stop : MountStop) → n + m ≤ total
    → GoesByTold {T = Unit {0}} told made n (Ok tt) → GoesByTold {T = Unit {0}} told (made + n) m (Err stop)
    → GoesByTold {T = Unit {0}} told made total (Err stop)
planned_stop None made n m total stop within first second = tt
planned_stop (Some plan) made n m total stop within first second =
    let all : n + m + (total - (n + m)) ≡ total = omega arith in
    subst (λ k. StopsBy plan made k stop) all
    (stops_within plan made (n + m) (total - (n + m)) stop (stops_second plan made n m stop first second))
