use Rattle.ff_flash.specs.Injected.{stop_of}
use Rattle.ff_device.proofs.SeenPages.{length-pages, pages_same}
use Rattle.ff_device.proofs.SeenRoom.{has_room}
use Rattle.ff_device.proofs.SeenSteps.{flushed, none_waits}
use Rattle.ff_device.proofs.StoreCalls.{as_many_pages}
use Rattle.ff_device.proofs.store_steps.flush_step.Goals as goal

pub returns-clause-calls : goal.returns-clause-calls
returns-clause-calls g c =
    record { with_power = c.flush_step.ensures.call; without_power = λ down. (c.flush_step.ensures.off down).1 }

pub flush_step-requires-clause-none : goal.flush_step-requires-clause-none
flush_step-requires-clause-none g c = none_waits c.args.store.now c.requires.idle

pub flush_step-requires-clause-page : goal.flush_step-requires-clause-page
flush_step-requires-clause-page g c = rw (← length-pages c.args.store.now) c.requires.page

pub flush_step-requires-clause-room : goal.flush_step-requires-clause-room
flush_step-requires-clause-room g c = has_room c.args.store.now c.args.page c.requires.page c.requires.room

pub returns-clause-step : goal.returns-clause-step
returns-clause-step g c =
    flushed c.args.store.now c.flush_step.new.self c.args.page c.args.from.now c.flush_step.result c.flush_step.ensures.off
    c.flush_step.ensures.step c.flush_step.ensures.programmed c.flush_step.ensures.none c.flush_step.ensures.left

pub returns-clause-pages : goal.returns-clause-pages
returns-clause-pages g c =
    let size = as_many_pages c.args.store.now c.flush_step.new.self (stop_of c.flush_step.result)
    (record { with_power = c.flush_step.ensures.call; without_power = λ down. (c.flush_step.ensures.off down).1 }) in
    pages_same c.args.store.now c.flush_step.new.self size c.flush_step.ensures.same
