use Rattle.std.proofs.Common.{ap}
use Rattle.ff_core.specs.Record.{RecordView}
use Rattle.ff_sessions.proofs.Ended.{ran_so}
use Rattle.ff_sessions.proofs.running.run_session.Goals as goal

pub returns : goal.returns
returns g c =
    ran_so c.args.core c.make_rows-stop.new.core c.args.rows.now c.args.at c.make_rows-stop.result c.arrival-arrive.result
    c.power.result c.requires.begun c.make_rows-stop.ensures (rw c.flash.ensures at c.arrival-arrive.ensures.known)
    (rw (c.flash.ensures, c.geometry.ensures) at c.arrival-arrive.ensures.arrive) (record {
      base = c.power.ensures.base;
      entries = ap (λ (a : RecordView). a.entries) c.power.ensures.account;
      turns = ap (λ (a : RecordView). a.turns) c.power.ensures.account;
      events = ap (λ (a : RecordView). a.events) c.power.ensures.account;
      flash = c.power.ensures.flash;
      tuner = c.power.ensures.tuner;
      good = c.power.ensures.good;
      owed = c.power.ensures.lost;
    })
