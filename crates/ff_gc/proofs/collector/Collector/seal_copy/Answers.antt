use Rattle.std.proofs.Common.{refl}
use Rattle.ff_gc.proofs.collector.Collector.seal_copy.Goals as goal

pub begin-requires : goal.begin-requires
begin-requires g c = c.requires.counted

pub seal-requires-clause-place : goal.seal-requires-clause-place
seal-requires-clause-place g c = c.requires.place

pub seal-requires-clause-closed : goal.seal-requires-clause-closed
seal-requires-clause-closed g c = c.requires.closed

pub seal-requires-clause-life : goal.seal-requires-clause-life
seal-requires-clause-life g c = c.requires.life

pub past-requires : goal.past-requires
past-requires g c = rw (← c.self.view_is) at c.requires.some

pub phase_after-self-inside-requires-clause-some : goal.phase_after-self-inside-requires-clause-some
phase_after-self-inside-requires-clause-some g c = rw (← c.self.view_is) at c.requires.some

pub phase_after-self-inside-requires-clause-small : goal.phase_after-self-inside-requires-clause-small
phase_after-self-inside-requires-clause-small g c =
    rw c.past.ensures (rw (← c.self.view_is) at c.requires.small)

pub invariant_of-self-in-Err-Failed : goal.invariant_of-self-in-Err-Failed
invariant_of-self-in-Err-Failed g c = c.self.invariant

pub returns-in-Ok : goal.returns-in-Ok
returns-in-Ok g c =
    rw (← c.self.view_is) record {
      operation = record { flash = c.in-Ok.ensures.counts; counts = c.begin.ensures };
      cells = c.in-Ok.ensures.cells;
      step = refl;
      gc = record {
        phase = rw c.past.ensures at c.phase_after-self-inside.ensures;
        gc = rw (c.push_reserved.ensures.items, c.move_to.ensures) refl;
      };
      table = refl;
      places = refl;
    }

pub returns-in-Err-Failed : goal.returns-in-Err-Failed
returns-in-Err-Failed g c =
    rw (← c.self.view_is) record {
      operation = record { flash = rw c.in-Err-Failed.field-0-is at c.in-Err-Failed.ensures.counts; counts = c.begin.ensures };
      cells = rw c.in-Err-Failed.field-0-is at c.in-Err-Failed.ensures.cells;
      step = tt;
      gc = refl;
      table = refl;
      places = refl;
    }

pub returns-in-Err-Off : goal.returns-in-Err-Off
returns-in-Err-Off g c = record {
  operation = record { flash = rw c.in-Err-Off.field-0-is at c.in-Err-Off.ensures.counts; counts = c.begin.ensures };
  cells = rw c.in-Err-Off.field-0-is at c.in-Err-Off.ensures.cells;
  step = tt;
  gc = refl;
  table = refl;
  places = refl;
}
