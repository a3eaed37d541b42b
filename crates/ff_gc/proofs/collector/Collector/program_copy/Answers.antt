use Rattle.std.proofs.Common.{refl}
use Rattle.ff_gc.proofs.collector.Collector.program_copy.Goals as goal

pub begin-requires : goal.begin-requires
begin-requires g c = c.requires.counted

pub program-requires-clause-place : goal.program-requires-clause-place
program-requires-clause-place g c = c.requires.place

pub program-requires-clause-erased : goal.program-requires-clause-erased
program-requires-clause-erased g c = c.requires.erased

pub program-requires-clause-life : goal.program-requires-clause-life
program-requires-clause-life g c = c.requires.life

pub advance-requires-clause-in_range : goal.advance-requires-clause-in_range
advance-requires-clause-in_range g c = c.requires.block

pub advance-requires-clause-can : goal.advance-requires-clause-can
advance-requires-clause-can g c = c.requires.can

pub invariant_of-self : goal.invariant_of-self
invariant_of-self g c = c.self.invariant

pub advance-requires-in-Err-Failed-clause-in_range : goal.advance-requires-in-Err-Failed-clause-in_range
advance-requires-in-Err-Failed-clause-in_range g c = c.requires.block

pub advance-requires-in-Err-Failed-clause-can : goal.advance-requires-in-Err-Failed-clause-can
advance-requires-in-Err-Failed-clause-can g c = c.requires.can

pub returns-in-Ok : goal.returns-in-Ok
returns-in-Ok g c =
    rw (← c.self.view_is) record {
      at = c.args.at;
      at_is = rw (← c.self.view_is) at c.requires.at;
      operation = record { flash = c.in-Ok.ensures.counts; counts = c.begin.ensures };
      cells = rw c.spare.ensures at c.in-Ok.ensures.cells;
      step = refl;
      gc = refl;
      table = c.advance.ensures;
      places = refl;
    }

pub returns-in-Err-Failed : goal.returns-in-Err-Failed
returns-in-Err-Failed g c = record {
  at = c.args.at;
  at_is = c.requires.at;
  operation = record { flash = rw c.in-Err-Failed.field-0-is at c.in-Err-Failed.ensures.counts; counts = c.begin.ensures };
  cells = rw c.in-Err-Failed.field-0-is at c.in-Err-Failed.ensures.cells;
  step = tt;
  gc = refl;
  table = c.advance-in-Err-Failed.ensures;
  places = refl;
}

pub returns-in-Err-Off : goal.returns-in-Err-Off
returns-in-Err-Off g c = record {
  at = c.args.at;
  at_is = c.requires.at;
  operation = record { flash = rw c.in-Err-Off.field-0-is at c.in-Err-Off.ensures.counts; counts = c.begin.ensures };
  cells = rw c.in-Err-Off.field-0-is at c.in-Err-Off.ensures.cells;
  step = tt;
  gc = refl;
  table = refl;
  places = refl;
}
