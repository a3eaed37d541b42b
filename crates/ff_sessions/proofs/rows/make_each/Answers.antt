use Rattle.ff_sessions.proofs.StoppedRows.{caller_at, come_none, come_row, opened_none, room_row, stops_cut, stops_end, stops_power}
use Rattle.ff_sessions.proofs.rows.make_each.Goals as goal

pub make_row-requires : goal.make_row-requires
make_row-requires g c = record {
  caller = caller_at c.args.rows.now c.loop-row.row c.index-rows-row.result c.requires.callers c.loop-row-test.true c.index-rows-row.is;
  opened = c.loop-row.invariant.done.opened;
  room = room_row c.args.core.now c.loop-row.core c.args.rows.now c.args.at c.loop-row.numbers c.loop-row.row c.loop-row.made
      c.index-rows-row.result c.loop-row-test.true c.index-rows-row.is c.requires.room c.loop-row.invariant;
}

pub returns-in-Cut : goal.returns-in-Cut
returns-in-Cut g c =
    stops_cut c.args.core.now c.loop-row.core c.make_row.new.core c.args.rows.now c.args.at c.loop-row.numbers c.loop-row.row
    c.loop-row.made c.in-Cut.made c.index-rows-row.result c.loop-row-test.true c.index-rows-row.is c.loop-row.invariant c.in-Cut.ensures

pub returns-in-Power : goal.returns-in-Power
returns-in-Power g c =
    stops_power c.args.core.now c.loop-row.core c.make_row.new.core c.args.rows.now c.args.at c.loop-row.numbers
    c.make_row.new.numbers c.loop-row.row c.loop-row.made c.in-Power.arrive c.index-rows-row.result c.loop-row-test.true
    c.index-rows-row.is c.loop-row.invariant c.in-Power.ensures

pub loop-row-init : goal.loop-row-init
loop-row-init g c =
    come_none c.args.core.now c.args.rows.now c.args.at c.args.numbers.now
    (opened_none c.args.core.now c.args.numbers.now c.requires.on c.requires.calls c.requires.numbers)

pub loop-row-preserved : goal.loop-row-preserved
loop-row-preserved g c =
    come_row c.args.core.now c.loop-row.core c.make_row.new.core c.args.rows.now c.args.at c.loop-row.numbers c.make_row.new.numbers
    c.loop-row.row c.loop-row.made c.index-rows-row.result c.loop-row-test.true c.index-rows-row.is c.loop-row.invariant
    c.in-Done.ensures

pub returns : goal.returns
returns g c =
    stops_end c.args.core.now c.loop-row.core c.args.rows.now c.args.at c.loop-row.numbers c.loop-row.row c.loop-row.made
    c.loop-row-test.false c.loop-row.invariant
