use Rattle.std.proofs.Common.{arith, sym}
use Rattle.ff_rrip.proofs.Olders.{gives_way, is_first, passed, stays}
use Rattle.ff_rrip.proofs.values.older.Goals as goal

pub is_allowed-requires : goal.is_allowed-requires
is_allowed-requires c = let within = c.requires.in_range in let few = c.requires.few in omega arith

pub returns-then-not-is_allowed : goal.returns-then-not-is_allowed
returns-then-not-is_allowed c =
    passed c.args.values.now c.args.allowed c.args.way c.args.found c.if-not-is_allowed.ensures c.requires.so_far

pub bounds-values-way : goal.bounds-values-way
bounds-values-way c = c.requires.in_range

pub returns-in-Some : goal.returns-in-Some
returns-in-Some c =
    stays c.args.values.now c.args.allowed c.args.way c.in-Some.first c.if-values-way.true
    (rw c.in-Some.is at c.requires.so_far)

pub returns-in_default : goal.returns-in_default
returns-in_default c =
    gives_way c.args.values.now c.args.allowed c.args.way c.in-Some.first c.if-values-way.false
    (sym c.if-not-is_allowed.ensures) (rw c.in-Some.is at c.requires.so_far)

pub returns-in_default-2 : goal.returns-in_default-2
returns-in_default-2 c =
    is_first c.args.values.now c.args.allowed c.args.way (sym c.if-not-is_allowed.ensures)
    (rw c.in_default.is at c.requires.so_far)
