use Rattle.std.proofs.Common.{refl}
use Rattle.ff_rrip.specs.Ways.{IsVictimWay}
use Rattle.ff_rrip.proofs.Victims.{kept_after, oldest_victim}
use Rattle.ff_rrip.proofs.values.victim.Goals as goal

pub returns-clause-found : goal.returns-clause-found
returns-clause-found c = rw c.raise.ensures (oldest_victim c.args.allowed c.args.values.now c.in_ok-way.way _ c.requires (rw c.in_ok-way.was at c.oldest.ensures) refl)

pub returns-clause-kept : goal.returns-clause-kept
returns-clause-kept c =
    let found : IsVictimWay c.args.allowed c.args.values.now c.raise.new.values c.in_ok-way.way = returns-clause-found c in
    kept_after c.args.allowed c.args.values.now c.raise.new.values c.in_ok-way.way c.requires found
