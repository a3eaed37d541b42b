use Rattle.std.proofs.Common.{◌≡◌, true, false, refl, arith}
use Rattle.std.proofs.lemmas.Bool.Decides.{nat_tests}
use Rattle.std.specs.Prelude.{nat_le}
use Rattle.ff_gen.proofs.calls.access.Goals as goal

pub returns-then-kind-le8-clause-op : goal.returns-then-kind-le8-clause-op
returns-then-kind-le8-clause-op c =
    let load : nat_le c.args.kind 8 ≡ true = grind (arith, nat_tests, c.if-kind-le8.true) in
    rw (load, c.address-at.ensures, c.draw-line.ensures.number, c.draw-page.ensures.number, c.draw-page.ensures.state) refl

pub returns-else-kind-le8-clause-op : goal.returns-else-kind-le8-clause-op
returns-else-kind-le8-clause-op c =
    let store : nat_le c.args.kind 8 ≡ false = grind (arith, nat_tests, c.if-kind-le8.false) in
    rw (store, c.store.ensures.op, c.address-at.ensures, c.draw-line.ensures.number, c.draw-line.ensures.state, c.draw-page.ensures.number, c.draw-page.ensures.state) refl

pub returns-else-kind-le8-clause-state : goal.returns-else-kind-le8-clause-state
returns-else-kind-le8-clause-state c =
    let store : nat_le c.args.kind 8 ≡ false = grind (arith, nat_tests, c.if-kind-le8.false) in
    rw (store, c.store.ensures.state, c.draw-line.ensures.state, c.draw-page.ensures.state) refl
