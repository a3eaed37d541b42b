-- What every store keeps makes its flash one that can be mounted.
use Rattle.ff_store.proofs.Remounting.{remountable}
use Rattle.ff_layer_tests.proofs.tests.stores.rig.left.Goals as goal

pub returns : goal.returns
returns c = rw c.into_flash.ensures (remountable c.args.geometry.now c.args.store c.known.ensures.store c.requires)
