use Rattle.std.proofs.Common.{subst, sym}
use Rattle.ff_flash.specs.FlashState.{FlashState}
use Rattle.ff_mount.proofs.Refusing.{all_ok, both_err, mounted_parts, refused_parts, remountable}
use Rattle.ff_mount.proofs.mounting.mount.Goals as goal
use Rattle.ff_store.specs.Remounted.{IsRemountable}

pub mount_store-requires-clause-sound : goal.mount_store-requires-clause-sound
mount_store-requires-clause-sound g c =
    subst (λ (f : FlashState). IsRemountable c.args.geometry.now f) (sym c.power_up.ensures)
    (remountable c.args.geometry.now c.args.nv (g.F.Flash.state c.args.flash) c.requires.sound)

pub returns-in-Ok-clause-mounted : goal.returns-in-Ok-clause-mounted
returns-in-Ok-clause-mounted g c =
    all_ok c.mount_store.result _ _ _ _ _ _
    (λ mounted remounted sound probed cache marks.
    mounted_parts c.args.geometry.now c.args.nv (g.F.Flash.state c.args.flash) (g.F.Flash.state c.power_up.new.self)
    c.in-Ok.parts.cache c.in-Ok.parts.marks mounted.store mounted.cache mounted.marks c.requires.sound c.in-Ok.ensures.cache
    c.in-Ok.ensures.marks c.power_up.ensures remounted sound probed cache marks)
    c.mount_store.ensures.store c.mount_store.ensures.sound c.mount_store.ensures.flash c.mount_store.ensures.cache
    c.mount_store.ensures.marks

pub returns-in-Ok-clause-refused : goal.returns-in-Ok-clause-refused
returns-in-Ok-clause-refused g c =
    both_err c.mount_store.result _ _ _
    (λ back content stopped.
    refused_parts c.args.geometry.now c.args.nv (g.F.Flash.state c.args.flash) (g.F.Flash.state c.power_up.new.self)
    (g.F.Flash.state back.flash) c.in-Ok.parts.cache c.in-Ok.parts.marks back.nv back.stop c.requires.sound
    c.in-Ok.ensures.cache c.in-Ok.ensures.marks c.power_up.ensures content stopped)
    c.mount_store.ensures.nv c.mount_store.ensures.back
