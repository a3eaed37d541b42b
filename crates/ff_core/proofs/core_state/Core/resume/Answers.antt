use Rattle.std.proofs.Common.{ap, length, ◌∙◌}
use Rattle.ff_model.specs.Image.{Content}
use Rattle.ff_mount.specs.Held.{nv_of}
use Rattle.ff_core.proofs.ResumeHeld.{content-size}
use Rattle.ff_core.proofs.ResumeSound.{resumed-kept}
use Rattle.ff_core.proofs.core_state.Core.resume.Goals as goal

pub resumed_state-requires-clause-size : goal.resumed_state-requires-clause-size
resumed_state-requires-clause-size g c =
    ap (λ (base : Content). length base.pages) c.requires.base
    ∙ content-size c.args.geometry.pages (nv_of c.args.mounted.cache c.args.mounted.marks) c.args.mounted.store.world.flash.cells

pub invariant_of-result : goal.invariant_of-result
invariant_of-result g c =
    resumed-kept c.in-Ok.state c.args.geometry c.args.mounted.store c.args.mounted.cache c.args.mounted.marks c.args.base.now
    c.args.tuner c.args.picker c.args.room c.args.from_event c.in-Ok.ensures c.requires.base c.requires.limits
    (record {
      store_sound = c.parts_known.ensures.store;
      recoverable = c.parts_known.ensures.recoverable;
      cache_sound = c.parts_known.ensures.cache;
    })
    c.requires.parts c.known.ensures.calls c.known.ensures.turns
