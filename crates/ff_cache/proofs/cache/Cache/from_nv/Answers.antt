use Rattle.std.proofs.Common.{◌∙◌, List, ap}
use Rattle.ff_cache.specs.Nv.{NvView, NvWay, ways_of}
use Rattle.ff_cache.proofs.Mounted.{ways_of_slots}
use Rattle.ff_cache.proofs.cache.Cache.from_nv.Goals as goal

pub returns-in-Err-clause-back : goal.returns-in-Err-clause-back
returns-in-Err-clause-back c =
    let kept : List NvWay → NvView = λ slots. record { slots = slots; marks = c.nv.inside.marks } in
    rw c.calm.ensures (ap kept (ways_of_slots (ways_of c.nv.inside.slots.items)) ∙ c.nv.view_is)
