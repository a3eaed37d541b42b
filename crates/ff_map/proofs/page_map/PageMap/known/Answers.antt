use Rattle.ff_map.proofs.Inverse.{sound_view}
use Rattle.ff_map.proofs.page_map.PageMap.known.Goals as goal

pub returns : goal.returns
returns c = rw (← c.self.view_is) (sound_view _ _ c.self.inside.next_version c.self.invariant.inverse c.self.invariant.pages c.self.invariant.places)
