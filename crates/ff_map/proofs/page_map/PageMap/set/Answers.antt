use Rattle.std.proofs.Common.{length, None, sym, ◌∙◌, ap, length-set}
use Rattle.std.proofs.lemmas.List.{get_or_read, take_at}
use Rattle.ff_map.proofs.Inverse.{inverse_after, length-released, place_there, place_within}
use Rattle.ff_map.proofs.page_map.PageMap.set.Goals as goal

pub release-requires : goal.release-requires
release-requires c old is =
    let page_within = rw (← c.self.view_is) at c.requires.page in
    let there = get_or_read c.self.inside.pages.items c.args.page.0 c.index-old.result.now page_within c.index-old.ensures None in
    rw c.deref_mut.ensures.value (place_within _ _ c.self.invariant.inverse c.args.page old.at (place_there _ c.args.page old (sym there ∙ is)))

pub invariant_of-self : goal.invariant_of-self
invariant_of-self c =
    let page_within = rw (← c.self.view_is) at c.requires.page in
    let place_within = rw (← c.self.view_is) at c.requires.place in
    let free = rw (← c.self.view_is) at c.requires.free in
    let there = get_or_read c.self.inside.pages.items c.args.page.0 c.index-old.result.now page_within c.index-old.ensures None in
    let released = rw (there, c.deref_mut.ensures.value) at c.release.ensures in
    let len = ap length released ∙ length-released _ c.self.inside.owners.items ∙ sym c.self.inside.owners.ok.0 in
    record {
      inverse = rw (take_at c.release.new.owners _ c.self.inside.owners.len len, released)
          (inverse_after c.self.inside.pages.items c.self.inside.owners.items c.args.page record { at = c.args.at; version = c.args.version } c.self.invariant.inverse page_within place_within free);
      pages = rw length-set c.self.invariant.pages;
      places = rw (take_at c.release.new.owners _ c.self.inside.owners.len len, released)
          (rw (length-set, length-released) c.self.invariant.places);
    }
