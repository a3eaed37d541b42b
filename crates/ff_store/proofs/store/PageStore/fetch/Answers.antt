-- The page is mapped, and so its place is within the flash and sealed.
use Rattle.std.proofs.Common.{◌∙◌, ap, sym}
use Rattle.ff_map.specs.PageMap.{place_of}
use Rattle.ff_store.proofs.Calling.{fetched_bytes, fetched_call, fetched_kept, place_sealed, place_within}
use Rattle.ff_store.specs.PageStore.{PageStoreView}
use Rattle.ff_store.proofs.store.PageStore.fetch.Goals as goal

pub read-requires-clause-life : goal.read-requires-clause-life
read-requires-clause-life g c = c.requires.life

pub read-requires-clause-on : goal.read-requires-clause-on
read-requires-clause-on g c =
    ap (λ (s : PageStoreView). s.world.flash.on) (sym c.self.view_is) ∙ sym c.if-not-is_on.ensures

pub read-requires-clause-place : goal.read-requires-clause-place
read-requires-clause-place g c =
    let placed = ap (λ (s : PageStoreView). place_of s.world.places c.args.page) (sym c.self.view_is) in
    place_within _ c.args.page c.in-Some.at c.known.ensures.store (placed ∙ sym c.get.ensures ∙ c.in-Some.is)

pub read-requires-clause-sealed : goal.read-requires-clause-sealed
read-requires-clause-sealed g c =
    let placed = ap (λ (s : PageStoreView). place_of s.world.places c.args.page) (sym c.self.view_is) in
    place_sealed _ c.args.page c.in-Some.at c.known.ensures.store (placed ∙ sym c.get.ensures ∙ c.in-Some.is)

pub returns-in-Some-clause-off : goal.returns-in-Some-clause-off
returns-in-Some-clause-off g c off =
    let on = ap (λ (s : PageStoreView). s.world.flash.on) (sym c.self.view_is) ∙ sym c.if-not-is_on.ensures in
    absurd (let e = sym on ∙ off in cc)

pub returns-in-Some-clause-call : goal.returns-in-Some-clause-call
returns-in-Some-clause-call g c on = fetched_call _ _ _ _ _ _ c.read.ensures

pub returns-in-Some-clause-bytes : goal.returns-in-Some-clause-bytes
returns-in-Some-clause-bytes g c =
    let placed = ap (λ (s : PageStoreView). place_of s.world.places c.args.page) (sym c.self.view_is) in
    fetched_bytes _ _ c.args.page _ _ _ _ (placed ∙ sym c.get.ensures ∙ c.in-Some.is) c.read.ensures

pub returns-in-Some-clause-kept : goal.returns-in-Some-clause-kept
returns-in-Some-clause-kept g c = fetched_kept _ _ _ _ _ _ c.read.ensures

pub returns-in-Some-clause-mapped : goal.returns-in-Some-clause-mapped
returns-in-Some-clause-mapped g c on =
    let placed = ap (λ (s : PageStoreView). place_of s.world.places c.args.page) (sym c.self.view_is) in
    rw (placed ∙ sym c.get.ensures ∙ c.in-Some.is) c.read.ensures
