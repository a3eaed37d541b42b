-- The copies can take the place of their originals.
use Rattle.std.proofs.Common.{◌≡◌, ◌/◌, ℕ, true, List, get_or, map, Option, Some, None, refl, sym, ap, ◌∙◌, arith}
use Rattle.std.specs.Prelude.{Any}
use Rattle.std.proofs.lemmas.Bool.{eqb-true}
use Rattle.std.proofs.lemmas.List.{get_or-map, length-map}
use Rattle.ff_base.specs.declared.numbers.PageNo.{PageNo}
use Rattle.ff_flash.proofs.SealedCells.{sealed_within}
use Rattle.ff_space.specs.BlockTable.{CanEnd}
use Rattle.ff_map.proofs.Lookups.{mapped_at}
use Rattle.ff_map.specs.PageMap.{CanSwitch}
use Rattle.ff_map.specs.declared.places.Mapping.{Mapping}
use Rattle.ff_map.specs.declared.places.Move.{Move}
use Rattle.ff_gc.proofs.Counting.{IsListed, count_listed}
use Rattle.ff_gc.proofs.Emptied.{no_page_of}
use Rattle.ff_gc.specs.Cells.{HasNoPage}
use Rattle.ff_gc.specs.Running.{IsCommitting}
use Rattle.ff_map.specs.MappedPages.{is_in}
use Rattle.ff_gc.specs.World.{IsCollectorReady, World}
use Rattle.ff_gc.specs.declared.phase.Job.{Job}

abbrev pub IsCommittingIn : World → Job → Type 0
IsCommittingIn w job = IsCommitting w.gc.per_block w.gc.moves w.flash.cells w.table w.places job

-- no page is mapped in the destination
pub into_empty : (w : World) (job : Job) → IsCollectorReady w → IsCommittingIn w job
    → HasNoPage w.gc.per_block w.places job.into.0
into_empty w job ready c =
    let b = c.reading.copying.blocks in
    no_page_of w.gc.per_block job.into.0 w.places
    (sym (ready.live.tabled.counted job.into.0 b.held.is.in_range) ∙ b.unmapped)

-- the copies can be switched
pub can_switch : (w : World) (job : Job) → IsCollectorReady w → IsCommittingIn w job → CanSwitch w.places w.gc.moves
can_switch w job ready c =
    let copies = c.reading.copying.copies in
    let cells = ready.fits.cells in
    let places = ready.fits.places in
    record {
      pages = λ k d within.
          (let one = copies.copies k d within in
          let small = ready.safe.sealed_cells.page _ one.bytes one.spare one.from in
          let same = ap (λ (p : PageNo). p.0) one.page in omega arith);
      places = λ k d within.
          (let one = copies.copies k d within in
          let small = sealed_within w.flash.cells _ one.bytes one.spare one.to in omega arith);
      free = λ k d within page there.
          (let one = copies.copies k d within in
          let found = mapped_at w.places page _ there in
          into_empty w job ready c page _ found.is one.to_in);
      pages_apart = copies.pages_apart;
      places_apart = copies.places_apart;
    }

-- a mapping that is counted in a block
in_some : (per block : ℕ) (o : Option Mapping) → is_in per block o ≡ true
    → (m : Mapping) × (o ≡ Some m) × (m.at.0 / per ≡ block)
in_some per block None is = cc
in_some per block (Some m) is = (m, refl, eqb-true (m.at.0 / per) block is)

abbrev page_numbers : List Move → List ℕ
page_numbers moves = map (λ (one : Move). one.page.0) moves

listed_of : (moves : List Move) (i : ℕ) (page : PageNo) → page.0 ≡ i
    → Any (λ (one : Move). one.page ≡ page) moves → IsListed i (page_numbers moves)
listed_of moves i page is found =
    let numbers = length-map moves (λ (one : Move). one.page.0) in
    record {
      index = found.0;
      within = (let within = found.2 in omega arith);
      is = λ d.
          get_or-map (λ (one : Move). one.page.0) moves found.0 found.1 d found.2
          ∙ ap (λ (one : Move). one.page.0) found.3
          ∙ ap (λ (p : PageNo). p.0) found.4
          ∙ is;
    }

-- the destination has as many copies as pages are mapped in the victim, or more
pub can_end : (w : World) (job : Job) → IsCollectorReady w → IsCommittingIn w job
    → CanEnd w.table job.victim.0 job.into.0
can_end w job ready c =
    let per = w.gc.per_block in
    let b = c.reading.copying.blocks in
    let counted = ready.live.tabled.counted job.victim.0 b.full.in_range in
    let most = count_listed (λ (x : Option Mapping). is_in per job.victim.0 x) None (page_numbers w.gc.moves)
    w.places.pages refl
    (λ i passes.
    (let found = in_some per job.victim.0 (get_or w.places.pages i None) passes in
    let page : PageNo = record { 0 = i } in
    listed_of w.gc.moves i page refl
    (c.reading.copying.copies.copied page found.0 found.1 found.2 (c.all_seen page found.0 found.1 found.2)))) in
    let numbers = length-map w.gc.moves (λ (one : Move). one.page.0) in
    let room = c.reading.copying.room in
    let empty = b.unmapped in
    record { full = b.full; held = b.held.is; room = omega arith }
