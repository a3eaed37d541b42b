-- The mappings after the copies took the place of their originals.
use Rattle.std.proofs.Common.{◌≡◌, ◌≢◌, ◌/◌, ℕ, List, get_or, Option, Some, None, inl, inr, refl, sym, ap, subst, ◌∙◌, arith}
use Rattle.std.specs.Prelude.{option_map}
use Rattle.std.proofs.lemmas.Bool.{cases_eq}
use Rattle.std.proofs.lemmas.Option.{none-some, same_Some}
use Rattle.ff_base.specs.declared.numbers.PageNo.{PageNo}
use Rattle.ff_base.specs.declared.numbers.Ppn.{Ppn}
use Rattle.ff_flash.specs.Cells.{Cell, cell_at, cell_bytes, sealed}
use Rattle.ff_map.proofs.Lookups.{moved-none, moved_along, moved_elsewhere, moved_named}
use Rattle.ff_map.specs.PageMap.{IsSwitched, PageMapView, mapping_of, moved, moved_by}
use Rattle.ff_map.specs.declared.places.Mapping.{Mapping}
use Rattle.ff_map.specs.declared.places.Move.{Move}
use Rattle.ff_gc.proofs.PageCopies.{victim_apart}
use Rattle.ff_gc.specs.Cells.{AreMapped, HasNoPage}
use Rattle.ff_gc.specs.Running.{IsCopy}
use Rattle.ff_gc.specs.World.{IsCollectorReady, World, mapped_bytes}
use Rattle.ff_gc.specs.declared.phase.Job.{Job}
use Rattle.ff_gc.proofs.Switching.{IsCommittingIn}

-- a mapping after the switch
pub record Now (per : ℕ) (cells : List Cell) (job : Job) (places : PageMapView) (page : PageNo) (m : Mapping)
    : Type 0 where
  pub new : Mapping
  pub is : mapping_of places page ≡ Some new
  pub version : new.version ≡ m.version
  pub cell : cell_at cells new.at.0 ≡ cell_at cells m.at.0
  pub from_victim : m.at.0 / per ≡ job.victim.0 → new.at.0 / per ≡ job.into.0
  pub from_else : m.at.0 / per ≢ job.victim.0 → new ≡ m

pub now_of : (w : World) (job : Job) (places : PageMapView) → IsCommittingIn w job
    → IsSwitched w.gc.moves w.places places → (page : PageNo) (m : Mapping)
    → mapping_of w.places page ≡ Some m → Now w.gc.per_block w.flash.cells job places page m
now_of w job places c switched page m is =
    let per = w.gc.per_block in
    let copies = c.reading.copying.copies in
    let after : mapping_of places page ≡ moved w.gc.moves page (Some m) =
    switched.mappings page ∙ ap (λ (o : Option Mapping). moved w.gc.moves page o) is in
    elim (cases_eq (m.at.0 / per) job.victim.0) [
      | inl lies ↦
          let found = copies.copied page m is lies (c.all_seen page m is lies) in
          let one : Move = found.1 in
          let there : get_or w.gc.moves found.0 one ≡ one = found.3 in
          let copy : IsCopy per w.flash.cells w.places job one =
          subst (λ (o : Move). IsCopy per w.flash.cells w.places job o) there (copies.copies found.0 one found.2) in
          let named : (get_or w.gc.moves found.0 one).page.0 ≡ page.0 =
          ap (λ (o : Move). o.page.0) there ∙ ap (λ (p : PageNo). p.0) found.4 in
          let from : m.at ≡ one.from = copy.still m (ap (λ p. mapping_of w.places p) found.4 ∙ is) lies in
          let from_number : m.at.0 ≡ one.from.0 = ap (λ (p : Ppn). p.0) from in
          let new : Mapping = record { at = one.to; version = m.version } in
          let goes : moved w.gc.moves page (Some m) ≡ Some new =
          moved_named w.gc.moves found.0 one page (Some m) copies.pages_apart found.2 named
          ∙ ap (λ (o : Move). option_map (moved_by o) (Some m)) there
          ∙ ap Some (moved_along one m from_number) in
          record {
            new = new;
            is = after ∙ goes;
            version = refl;
            cell = copy.to ∙ sym copy.from ∙ ap (λ a. cell_at w.flash.cells a) (sym from_number);
            from_victim = λ _. copy.to_in;
            from_else = λ other. absurd (other lies);
          }
      | inr apart ↦
          let stays : moved w.gc.moves page (Some m) ≡ Some m =
          moved_elsewhere w.gc.moves page m
          (λ k d within same. apart (ap (λ a. a / per) same ∙ (copies.copies k d within).from_in)) in
          record {
            new = m;
            is = after ∙ stays;
            version = refl;
            cell = refl;
            from_victim = λ lies. absurd (apart lies);
            from_else = λ _. refl;
          }
    ]

pub none_now : (w : World) (places : PageMapView) → IsSwitched w.gc.moves w.places places → (page : PageNo)
    → mapping_of w.places page ≡ None → mapping_of places page ≡ None
none_now w places switched page is =
    switched.mappings page ∙ ap (λ (o : Option Mapping). moved w.gc.moves page o) is ∙ moved-none w.gc.moves page

-- a mapping before the switch, of one after it
record Was (w : World) (job : Job) (places : PageMapView) (page : PageNo) (new : Mapping) : Type 0 where
  pub old : Mapping
  pub is : mapping_of w.places page ≡ Some old
  pub now : Now w.gc.per_block w.flash.cells job places page old
  pub same : now.new ≡ new

was_by : (w : World) (job : Job) (places : PageMapView) → IsCommittingIn w job
    → IsSwitched w.gc.moves w.places places → (page : PageNo) (new : Mapping)
    → mapping_of places page ≡ Some new → (o : Option Mapping) → mapping_of w.places page ≡ o
    → Was w job places page new
was_by w job places c switched page new is None before =
    absurd (none-some new (sym (none_now w places switched page before) ∙ is))
was_by w job places c switched page new is (Some m) before =
    let now = now_of w job places c switched page m before in
    record { old = m; is = before; now = now; same = same_Some now.new new (sym now.is ∙ is) }

was_of : (w : World) (job : Job) (places : PageMapView) → IsCommittingIn w job
    → IsSwitched w.gc.moves w.places places → (page : PageNo) (new : Mapping)
    → mapping_of places page ≡ Some new → Was w job places page new
was_of w job places c switched page new is =
    was_by w job places c switched page new is (mapping_of w.places page) refl

pub same_bytes : (w : World) (job : Job) (places : PageMapView) → IsCommittingIn w job
    → IsSwitched w.gc.moves w.places places → (page : PageNo) (o : Option Mapping)
    → mapping_of w.places page ≡ o
    → mapped_bytes w.flash.cells (mapping_of places page) ≡ mapped_bytes w.flash.cells o
same_bytes w job places c switched page None is =
    ap (λ (o : Option Mapping). mapped_bytes w.flash.cells o) (none_now w places switched page is)
same_bytes w job places c switched page (Some m) is =
    let now = now_of w job places c switched page m is in
    ap (λ (o : Option Mapping). mapped_bytes w.flash.cells o) now.is ∙ ap cell_bytes now.cell

-- no page is mapped in the victim any more
pub victim_empty : (w : World) (job : Job) (places : PageMapView) → IsCommittingIn w job
    → IsSwitched w.gc.moves w.places places → HasNoPage w.gc.per_block places job.victim.0
victim_empty w job places c switched page new is lies =
    let per = w.gc.per_block in
    let was = was_of w job places c switched page new is in
    let apart = victim_apart w.table job c.reading.copying.blocks in
    let new_at : was.now.new.at.0 / per ≡ job.victim.0 = ap (λ (m : Mapping). m.at.0 / per) was.same ∙ lies in
    elim (cases_eq (was.old.at.0 / per) job.victim.0) [
      | inl here ↦ apart (sym new_at ∙ was.now.from_victim here)
      | inr other ↦ other (sym (ap (λ (m : Mapping). m.at.0 / per) (was.now.from_else other)) ∙ new_at)
    ]

pub switched_mapped : (w : World) (job : Job) (places : PageMapView) → IsCollectorReady w → IsCommittingIn w job
    → IsSwitched w.gc.moves w.places places → AreMapped None w.flash.cells places
switched_mapped w job places ready c switched = record {
  placed = λ page new is.
      (let was = was_of w job places c switched page new is in
      let s = ready.safe.mapped.placed page was.old was.is in
      let at : cell_at w.flash.cells new.at.0 ≡ cell_at w.flash.cells was.old.at.0 =
      ap (λ (m : Mapping). cell_at w.flash.cells m.at.0) (sym was.same) ∙ was.now.cell in
      let version : was.old.version ≡ new.version =
      sym was.now.version ∙ ap (λ (m : Mapping). m.version) was.same in
      at ∙ s
      ∙ ap (λ (cell : Cell). sealed (cell_bytes cell) (record { page = page; version = was.old.version })) (sym at)
      ∙ ap (λ v. sealed (cell_bytes (cell_at w.flash.cells new.at.0)) (record { page = page; version = v })) version);
  known = λ a x spare p. elim (ready.safe.mapped.known a x spare p) [
    | inl newer ↦
        let now = now_of w job places c switched spare.page newer.mapping newer.is in
        let least = newer.newer in
        let version = now.version in
        inl record { mapping = now.new; is = now.is; newer = omega arith }
    | inr none ↦ absurd none
  ];
  next = λ a x spare p. rw switched.next_version (ready.safe.mapped.next a x spare p);
}
