-- The block table after the copies took the place of their originals.
use Rattle.std.proofs.Common.{◌≡◌, ◌≢◌, ◌<◌, ◌+◌, ◌/◌, ℕ, false, eqb, length, Option, Some, None, inl, inr, refl, sym, ap, ◌∙◌, arith}
use Rattle.std.proofs.lemmas.Bool.{cases_Bool, cases_eq, eq-eqb, ne_eqb}
use Rattle.ff_base.specs.declared.numbers.PageNo.{PageNo}
use Rattle.ff_space.proofs.Changed.{
  block_at-after_into,
  block_at-after_other,
  block_at-after_victim,
  length-after_collection,
}
use Rattle.ff_space.specs.Blocks.{state_by_next}
use Rattle.ff_space.specs.BlockTable.{after_collection, block_at}
use Rattle.ff_space.specs.declared.block.BlockEntry.{BlockEntry}
use Rattle.ff_space.specs.declared.block.BlockState.{BlockState}
use Rattle.ff_space.specs.declared.block.BlockState.TheVariants.{Erased, Full, Held, Open, Waiting}
use Rattle.ff_map.specs.PageMap.{IsSwitched, PageMapView, mapping_of}
use Rattle.ff_map.specs.declared.places.Mapping.{Mapping}
use Rattle.ff_gc.proofs.Counting.{count_alike, count_zero}
use Rattle.ff_gc.specs.Running.{IsTabled}
use Rattle.ff_map.specs.MappedPages.{is_in, mapped_in}
use Rattle.ff_gc.specs.World.{IsCollectorReady, World}
use Rattle.ff_gc.specs.declared.phase.Job.{Job}
use Rattle.ff_gc.proofs.Switching.{IsCommittingIn, can_end, into_empty}
use Rattle.ff_gc.proofs.Switched.{none_now, now_of, victim_empty}

-- how a page is counted in a block, after the switch
counted_into : (w : World) (job : Job) (places : PageMapView) → IsCollectorReady w → IsCommittingIn w job
    → IsSwitched w.gc.moves w.places places → (page : PageNo) (o : Option Mapping)
    → mapping_of w.places page ≡ o
    → is_in w.gc.per_block job.into.0 (mapping_of places page) ≡ is_in w.gc.per_block job.victim.0 o
counted_into w job places ready c switched page None is =
    ap (λ (o : Option Mapping). is_in w.gc.per_block job.into.0 o) (none_now w places switched page is)
counted_into w job places ready c switched page (Some m) is =
    let per = w.gc.per_block in
    let now = now_of w job places c switched page m is in
    ap (λ (o : Option Mapping). is_in per job.into.0 o) now.is
    ∙ (elim (cases_eq (m.at.0 / per) job.victim.0) [
      | inl here ↦
          eq-eqb (now.new.at.0 / per) job.into.0 (now.from_victim here)
          ∙ sym (eq-eqb (m.at.0 / per) job.victim.0 here)
      | inr other ↦
          ap (λ (x : Mapping). eqb (x.at.0 / per) job.into.0) (now.from_else other)
          ∙ ne_eqb (m.at.0 / per) job.into.0 (into_empty w job ready c page m is)
          ∙ sym (ne_eqb (m.at.0 / per) job.victim.0 other)
    ])

counted_other : (w : World) (job : Job) (places : PageMapView) → IsCommittingIn w job
    → IsSwitched w.gc.moves w.places places → (block : ℕ) → block ≢ job.victim.0 → block ≢ job.into.0
    → (page : PageNo) (o : Option Mapping) → mapping_of w.places page ≡ o
    → is_in w.gc.per_block block (mapping_of places page) ≡ is_in w.gc.per_block block o
counted_other w job places c switched block not_victim not_into page None is =
    ap (λ (o : Option Mapping). is_in w.gc.per_block block o) (none_now w places switched page is)
counted_other w job places c switched block not_victim not_into page (Some m) is =
    let per = w.gc.per_block in
    let now = now_of w job places c switched page m is in
    ap (λ (o : Option Mapping). is_in per block o) now.is
    ∙ (elim (cases_eq (m.at.0 / per) job.victim.0) [
      | inl here ↦
          ne_eqb (now.new.at.0 / per) block (λ same. not_into (sym same ∙ now.from_victim here))
          ∙ sym (ne_eqb (m.at.0 / per) block (λ same. not_victim (sym same ∙ here)))
      | inr other ↦ ap (λ (x : Mapping). eqb (x.at.0 / per) block) (now.from_else other)
    ])

counted_victim : (w : World) (job : Job) (places : PageMapView) → IsCommittingIn w job
    → IsSwitched w.gc.moves w.places places → (page : PageNo) (o : Option Mapping)
    → mapping_of places page ≡ o → is_in w.gc.per_block job.victim.0 o ≡ false
counted_victim w job places c switched page None is = refl
counted_victim w job places c switched page (Some m) is =
    ne_eqb (m.at.0 / w.gc.per_block) job.victim.0 (victim_empty w job places c switched page m is)

switched_counted : (w : World) (job : Job) (places : PageMapView) → IsCollectorReady w → IsCommittingIn w job
    → IsSwitched w.gc.moves w.places places → (block : ℕ) → block < length w.table.blocks
    → (block_at (after_collection w.table job.victim.0 job.into.0) block).mapped
    ≡ mapped_in w.gc.per_block places block
switched_counted w job places ready c switched block within =
    let per = w.gc.per_block in
    let can = can_end w job ready c in
    let b = c.reading.copying.blocks in
    let after = after_collection w.table job.victim.0 job.into.0 in
    elim (cases_eq block job.victim.0) [
      | inl victim ↦
          let entry : (block_at after block).mapped ≡ 0 =
          ap (λ n. (block_at after n).mapped) victim
          ∙ ap (λ (e : BlockEntry). e.mapped) (block_at-after_victim w.table job.victim.0 job.into.0 can) in
          let none = count_zero (λ (x : Option Mapping). is_in per job.victim.0 x) places.pages None
          (λ i. counted_victim w job places c switched (record { 0 = i }) _ refl) in
          entry ∙ sym none ∙ ap (λ n. mapped_in per places n) (sym victim)
      | inr not_victim ↦ elim (cases_eq block job.into.0) [
        | inl into ↦
            let entry : (block_at after block).mapped
            ≡ (block_at w.table job.into.0).mapped + (block_at w.table job.victim.0).mapped =
            ap (λ n. (block_at after n).mapped) into
            ∙ ap (λ (e : BlockEntry). e.mapped) (block_at-after_into w.table job.victim.0 job.into.0 can) in
            let counted = ready.live.tabled.counted job.victim.0 b.full.in_range in
            let alike : mapped_in per places job.into.0 ≡ mapped_in per w.places job.victim.0 =
            count_alike (λ (x : Option Mapping). is_in per job.into.0 x)
            (λ (x : Option Mapping). is_in per job.victim.0 x) places.pages w.places.pages None switched.pages
            (λ i. counted_into w job places ready c switched (record { 0 = i }) _ refl) in
            let empty = b.unmapped in
            let here : mapped_in per places block ≡ mapped_in per places job.into.0 =
            ap (λ n. mapped_in per places n) into in
            omega arith
        | inr not_into ↦
            let entry : (block_at after block).mapped ≡ (block_at w.table block).mapped =
            ap (λ (e : BlockEntry). e.mapped)
            (block_at-after_other w.table job.victim.0 job.into.0 block not_victim not_into) in
            let alike : mapped_in per places block ≡ mapped_in per w.places block =
            count_alike (λ (x : Option Mapping). is_in per block x) (λ (x : Option Mapping). is_in per block x)
            places.pages w.places.pages None switched.pages
            (λ i. counted_other w job places c switched block not_victim not_into (record { 0 = i }) _ refl) in
            entry ∙ ready.live.tabled.counted block within ∙ sym alike
      ]
    ]

pub by_next_not : (per next : ℕ) (state : BlockState) → state ≢ Erased → state ≢ Full → state ≢ Open
    → state_by_next per next ≢ state
by_next_not per next state not_erased not_full not_open is = elim (cases_Bool (eqb next 0)) [
  | inl first ↦ not_erased (sym (rw first at is))
  | inr some ↦ elim (cases_Bool (eqb next per)) [
    | inl last ↦ not_full (sym (rw (some, last) at is))
    | inr between ↦ not_open (sym (rw (some, between) at is))
  ]
]

pub switched_tabled : (w : World) (job : Job) (places : PageMapView) → IsCollectorReady w → IsCommittingIn w job
    → IsSwitched w.gc.moves w.places places
    → IsTabled w.gc.per_block (after_collection w.table job.victim.0 job.into.0) w.flash.cells places
switched_tabled w job places ready c switched =
    let can = can_end w job ready c in
    let size = length-after_collection w.table job.victim.0 job.into.0 in
    let b = c.reading.copying.blocks in
    record {
      counted = λ block within. switched_counted w job places ready c switched block (omega arith);
      blank = λ a lies state next.
          (let per = w.gc.per_block in
          let after = after_collection w.table job.victim.0 job.into.0 in
          elim (cases_eq (a / per) job.victim.0) [
            | inl victim ↦
                absurd (state (ap (λ n. (block_at after n).state) victim
                ∙ ap (λ (e : BlockEntry). e.state) (block_at-after_victim w.table job.victim.0 job.into.0 can)))
            | inr not_victim ↦ elim (cases_eq (a / per) job.into.0) [
              | inl into ↦
                  let entry : (block_at after (a / per)).next ≡ (block_at w.table (a / per)).next =
                  ap (λ n. (block_at after n).next) into
                  ∙ ap (λ (e : BlockEntry). e.next) (block_at-after_into w.table job.victim.0 job.into.0 can)
                  ∙ ap (λ n. (block_at w.table n).next) (sym into) in
                  let held : (block_at w.table (a / per)).state ≡ Held =
                  ap (λ n. (block_at w.table n).state) into ∙ b.held.is.state in
                  ready.live.tabled.blank a lies (λ waits. (let e : Held ≡ Waiting = sym held ∙ waits in cc))
                  (omega arith)
              | inr not_into ↦
                  let entry =
                  block_at-after_other w.table job.victim.0 job.into.0 (a / per) not_victim not_into in
                  let same = ap (λ (e : BlockEntry). e.next) entry in
                  ready.live.tabled.blank a lies
                  (λ waits. state (ap (λ (e : BlockEntry). e.state) entry ∙ waits)) (omega arith)
            ]
          ]);
    }
