-- A collection goes on where a block changes that is no part of it.
use Rattle.std.proofs.Common.{◌≡◌, ◌≢◌, ◌<◌, ◌≤◌, ◌+◌, ◌*◌, ◌/◌, ℕ, List, length, Some, inl, inr, refl, sym, ap, ◌∙◌, arith}
use Rattle.std.proofs.lemmas.Bool.{cases_eq}
use Rattle.ff_base.specs.declared.numbers.Block.{Block}
use Rattle.ff_base.specs.declared.numbers.PageNo.{PageNo}
use Rattle.ff_flash.specs.Cells.{Cell, cell_at, closed}
use Rattle.ff_flash.specs.declared.spare.Spare.{Spare}
use Rattle.ff_space.specs.BlockTable.{IsInState, BlockTableView, block_at}
use Rattle.ff_space.specs.Choices.{NoBlock}
use Rattle.ff_space.specs.declared.block.BlockState.{BlockState}
use Rattle.ff_space.specs.declared.block.BlockState.TheVariants.{Erased, Full, Held, Waiting}
use Rattle.ff_map.specs.PageMap.{PageMapView, mapping_of}
use Rattle.ff_map.specs.declared.places.Mapping.{Mapping}
use Rattle.ff_map.specs.declared.places.Move.{Move}
use Rattle.ff_gc.proofs.Numbers.{block_of_place}
use Rattle.ff_gc.proofs.PageCopies.{KeepsSealed}
use Rattle.ff_gc.specs.Collector.{CollectorView}
use Rattle.ff_gc.specs.Running.{HasBlock, HasStale, IsAt, IsCopying, IsEmptying, IsOnlyBlock, IsProgramming}
use Rattle.ff_gc.specs.declared.phase.Job.{Job}
use Rattle.ff_gc.specs.declared.phase.Original.{Original}
use Rattle.ff_gc.specs.declared.phase.Phase.{Phase}
use Rattle.ff_gc.specs.declared.phase.Phase.TheVariants.{Idle, Programming, Reading, Sealing, Commit, Erasing, Aborting}
use Rattle.ff_store.specs.PageStore.{IsNotVictim}

-- one block changes, which is no part of a collection. Another may lose a mapped page
pub record IsAside (per block : ℕ) (table table2 : BlockTableView) (cells cells2 : List Cell) (places places2 : PageMapView)
    : Type 0 where
  pub some : 0 < per
  pub size : length table2.blocks ≡ length table.blocks
  pub state : (b : ℕ) → b ≢ block → (block_at table2 b).state ≡ (block_at table b).state
  pub next : (b : ℕ) → b ≢ block → (block_at table2 b).next ≡ (block_at table b).next
  pub fewer : (b : ℕ) → b ≢ block → (block_at table2 b).mapped ≤ (block_at table b).mapped
  pub not_held : (block_at table block).state ≢ Held
  pub not_waiting : (block_at table block).state ≢ Waiting
  pub new_held : (block_at table2 block).state ≢ Held
  pub new_waiting : (block_at table2 block).state ≢ Waiting
  pub kept : KeepsSealed cells cells2
  pub closed_kept : (a : ℕ) (x : List ℕ) (spare : Spare) → a / per ≢ block → cell_at cells a ≡ closed x spare
      → cell_at cells2 a ≡ closed x spare
  pub mapped : (page : PageNo) (m : Mapping) → mapping_of places2 page ≡ Some m → m.at.0 / per ≢ block
      → mapping_of places page ≡ Some m

-- states of the other blocks
state_aside : (per block : ℕ) (table table2 : BlockTableView) (cells cells2 : List Cell) (places places2 : PageMapView)
    (state : BlockState) → IsAside per block table table2 cells cells2 places places2
    → (b : ℕ) → b ≢ block → IsInState table.blocks state b → IsInState table2.blocks state b
state_aside per block table table2 cells cells2 places places2 state a b apart is = record {
  in_range = (let size = a.size in let lies = is.in_range in omega arith);
  state = a.state b apart ∙ is.state;
}

state_back : (per block : ℕ) (table table2 : BlockTableView) (cells cells2 : List Cell) (places places2 : PageMapView)
    (state : BlockState) → IsAside per block table table2 cells cells2 places places2
    → (b : ℕ) → b ≢ block → IsInState table2.blocks state b → IsInState table.blocks state b
state_back per block table table2 cells cells2 places places2 state a b apart is = record {
  in_range = (let size = a.size in let lies = is.in_range in omega arith);
  state = sym (a.state b apart) ∙ is.state;
}

none_aside : (per block : ℕ) (table table2 : BlockTableView) (cells cells2 : List Cell) (places places2 : PageMapView)
    (state : BlockState) → IsAside per block table table2 cells cells2 places places2
    → (block_at table2 block).state ≢ state → NoBlock (IsInState table.blocks state)
    → NoBlock (IsInState table2.blocks state)
none_aside per block table table2 cells cells2 places places2 state a other none b is = elim (cases_eq b block) [
  | inl same ↦ other (ap (λ n. (block_at table2 n).state) (sym same) ∙ is.state)
  | inr apart ↦ none b (state_back per block table table2 cells cells2 places places2 state a b apart is)
]

only_aside : (per block : ℕ) (table table2 : BlockTableView) (cells cells2 : List Cell) (places places2 : PageMapView)
    (state : BlockState) (one : ℕ) → IsAside per block table table2 cells cells2 places places2
    → one ≢ block → (block_at table2 block).state ≢ state → IsOnlyBlock table state one → IsOnlyBlock table2 state one
only_aside per block table table2 cells cells2 places places2 state one a apart other only = record {
  is = state_aside per block table table2 cells cells2 places places2 state a one apart only.is;
  only = λ b is. elim (cases_eq b block) [
    | inl same ↦ absurd (other (ap (λ n. (block_at table2 n).state) (sym same) ∙ is.state))
    | inr elsewhere ↦ only.only b (state_back per block table table2 cells cells2 places places2 state a b elsewhere is)
  ];
}

copying_aside : (per block : ℕ) (table table2 : BlockTableView) (cells cells2 : List Cell) (places places2 : PageMapView)
    (moves : List Move) (job : Job) → IsAside per block table table2 cells cells2 places places2
    → job.victim.0 ≢ block → IsCopying per moves cells table places job
    → IsCopying per moves cells2 table2 places2 job
copying_aside per block table table2 cells cells2 places places2 moves job a victim c =
    let into : job.into.0 ≢ block = λ same.
    a.not_held (ap (λ n. (block_at table n).state) (sym same) ∙ c.blocks.held.is.state) in
    let fewer = a.fewer job.into.0 into in
    let empty = c.blocks.unmapped in
    let room = c.room in
    let next = a.next job.into.0 into in
    record {
      blocks = record {
        full = state_aside per block table table2 cells cells2 places places2 Full a job.victim.0 victim c.blocks.full;
        held = only_aside per block table table2 cells cells2 places places2 Held job.into.0 a into a.new_held c.blocks.held;
        none_waits = none_aside per block table table2 cells cells2 places places2 Waiting a a.new_waiting c.blocks.none_waits;
        unmapped = omega arith;
      };
      copies = record {
        copies = λ k d within.
            (let one = c.copies.copies k d within in record {
              bytes = one.bytes;
              spare = one.spare;
              page = one.page;
              from = a.kept _ one.bytes one.spare one.from;
              to = a.kept _ one.bytes one.spare one.to;
              from_in = one.from_in;
              to_in = one.to_in;
              behind = one.behind;
              still = λ m is lies. one.still m (a.mapped _ m is (λ same. victim (sym lies ∙ same))) lies;
            });
        pages_apart = c.copies.pages_apart;
        places_apart = c.copies.places_apart;
        copied = λ page m is lies below.
            c.copies.copied page m (a.mapped page m is (λ same. victim (sym lies ∙ same))) lies below;
      };
      seen = c.seen;
      room = omega arith;
    }

-- the stale page isn't mapped in the other map
unmapped_aside : (per block : ℕ) (table table2 : BlockTableView) (cells cells2 : List Cell) (places places2 : PageMapView)
    (victim place : ℕ) → IsAside per block table table2 cells cells2 places places2 → victim ≢ block → place < per
    → ((page : PageNo) (m : Mapping) → mapping_of places page ≡ Some m → m.at.0 ≢ victim * per + place)
    → (page : PageNo) (m : Mapping) → mapping_of places2 page ≡ Some m → m.at.0 ≢ victim * per + place
unmapped_aside per block table table2 cells cells2 places places2 victim place a apart small none page m is same =
    let lies : m.at.0 / per ≡ victim = ap (λ n. n / per) same ∙ block_of_place per victim place small in
    none page m (a.mapped page m is (λ there. apart (sym lies ∙ there))) same

stale_aside : (per block : ℕ) (table table2 : BlockTableView) (cells cells2 : List Cell) (places places2 : PageMapView)
    (moves : List Move) (job : Job) → IsAside per block table table2 cells cells2 places places2
    → job.victim.0 ≢ block → HasStale per moves places job → HasStale per moves places2 job
stale_aside per block table table2 cells cells2 places places2 moves job a apart s = record {
  place = s.place;
  small = s.small;
  unmapped = unmapped_aside per block table table2 cells cells2 places places2 job.victim.0 s.place a apart s.small s.unmapped;
  few = s.few;
  fewer = s.fewer;
}

programming_aside : (per block : ℕ) (table table2 : BlockTableView) (cells cells2 : List Cell) (places places2 : PageMapView)
    (moves : List Move) (bytes : List ℕ) (job : Job) (original : Original)
    → IsAside per block table table2 cells cells2 places places2 → job.victim.0 ≢ block
    → IsProgramming per moves bytes cells table places job original
    → IsProgramming per moves bytes cells2 table2 places2 job original
programming_aside per block table table2 cells cells2 places places2 moves bytes job original a apart p = record {
  copying = copying_aside per block table table2 cells cells2 places places2 moves job a apart p.copying;
  hand = record {
    cell = a.kept _ _ _ p.hand.cell;
    from_in = p.hand.from_in;
    unseen = p.hand.unseen;
    still = λ m is lies. p.hand.still m (a.mapped _ m is (λ same. apart (sym lies ∙ same))) lies;
    new = p.hand.new;
    next = λ page m is lies behind.
        p.hand.next page m (a.mapped page m is (λ same. apart (sym lies ∙ same))) lies behind;
  };
  stale = record {
    place = p.stale.place;
    small = p.stale.small;
    unmapped = unmapped_aside per block table table2 cells cells2 places places2 job.victim.0 p.stale.place a apart
        p.stale.small p.stale.unmapped;
    few = p.stale.few;
    fewer = p.stale.fewer;
    fresh = p.stale.fresh;
  };
}

emptying_aside : (per block : ℕ) (table table2 : BlockTableView) (cells cells2 : List Cell) (places places2 : PageMapView)
    (one : Block) → IsAside per block table table2 cells cells2 places places2 → IsEmptying table one
    → IsEmptying table2 one
emptying_aside per block table table2 cells cells2 places places2 one a e =
    let apart : one.0 ≢ block = λ same.
    a.not_waiting (ap (λ n. (block_at table n).state) (sym same) ∙ e.waits.is.state) in
    let fewer = a.fewer one.0 apart in
    let empty = e.unmapped in
    record {
      waits = only_aside per block table table2 cells cells2 places places2 Waiting one.0 a apart a.new_waiting e.waits;
      unmapped = omega arith;
      none_held = none_aside per block table table2 cells cells2 places places2 Held a a.new_held e.none_held;
    }

-- what holds in the collector's phase goes on to hold
pub at_aside : (gc : CollectorView) (block : ℕ) (table table2 : BlockTableView) (cells cells2 : List Cell)
    (places places2 : PageMapView) (phase : Phase)
    → IsAside gc.per_block block table table2 cells cells2 places places2 → IsNotVictim phase block
    → (phase ≡ Idle → HasBlock table2 Erased) → IsAt gc cells table places phase → IsAt gc cells2 table2 places2 phase
at_aside gc block table table2 cells cells2 places places2 Idle a apart spare at = record {
  none_held = none_aside gc.per_block block table table2 cells cells2 places places2 Held a a.new_held at.none_held;
  none_waits = none_aside gc.per_block block table table2 cells cells2 places places2 Waiting a a.new_waiting at.none_waits;
  spare = spare refl;
}
at_aside gc block table table2 cells cells2 places places2 (Reading job) a apart spare at = record {
  copying = copying_aside gc.per_block block table table2 cells cells2 places places2 gc.moves job a apart at.copying;
  stale = stale_aside gc.per_block block table table2 cells cells2 places places2 gc.moves job a apart at.stale;
}
at_aside gc block table table2 cells cells2 places places2 (Programming job original) a apart spare at =
    programming_aside gc.per_block block table table2 cells cells2 places places2 gc.moves gc.bytes job original a apart at
at_aside gc block table table2 cells cells2 places places2 (Sealing job original place) a apart spare at =
    let b = at.programming.copying.blocks in
    let into : job.into.0 ≢ block = λ same.
    a.not_held (ap (λ n. (block_at table n).state) (sym same) ∙ b.held.is.state) in
    let room = at.copy.room in
    let next = a.next job.into.0 into in
    record {
      programming = programming_aside gc.per_block block table table2 cells cells2 places places2 gc.moves gc.bytes job
          original a apart at.programming;
      copy = record {
        cell = a.closed_kept place.0 _ _ (λ same. into (sym at.copy.at_in ∙ same)) at.copy.cell;
        at_in = at.copy.at_in;
        room = omega arith;
      };
    }
at_aside gc block table table2 cells cells2 places places2 (Commit job) a apart spare at = record {
  reading = record {
    copying = copying_aside gc.per_block block table table2 cells cells2 places places2 gc.moves job a apart
        at.reading.copying;
    stale = stale_aside gc.per_block block table table2 cells cells2 places places2 gc.moves job a apart at.reading.stale;
  };
  all_seen = λ page m is lies. at.all_seen page m (a.mapped page m is (λ same. apart (sym lies ∙ same))) lies;
}
at_aside gc block table table2 cells cells2 places places2 (Erasing one) a apart spare at =
    emptying_aside gc.per_block block table table2 cells cells2 places places2 one a at
at_aside gc block table table2 cells cells2 places places2 (Aborting one) a apart spare at =
    emptying_aside gc.per_block block table table2 cells cells2 places places2 one a at

-- a block that isn't full is no victim
pub not_victim : (gc : CollectorView) (table : BlockTableView) (cells : List Cell) (places : PageMapView) (phase : Phase)
    (block : ℕ) → (block_at table block).state ≢ Full → IsAt gc cells table places phase → IsNotVictim phase block
not_victim gc table cells places Idle block other at = tt
not_victim gc table cells places (Reading job) block other at = λ same.
    other (ap (λ n. (block_at table n).state) (sym same) ∙ at.copying.blocks.full.state)
not_victim gc table cells places (Programming job original) block other at = λ same.
    other (ap (λ n. (block_at table n).state) (sym same) ∙ at.copying.blocks.full.state)
not_victim gc table cells places (Sealing job original place) block other at = λ same.
    other (ap (λ n. (block_at table n).state) (sym same) ∙ at.programming.copying.blocks.full.state)
not_victim gc table cells places (Commit job) block other at = λ same.
    other (ap (λ n. (block_at table n).state) (sym same) ∙ at.reading.copying.blocks.full.state)
not_victim gc table cells places (Erasing one) block other at = tt
not_victim gc table cells places (Aborting one) block other at = tt
