-- Where no collection runs, no block has a page to program and the mapped pages are within the capacity, a block can be
-- collected.
use Rattle.std.proofs.Common.{◌≡◌, ◌≢◌, ◌<◌, ◌≤◌, ◌+◌, ◌-◌, ◌*◌, ◌/◌, ℕ, zero, suc, Bool, cond, eqb, ltb, List, [], ◌∷◌, length, get_or, set, Option, None, Some, inl, inr, refl, ap, ◌∙◌, arith}
use Rattle.std.specs.Prelude.{count_by, is_some, ◌⊎◌}
use Rattle.std.proofs.Math.Nat.{mul_comm}
use Rattle.std.proofs.lemmas.Bool.{cases_Bool, cases_eq, cases_lt, eq-eqb, le-ltb, lt-ltb, ne_eqb}
use Rattle.std.proofs.lemmas.List.{get_or-set_other, length-set}
use Rattle.ff_space.specs.Blocks.{erased_block, is_erased, waiting}
use Rattle.ff_space.specs.BlockTable.{IsInState, BlockTableView, block_at, erased_count}
use Rattle.ff_space.specs.Choices.{IsAllMapped, IsNoPlace}
use Rattle.ff_space.specs.declared.block.BlockEntry.{BlockEntry}
use Rattle.ff_space.specs.declared.block.BlockState.{BlockState}
use Rattle.ff_space.specs.declared.block.BlockState.TheVariants.{Erased, Full, Held, Open, Waiting}
use Rattle.ff_map.specs.PageMap.{PageMapView}
use Rattle.ff_map.specs.declared.places.Mapping.{Mapping}
use Rattle.ff_gc.proofs.Counting.{count_cons, count_set, count_some}
use Rattle.ff_gc.specs.Running.{IsCollectorIdle}
use Rattle.ff_map.specs.MappedPages.{is_in, mapped_in}

-- the sum of the first values
abbrev sum_to : (ℕ → ℕ) → ℕ → ℕ
sum_to f zero = 0
sum_to f (suc k) = sum_to f k + f k

sum_same : (f g : ℕ → ℕ) (k : ℕ) → ((b : ℕ) → b < k → f b ≡ g b) → sum_to f k ≡ sum_to g k
sum_same f g zero same = refl
sum_same f g (suc k) same =
    let first = sum_same f g k (λ b below. same b (omega arith)) in let last = same k (omega arith) in omega arith

sum_plus : (f g : ℕ → ℕ) (k : ℕ) → sum_to (λ b. f b + g b) k ≡ sum_to f k + sum_to g k
sum_plus f g zero = refl
sum_plus f g (suc k) = let first = sum_plus f g k in omega arith

sum_zero : (k : ℕ) → sum_to (λ b. 0) k ≡ 0
sum_zero zero = refl
sum_zero (suc k) = let first = sum_zero k in omega arith

abbrev one_at : ℕ → ℕ → ℕ
one_at q b = cond (eqb q b) 1 0

-- a number is counted once at most
sum_once : (q k : ℕ) → sum_to (one_at q) k ≤ cond (ltb q k) 1 0
sum_once q zero = omega arith
sum_once q (suc k) =
    let first = sum_once q k in
    elim (cases_eq q k) [
      | inl here ↦
          let hit : one_at q k ≡ 1 = ap (λ t. cond t 1 0) (eq-eqb q k here) in
          let before : ◌≡◌ {A = ℕ} (cond (ltb q k) 1 0) 0 = ap (λ t. cond t 1 0) (le-ltb q k (omega arith)) in
          let now : ◌≡◌ {A = ℕ} (cond (ltb q (suc k)) 1 0) 1 = ap (λ t. cond t 1 0) (lt-ltb q (suc k) (omega arith)) in
          omega arith
      | inr apart ↦
          let miss : one_at q k ≡ 0 = ap (λ t. cond t 1 0) (ne_eqb q k apart) in
          elim (cases_lt q k) [
            | inl below ↦
                let now : ◌≡◌ {A = ℕ} (cond (ltb q (suc k)) 1 0) 1 = ap (λ t. cond t 1 0) (lt-ltb q (suc k) (omega arith)) in
                let before : ◌≡◌ {A = ℕ} (cond (ltb q k) 1 0) 1 = ap (λ t. cond t 1 0) (lt-ltb q k below) in
                omega arith
            | inr above ↦
                let before : ◌≡◌ {A = ℕ} (cond (ltb q k) 1 0) 0 = ap (λ t. cond t 1 0) (le-ltb q k above) in
                omega arith
          ]
    ]

in_once : (per k : ℕ) (o : Option Mapping) → sum_to (λ b. cond (is_in per b o) 1 0) k ≤ cond (is_some o) 1 0
in_once per k None = let none = sum_zero k in omega arith
in_once per k (Some m) =
    let once = sum_once (m.at.0 / per) k in
    elim (cases_Bool (ltb (m.at.0 / per) k)) [
      | inl hit ↦ (let one : ◌≡◌ {A = ℕ} (cond (ltb (m.at.0 / per) k) 1 0) 1 = ap (λ t. cond t 1 0) hit in omega arith)
      | inr miss ↦ (let none : ◌≡◌ {A = ℕ} (cond (ltb (m.at.0 / per) k) 1 0) 0 = ap (λ t. cond t 1 0) miss in omega arith)
    ]

-- each mapped page is counted in one block at most
counted_once : (per k : ℕ) (pages : List (Option Mapping))
    → sum_to (λ b. count_by (λ m. is_in per b m) pages) k ≤ count_by (λ m. is_some m) pages
counted_once per k [] = let none = sum_zero k in omega arith
counted_once per k (x ∷ pages) =
    let later = counted_once per k pages in
    let first = in_once per k x in
    let split = sum_same (λ b. count_by (λ m. is_in per b m) (x ∷ pages))
    (λ b. cond (is_in per b x) 1 0 + count_by (λ m. is_in per b m) pages) k
    (λ b below. count_cons (λ m. is_in per b m) x pages) in
    let parts = sum_plus (λ b. cond (is_in per b x) 1 0) (λ b. count_by (λ m. is_in per b m) pages) k in
    let whole = count_cons (λ (m : Option Mapping). is_some m) x pages in
    omega arith

-- a block that is neither open nor part of a collection
full_or_erased : (state : BlockState) → state ≢ Open → state ≢ Held → state ≢ Waiting → (state ≡ Full) ⊎ (state ≡ Erased)
full_or_erased Erased not_open not_held not_waiting = inr refl
full_or_erased Open not_open not_held not_waiting = absurd (not_open refl)
full_or_erased Full not_open not_held not_waiting = inl refl
full_or_erased Held not_open not_held not_waiting = absurd (not_held refl)
full_or_erased Waiting not_open not_held not_waiting = absurd (not_waiting refl)

-- two erased blocks are counted
both_erased : (table : BlockTableView) (one other : ℕ) → IsInState table.blocks Erased one
    → IsInState table.blocks Erased other → other ≢ one → 2 ≤ erased_count table.blocks
both_erased table one other is also apart =
    let out : BlockEntry = waiting erased_block in
    let p : BlockEntry → Bool = λ (e : BlockEntry). is_erased e.state in
    let change = count_set p table.blocks one out out is.in_range in
    let hit : ◌≡◌ {A = ℕ} (cond (p (get_or table.blocks one out)) 1 0) 1 =
    ap (λ t. cond t 1 0) (ap is_erased is.state) in
    let stays : get_or (set table.blocks one out) other out ≡ get_or table.blocks other out =
    get_or-set_other table.blocks one other out out apart in
    let size = length-set table.blocks one out in
    let within = also.in_range in
    let left = count_some p (set table.blocks one out) other out (omega arith) (ap p stays ∙ ap is_erased also.state) in
    omega arith

next_times : (k per : ℕ) → suc k * per ≡ k * per + per
next_times k per =
    let swap = mul_comm (suc k) per in let own = mul_comm k per in
    let more : per * (suc k) ≡ per * k + per = omega arith in omega arith

less_times : (n per : ℕ) → 0 < n → n * per ≡ (n - 1) * per + per
less_times (suc k) per some = let e : suc k - 1 ≡ k = omega arith in rw e (next_times k per)
less_times zero per some = absurd (omega arith)

times_least : (k per : ℕ) → 0 < k → per ≤ k * per
times_least (suc k) per some = let next = next_times k per in omega arith
times_least zero per some = absurd (omega arith)

-- all blocks but the erased one have all their pages mapped
all_counted : (per : ℕ) (table : BlockTableView) (erased_one k : ℕ) → k ≤ length table.blocks
    → ((b : ℕ) → b < length table.blocks → b ≢ erased_one → (block_at table b).mapped ≡ per)
    → k * per ≤ sum_to (λ b. (block_at table b).mapped) k + cond (ltb erased_one k) per 0
all_counted per table erased_one zero most whole = omega arith
all_counted per table erased_one (suc k) most whole =
    let before = all_counted per table erased_one k (omega arith) whole in
    let next : suc k * per ≡ k * per + per = next_times k per in
    elim (cases_eq k erased_one) [
      | inl here ↦
          let was : ◌≡◌ {A = ℕ} (cond (ltb erased_one k) per 0) 0 = ap (λ t. cond t per 0) (le-ltb erased_one k (omega arith)) in
          let now : ◌≡◌ {A = ℕ} (cond (ltb erased_one (suc k)) per 0) per =
          ap (λ t. cond t per 0) (lt-ltb erased_one (suc k) (omega arith)) in
          omega arith
      | inr apart ↦
          let own = whole k (omega arith) apart in
          elim (cases_lt erased_one k) [
            | inl below ↦
                let was : ◌≡◌ {A = ℕ} (cond (ltb erased_one k) per 0) per = ap (λ t. cond t per 0) (lt-ltb erased_one k below) in
                let now : ◌≡◌ {A = ℕ} (cond (ltb erased_one (suc k)) per 0) per =
                ap (λ t. cond t per 0) (lt-ltb erased_one (suc k) (omega arith)) in
                omega arith
            | inr above ↦
                let was : ◌≡◌ {A = ℕ} (cond (ltb erased_one k) per 0) 0 = ap (λ t. cond t per 0) (le-ltb erased_one k above) in
                omega arith
          ]
    ]

-- a block can be collected
pub has_victim : (per : ℕ) (table : BlockTableView) (places : PageMapView) → table.per_block ≡ per → 0 < per
    → 2 ≤ length table.blocks
    → ((b : ℕ) → b < length table.blocks → (block_at table b).mapped ≡ mapped_in per places b) → IsCollectorIdle table
    → count_by (λ m. is_some m) places.pages ≤ (length table.blocks - 1) * per - 1 → IsNoPlace table → IsAllMapped table → ⊥
has_victim per table places same some two counted idle room nowhere all =
    let n = length table.blocks in
    let e = idle.spare in
    let whole : (b : ℕ) → b < n → b ≢ e.block → (block_at table b).mapped ≡ per = λ b below apart.
    elim (full_or_erased (block_at table b).state
    (λ is. nowhere.none_open b (record { in_range = below; state = is }))
    (λ is. idle.none_held b (record { in_range = below; state = is }))
    (λ is. idle.none_waits b (record { in_range = below; state = is }))) [
      | inl full ↦ all b (record { in_range = below; state = full }) ∙ same
      | inr blank ↦
          let few = nowhere.few in
          let both = both_erased table e.block b e.is (record { in_range = below; state = blank }) apart in
          absurd (omega arith)
    ] in
    let sum = all_counted per table e.block n (omega arith) whole in
    let within : cond (ltb e.block n) per 0 ≤ per = elim (cases_Bool (ltb e.block n)) [
      | inl hit ↦ rw hit (omega arith)
      | inr miss ↦ rw miss (omega arith)
    ] in
    let alike = sum_same (λ b. (block_at table b).mapped) (λ b. mapped_in per places b) n (λ b below. counted b below) in
    let once = counted_once per n places.pages in
    let times : n * per ≡ (n - 1) * per + per = less_times n per (omega arith) in
    let least : per ≤ (n - 1) * per = times_least (n - 1) per (omega arith) in
    omega arith
