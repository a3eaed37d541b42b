-- The device has room for a post to a page that is born.
use Rattle.std.proofs.Common.{◌≡◌, ◌≢◌, ◌≤◌, ◌<◌, ℕ, zero, suc, ◌+◌, ◌==◌, not, Bool, true, false, cond, List, length, get_or, set, take, count_by, inl, inr, refl, sym, ap, ◌∙◌, arith, length-set}
use Rattle.std.specs.Prelude.{if◌then◌else◌}
use Rattle.std.proofs.lemmas.Bool.{and_cases, cases_Bool, cases_eq, eqb-true, eqb-false, or_cases, not-false}
use Rattle.std.proofs.lemmas.List.{get_or-set_other, get_or-set_same, take_more, take_all}
use Rattle.std.proofs.lemmas.List.Sums.{sum_by-set, sum_by_push}
use Rattle.ff_lines.specs.DeviceState.{DeviceState, HasRoom}
use Rattle.ff_lines.specs.PageSets.{count_below, with_page}
use Rattle.ff_lines.proofs.PageCounts.{count_below-part}
use Rattle.ff_memory.specs.Located.{IsLocated}
use Rattle.ff_memory.specs.Memory.{MemoryView}
use Rattle.ff_memory.specs.Stores.{is_store_refused}
use Rattle.ff_table.specs.Table.{IsTableSound, TableView, born_count_in, is_born_in, with_born}

-- the pages that are true in a list, counted by number and counted in the list
count_below-take : (born : List Bool) (n : ℕ) → n ≤ length born
    → count_below (λ q. get_or born q false) n ≡ count_by (λ b. b) (take n born)
count_below-take born zero within = refl
count_below-take born (suc n) within =
    let one : ℕ = 1 in
    let nothing : ℕ = 0 in
    let weight : Bool → ℕ = λ b. cond b one nothing in
    let before = count_below-take born n (omega arith) in
    let here = ap (λ xs. count_by (λ b. b) xs) (take_more born n false (omega arith)) in
    let more = sum_by_push weight (take n born) (get_or born n false) in
    let next : n + 1 ≡ suc n = omega arith in
    let step = ap (λ (k : ℕ). count_by (λ b. b) (take k born)) next in
    omega (arith, before, here, more, step)

pub count_below-list : (born : List Bool) → count_below (λ q. get_or born q false) (length born) ≡ count_by (λ b. b) born
count_below-list born =
    count_below-take born (length born) (omega arith) ∙ ap (λ xs. count_by (λ b. b) xs) (take_all (length born) born (omega arith))

-- a page that is born now, or was before
pub born-more : (table : TableView) (page q : ℕ) → IsTableSound table → page < length table.homes → is_born_in table q ≡ true
    → is_born_in (with_born page table) q ≡ true
born-more table page q sound within born = elim (cases_eq q page) [
  | inl same ↦
      let size = sound.born_or_not in
      ap (λ (k : ℕ). get_or (set table.born page true) k false) same ∙ get_or-set_same table.born page true false (omega arith)
  | inr other ↦ get_or-set_other table.born page q true false other ∙ born
]

pub born-now : (table : TableView) (page : ℕ) → IsTableSound table → page < length table.homes
    → is_born_in (with_born page table) page ≡ true
born-now table page sound within =
    let size = sound.born_or_not in get_or-set_same table.born page true false (omega arith)

count-set : (born : List Bool) (page : ℕ) (was : Bool) → page < length born → get_or born page false ≡ was
    → count_by (λ b. b) (set born page true) + (if was then 1 else 0) ≡ count_by (λ b. b) born + 1
count-set born page was within is =
    let one : ℕ = 1 in
    let nothing : ℕ = 0 in
    let weight : Bool → ℕ = λ b. cond b one nothing in
    rw (← is) (sum_by-set weight born page true false within)

-- no more pages are born than may be
pub few-born : (m : MemoryView) (d : DeviceState) (page : ℕ) → IsTableSound m.table → IsLocated m d
    → page < length m.table.homes → is_store_refused m page ≡ false → born_count_in (with_born page m.table) ≤ m.capacity
few-born m d page sound located within allowed =
    let few = located.accounts.few_born in
    let size = sound.born_or_not in
    let in_list : page < length m.table.born = omega arith in
    elim (and_cases (not (is_born_in m.table page)) (born_count_in m.table == m.capacity) allowed) [
      | inl was ↦
          let count = count-set m.table.born page true in_list (not-false (is_born_in m.table page) was) in omega (arith, count)
      | inr below ↦
          let less : born_count_in m.table ≢ m.capacity = eqb-false (born_count_in m.table) m.capacity below in
          elim (cases_Bool (is_born_in m.table page)) [
            | inl was ↦ let count = count-set m.table.born page true in_list was in omega (arith, count)
            | inr new ↦ let count = count-set m.table.born page false in_list new in omega (arith, count)
          ]
    ]

pub with-born : (m : MemoryView) (d : DeviceState) (page q : ℕ) → IsTableSound m.table → IsLocated m d
    → page < length m.table.homes → with_page page d.written q ≡ true → is_born_in (with_born page m.table) q ≡ true
with-born m d page q sound located within is = elim (or_cases (q == page) (d.written q) is) [
  | inl same ↦
      let e : q ≡ page = eqb-true q page same in
      ap (λ (k : ℕ). is_born_in (with_born page m.table) k) e ∙ born-now m.table page sound within
  | inr written ↦ born-more m.table page q sound within (located.accounts.written_born q written)
]

-- the device has room for a page that isn't refused
pub has-room : (m : MemoryView) (d : DeviceState) (page : ℕ) → IsTableSound m.table → IsLocated m d
    → page < length m.table.homes → is_store_refused m page ≡ false → HasRoom d page
has-room m d page sound located within allowed =
    let born : List Bool = set m.table.born page true in
    let part = count_below-part (with_page page d.written) (λ q. get_or born q false) (length born)
    (λ q is. with-born m d page q sound located within is) in
    let all = count_below-list born in
    let few = few-born m d page sound located within allowed in
    let size = sound.born_or_not in
    let same : length born ≡ d.pages = length-set m.table.born page true ∙ size ∙ sym located.accounts.pages in
    let count : count_below (with_page page d.written) d.pages ≤ m.capacity =
    rw (← same) (omega (arith, part, all, few)) in
    omega (arith, count, located.accounts.room)

-- a page that is born isn't refused
pub born-allowed : (m : MemoryView) (page : ℕ) → is_born_in m.table page ≡ true → is_store_refused m page ≡ false
born-allowed m page born = rw born refl
