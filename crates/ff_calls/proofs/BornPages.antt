-- The born pages of a memory are those of the history: how many there are, and which store is refused.
use Rattle.std.proofs.Common.{◌≡◌, ◌<◌, ℕ, zero, suc, ◌+◌, Bool, false, cond, List, [], ◌∷◌, length, get_or, refl, sym, ap, ◌∙◌, zero-add, arith}
use Rattle.std.specs.Prelude.{count_by}
use Rattle.std.specs.List.{range_with_len}
use Rattle.std.proofs.lemmas.List.Sums.{sum_by-cons}
use Rattle.ff_lines.specs.DeviceState.{DeviceState}
use Rattle.ff_memory.specs.Memory.{IsMemorySound, MemoryView}
use Rattle.ff_memory.specs.LineBytes.{page_of}
use Rattle.ff_memory.specs.Stores.{is_store_refused}
use Rattle.ff_model.specs.Flat.{born_count, is_born}
use Rattle.ff_model.specs.Legal.{Opening, is_refused}
use Rattle.ff_model.specs.declared.history.Entry.{Entry}
use Rattle.ff_model.specs.declared.op.Op.TheVariants.{Store}
use Rattle.ff_table.specs.Table.{born_count_in}
use Rattle.ff_calls.specs.Told.{IsTold}

-- the flags of a list, counted by their numbers
count-flags : (flags : List Bool) (set : ℕ → Bool) (first : ℕ)
    → ((k : ℕ) → k < length flags → get_or flags k false ≡ set (first + k))
    → count_by (λ flag. flag) flags ≡ count_by set (range_with_len first (length flags))
count-flags [] set first same = refl
count-flags (flag ∷ later) set first same =
    let start : first + zero ≡ first = omega arith in
    let here : flag ≡ set first = same zero (omega arith) ∙ ap set start in
    let next : (k : ℕ) → k < length later → get_or later k false ≡ set (first + 1 + k) =
    λ k within. let there : first + suc k ≡ first + 1 + k = omega arith in same (suc k) (omega arith) ∙ ap set there in
    sum_by-cons (λ b. cond {A = ℕ} b 1 0) flag later
    ∙ ap (λ (b : Bool). cond {A = ℕ} b 1 0 + count_by (λ x. x) later) here
    ∙ ap (λ (n : ℕ). cond {A = ℕ} (set first) 1 0 + n) (count-flags later set (first + 1) next)
    ∙ sym (sum_by-cons (λ k. cond {A = ℕ} (set k) 1 0) first (range_with_len (first + 1) (length later)))

-- as many pages are born as the history says
pub born_count-told : (opening : Opening) (entries : List Entry) (m : MemoryView) (d : DeviceState) → IsTold opening entries m d
    → IsMemorySound m → born_count_in m.table ≡ born_count opening.base entries opening.pages
born_count-told opening entries m d told sound =
    let size : length m.table.born ≡ opening.pages = sound.table_sound.born_or_not ∙ told.pages in
    count-flags m.table.born (is_born opening.base entries) 0
    (λ k within. told.born k (omega arith) ∙ ap (is_born opening.base entries) (sym (zero-add k)))
    ∙ ap (λ (n : ℕ). count_by (is_born opening.base entries) (range_with_len 0 n)) size

-- a store is refused as the history asks
pub refused-told : (opening : Opening) (entries : List Entry) (m : MemoryView) (d : DeviceState) (at : ℕ) (bytes : List ℕ)
    → IsTold opening entries m d → IsMemorySound m → page_of at < opening.pages
    → is_store_refused m (page_of at) ≡ is_refused opening entries (Store at bytes)
refused-told opening entries m d at bytes told sound within =
    let count = born_count-told opening entries m d told sound in
    let most = told.capacity in
    let born = told.born (page_of at) within in
    rw (count, most, born) refl
