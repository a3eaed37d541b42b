-- How many entries are stores to marked lines, and what it says of the bytes where none is.
use Rattle.std.proofs.Common.{◌≡◌, ◌≤◌, inl, inr, ℕ, ◌+◌, ◌-◌, Bool, true, cond, List, [], ◌∷◌, ◌++◌, None, take, drop, refl, ap, ◌∙◌, arith}
use Rattle.std.specs.Prelude.{All, slice_range}
use Rattle.std.proofs.lemmas.Bool.{cases_Bool}
use Rattle.std.proofs.lemmas.List.Elements.{All-drop, All-head, All-tail, All-take}
use Rattle.std.proofs.lemmas.List.Folds.{drop_split}
use Rattle.std.proofs.lemmas.List.Sums.{sum_by-append, sum_by-cons, sum_by-le-sum_by}
use Rattle.ff_model.specs.Flat.{flat_byte_of, is_done, latest, stored_byte}
use Rattle.ff_model.specs.Image.{Content}
use Rattle.ff_model.specs.declared.history.Entry.{Entry}
use Rattle.ff_model.specs.declared.op.Op.{Op}
use Rattle.ff_model.specs.declared.op.Op.TheVariants.{Load, Store, Verify, Mark, Release}
use Rattle.ff_kept.specs.Marked.{is_marked_store, marked_stores, stores_marked}
use Rattle.ff_kept.proofs.Apart.{IsApart}
use Rattle.ff_kept.proofs.Prefixes.{flat_byte_of-quiet, take_between}

-- an entry counts for one where it is a store to a marked line
abbrev weight : (ℕ → Bool) → Entry → ℕ
weight marked entry = cond (is_marked_store marked entry) 1 0

pub marked_stores-append : (marked : ℕ → Bool) (xs ys : List Entry)
    → marked_stores marked (xs ++ ys) ≡ marked_stores marked xs + marked_stores marked ys
marked_stores-append marked xs ys = sum_by-append (weight marked) xs ys

pub marked_stores-cons : (marked : ℕ → Bool) (entry : Entry) (later : List Entry)
    → marked_stores marked (entry ∷ later) ≡ weight marked entry + marked_stores marked later
marked_stores-cons marked entry later = sum_by-cons (weight marked) entry later

pub weight_le : (marked : ℕ → Bool) (entry : Entry) → weight marked entry ≤ 1
weight_le marked entry = elim (cases_Bool (is_marked_store marked entry)) [
  | inl is ↦ rw is (omega arith)
  | inr isnt ↦ rw isnt (omega arith)
]

-- the stores from a position on are those up to a later position and those from there on
pub marked_stores-split : (marked : ℕ → Bool) (history : List Entry) (from to : ℕ) → from ≤ to
    → marked_stores marked (drop from history)
    ≡ marked_stores marked (slice_range history from to) + marked_stores marked (drop to history)
marked_stores-split marked history from to order =
    ap (λ (entries : List Entry). marked_stores marked entries) (drop_split history from to order)
    ∙ marked_stores-append marked (slice_range history from to) (drop to history)

stores-fewer : (fewer marked : ℕ → Bool) (op : Op) → ((address : ℕ) → fewer address ≡ true → marked address ≡ true)
    → stores_marked fewer op ≡ true → stores_marked marked op ≡ true
stores-fewer fewer marked (Store at bytes) less is = less at is
stores-fewer fewer marked (Load at len) less is = is
stores-fewer fewer marked Verify less is = is
stores-fewer fewer marked (Mark page from count) less is = is
stores-fewer fewer marked (Release page from count) less is = is

weight-fewer : (fewer marked : ℕ → Bool) → ((address : ℕ) → fewer address ≡ true → marked address ≡ true)
    → (entry : Entry) → weight fewer entry ≤ weight marked entry
weight-fewer fewer marked less entry = elim (cases_Bool (is_done entry.reply)) [
  | inr undone ↦ rw undone (omega arith)
  | inl done ↦ elim (cases_Bool (stores_marked fewer entry.op)) [
    | inr isnt ↦ rw (done, isnt) (omega arith)
    | inl is ↦ let too = stores-fewer fewer marked entry.op less is in rw (done, is, too) (omega arith)
  ]
]

-- where fewer lines are marked, no more entries are stores to marked lines
pub marked_stores-fewer : (fewer marked : ℕ → Bool) (entries : List Entry)
    → ((address : ℕ) → fewer address ≡ true → marked address ≡ true)
    → marked_stores fewer entries ≤ marked_stores marked entries
marked_stores-fewer fewer marked entries less =
    sum_by-le-sum_by (weight fewer) (weight marked) entries (weight-fewer fewer marked less)

-- where no entry is a store to a marked line, none stores a byte of one
latest-unmarked : (marked : ℕ → Bool) (entries : List Entry) (address : ℕ) → All (IsApart marked) entries
    → marked_stores marked entries ≡ 0 → marked address ≡ true → latest (stored_byte address) entries ≡ None
latest-unmarked marked [] address apart none is = refl
latest-unmarked marked (entry ∷ later) address apart none is =
    let split = marked_stores-cons marked entry later in
    let rest = latest-unmarked marked later address (All-tail (IsApart marked) entry later apart) (omega arith) is in
    elim (cases_Bool (is_marked_store marked entry)) [
      | inl does ↦ let one : weight marked entry ≡ 1 = rw does refl in absurd (omega arith)
      | inr isnt ↦
          let here = (All-head (IsApart marked) entry later apart).none isnt address is in
          rw (rest, here) refl
    ]

-- a byte of a marked line reads the same after two prefixes between which no entry is a store to a marked line
pub flat_byte_of-unmarked : (base : Content) (history : List Entry) (marked : ℕ → Bool) (from to address : ℕ) → from ≤ to
    → All (IsApart marked) history → marked_stores marked (slice_range history from to) ≡ 0 → marked address ≡ true
    → flat_byte_of base (take to history) address ≡ flat_byte_of base (take from history) address
flat_byte_of-unmarked base history marked from to address order apart none is =
    let between : All (IsApart marked) (slice_range history from to) =
    All-take (IsApart marked) (to - from) (drop from history) (All-drop (IsApart marked) from history apart) in
    ap (λ (entries : List Entry). flat_byte_of base entries address) (take_between history from to order)
    ∙ flat_byte_of-quiet base (take from history) (slice_range history from to) address
    (latest-unmarked marked (slice_range history from to) address between none is)
