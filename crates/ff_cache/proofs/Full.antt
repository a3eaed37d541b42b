-- Whether a set has an empty way.
use Rattle.std.proofs.Common.{◌≡◌, ◌<◌, ◌≤◌, inl, inr, ℕ, zero, suc, ◌+◌, ◌-◌, Bool, true, false, not, length, refl, sym, ap, ◌∙◌, arith, Option, Some, None}
use Rattle.std.specs.Option.{is_none}
use Rattle.std.specs.Prelude.{IfSome, MatchOption}
use Rattle.std.proofs.lemmas.Bool.{and_from, and_left, and_right, and_parts, cases_lt}
use Rattle.ff_cache.specs.Cache.{CacheView, all_below, first_of, is_full_set, way_at, IsEmptyWay}
use Rattle.ff_cache.specs.Slots.{is_empty, cache_slot_at, IsFirstThat, NonePasses}

pub all_below_true : (test : ℕ → Bool) (n : ℕ) → ((k : ℕ) → k < n → test k ≡ true) → all_below test n ≡ true
all_below_true test zero each = refl
all_below_true test (suc n) each =
    and_from (all_below test n) (test n) (all_below_true test n (λ k below. each k (omega arith))) (each n (omega arith))

pub all_below_false : (test : ℕ → Bool) (n k : ℕ) → k < n → test k ≡ false → all_below test n ≡ false
all_below_false test zero k below fails = absurd (omega arith)
all_below_false test (suc n) k below fails = elim (cases_lt k n) [
  | inl lower ↦ and_left (all_below test n) (test n) (all_below_false test n k lower fails)
  | inr last ↦
      let same : k ≡ n = omega arith in
      and_right (all_below test n) (test n) (ap test (sym same) ∙ fails)
]

pub all_below_at : (test : ℕ → Bool) (n k : ℕ) → all_below test n ≡ true → k < n → test k ≡ true
all_below_at test zero k all below = absurd (omega arith)
all_below_at test (suc n) k all below =
    let parts = and_parts (all_below test n) (test n) all in
    elim (cases_lt k n) [
      | inl lower ↦ all_below_at test n k parts.0 lower
      | inr last ↦ let same : k ≡ n = omega arith in ap test same ∙ parts.1
    ]

-- no way of the set is empty
pub full_set : (cache : CacheView) (page : ℕ)
    → NonePasses is_empty cache.slots (first_of cache page) (first_of cache page + cache.ways)
    → is_full_set cache page ≡ true
full_set cache page none =
    all_below_true (λ way. not (is_empty (way_at cache page way))) cache.ways
    (λ way below. ap not (none (first_of cache page + way) (omega arith) (omega arith)))

-- a way of the set is empty
pub not_full_set : (cache : CacheView) (page slot : ℕ) → first_of cache page ≤ slot → slot < first_of cache page + cache.ways
    → is_empty (cache_slot_at cache.slots slot) ≡ true → is_full_set cache page ≡ false
not_full_set cache page slot from to empty =
    let first : ℕ = first_of cache page in
    let same : first + (slot - first) ≡ slot = omega arith in
    all_below_false (λ way. not (is_empty (way_at cache page way))) cache.ways (slot - first) (omega arith)
    (ap (λ k. not (is_empty (cache_slot_at cache.slots k))) same ∙ ap not empty)

-- what the search for an empty way tells
pub full_told : (cache : CacheView) (page : ℕ) (result : Option ℕ)
    → MatchOption result
    (NonePasses is_empty cache.slots (first_of cache page) (first_of cache page + cache.ways))
    (IsFirstThat is_empty cache.slots (first_of cache page) (first_of cache page + cache.ways))
    → is_none result ≡ is_full_set cache page
full_told cache page None told = sym (full_set cache page told)
full_told cache page (Some k) told = sym (not_full_set cache page k told.after told.before told.passes)

pub least_told : (cache : CacheView) (page : ℕ) (result : Option ℕ)
    → first_of cache page + cache.ways ≤ length cache.slots
    → MatchOption result
    (NonePasses is_empty cache.slots (first_of cache page) (first_of cache page + cache.ways))
    (IsFirstThat is_empty cache.slots (first_of cache page) (first_of cache page + cache.ways))
    → IfSome result (IsEmptyWay cache page)
least_told cache page None fits told = tt
least_told cache page (Some k) fits told =
    let before = told.before in
    record {
      in_set = record { way = record { from = told.after; to = told.before }; within = omega arith };
      empty = told.passes;
      least = told.least;
    }
