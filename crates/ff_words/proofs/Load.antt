-- Where `clap` finds no fault behind `load`, a number was given.
use Rattle.std.proofs.Common.{◌≡◌, ◌∙◌, ◌<◌, ◌^◌, ◌||◌, ◌⊎◌, ◌==◌, ℕ, zero, suc, Bool, true, false, List, [], ◌∷◌, Option, Some, None, codes, cond, drop, length, refl, sym, ap, subst, arith, inl, inr}
use Rattle.std.specs.Prelude.{fold, pos, slice_get, unwrap_or}
use Rattle.std.specs.Str.{bytes_eq, chars}
use Rattle.std.specs.Str.Parse.{IsNumeral, digits_value, starts_with_minus, without_leading_plus}
use Rattle.std.proofs.lemmas.Bool.{ne_eqb}
use Rattle.std.proofs.lemmas.Int.{ints}
use Rattle.std.proofs.lemmas.Str.Parse.{digit_from_value}
use Rattle.clap.specs.Kinds.{Kinds, or_else}
use Rattle.clap.specs.Lexer.{long_of, short_of, without_minus}
use Rattle.clap.specs.Values.{IsSignedIn}
use Rattle.clap.specs.ValueTests.{is_signed_in}
use Rattle.clap.specs.Walk.{Held, Names, Outcome, Row, Rule, Step, Text, Walk, after_step, bundle_met, bundle_step, finished, idle, long_or_other, nothing_held, one_of, plain, refused, rows_after, settled, short_or_plain, trailing, value, walk, walk_from, walked, word_met}
use Rattle.clap.specs.Simple.{Shape, built_leaf, inherited}
use Rattle.clap.specs.Faults.{check_fault, defaults_fault, level_fault, settle_fault, walk_fault}
use Rattle.clap.specs.declared.builder.value_parser.ValueParser.TheVariants as vp
use Rattle.clap.specs.declared.error.kind.ErrorKind.{ErrorKind}
use Rattle.clap.proofs.ValueTestLemmas.{accepts-Accepts}
use Rattle.ff_words.specs.CommandLine.{load_app, named}
use Rattle.ff_words.specs.Words.{HasNumber, IsNumberText}

-- ---- the text of a number

minus-off : (t : Text) → without_minus t ≡ cond (starts_with_minus t) (drop 1 t) t
minus-off [] = refl
minus-off (x ∷ xs) = go (x == 45)
  where
    go : (b : Bool) → unwrap_or (cond b (Some xs) None) (x ∷ xs) ≡ cond b xs (x ∷ xs)
    go true = refl
    go false = refl

no-plus : (ds : Text) → IsNumeral 10 ds → without_leading_plus ds ≡ ds
no-plus [] h = refl
no-plus (d ∷ ds) h =
    let plus : (d == 43) ≡ false = ne_eqb _ _ (λ e. omega (arith, digit_from_value d h.1.0)) in
    ap (λ (b : Bool). drop (cond b 1 0) (d ∷ ds)) plus

abbrev Numbered : Text → Type 0
Numbered text = (number : ℕ) × IsNumberText text number

numbered : (text : Text) → IsNumeral 10 (without_leading_plus text) → digits_value 10 (without_leading_plus text) < 2 ^ 32 → Numbered text
numbered text numeral fits = (digits_value 10 (without_leading_plus text), record { numeral = numeral; value = refl; fits = fits })

-- a text between no negative number and the greatest of 32 bits is a number's, without its minus
pub accepted-number : (t : Text) → IsSignedIn (pos 0) (pos 4294967295) t → Numbered (without_minus t)
accepted-number t passed = subst Numbered (sym (minus-off t)) (go (starts_with_minus t) refl)
  where
    go : (b : Bool) → starts_with_minus t ≡ b → Numbered (cond b (drop 1 t) t)
    go true minus =
        let low_ok = rw minus at passed.2 in
        let numeral : IsNumeral 10 (drop 1 t) = rw minus at passed.0 in
        let same = no-plus (drop 1 t) numeral in
        let small : digits_value 10 (drop 1 t) < 2 ^ 32 = omega (arith, ints) in
        numbered (drop 1 t) (rw same numeral) (rw same small)
    go false minus =
        let low_ok = rw minus at passed.2 in
        let high_ok = rw minus at passed.3 in
        let numeral : IsNumeral 10 (without_leading_plus t) = rw minus at passed.0 in
        let small : digits_value 10 (without_leading_plus t) < 2 ^ 32 = omega (arith, ints) in
        numbered t numeral small

-- ---- the words behind `load`

-- `load` as it is built
abbrev pub built_load : Shape
built_load = built_leaf (inherited named.top load_app.top)

abbrev rules : List Rule
rules = built_load.rules

-- no number stood so far, or one did
data Stage : Type 0 where
  none : Bool → Stage
  one : Text → Bool → Stage

abbrev held_at : Option (Text × List Text) → Held
held_at p = record { rows = []; pending = p; skip = 0 }

abbrev walk_at : Option (Text × List Text) → ℕ → Bool → Walk
walk_at p position is_trailing = record { held = held_at p; waiting = idle; position = position; is_trailing = is_trailing; stopped = None }

abbrev number_pending : Text → Option (Text × List Text)
number_pending t = Some (codes "N", t ∷ [])

abbrev stands : Stage → Walk
stands (none is_trailing) = walk_at None 1 is_trailing
stands (one t is_trailing) = walk_at (number_pending t) 2 is_trailing

-- no flag is known
abbrev IsNoFlag : Held → Held × Outcome → Type 0
IsNoFlag h met = (met ≡ (h, plain)) ⊎ (met ≡ (h, refused))

no-flags : (k : ℕ) (flags : Text) (h : Held) → IsNoFlag h (bundle_met rules k flags 0 plain h)
unfolding bundle_met
no-flags zero flags h = inl refl
no-flags (suc k) flags h = go (slice_get (chars flags) 0)
  where
    go : (o : Option ℕ) → IsNoFlag h (bundle_step rules o flags 0 plain h (bundle_met rules k))
    go None = inl refl
    go (Some x) = inr refl

-- so a word is a value or `--`
abbrev IsMet : Held → ℕ → Held × Step → Type 0
IsMet h position met = (met ≡ (h, value)) ⊎ (met ≡ (h, trailing position))

no-short : (p : Option (Text × List Text)) (word : Text) (o : Option Text) → short_or_plain rules idle word o (held_at p) ≡ (held_at p, value)
no-short p word None = refl
no-short p word (Some flags) = elim (no-flags (length flags) flags (held_at p)) [
  | inl e ↦ rw e refl
  | inr e ↦ rw e refl
]

no-long : (p : Option (Text × List Text)) (word : Text) (o : Option (Text × Option Text)) → long_or_other rules idle word o (held_at p) ≡ (held_at p, value)
no-long p word (Some q) = refl
no-long p word None = no-short p word (short_of word)

word-is : (p : Option (Text × List Text)) (position : ℕ) (is_trailing : Bool) (word : Text)
    → IsMet (held_at p) position (word_met rules [] is_trailing idle position word (held_at p))
word-is p position true word = inl refl
word-is p position false word = go (bytes_eq word (45 ∷ 45 ∷ []))
  where
    go : (b : Bool) → IsMet (held_at p) position (cond b (held_at p, trailing position) (long_or_other rules idle word (long_of word) (held_at p)))
    go true = inr refl
    go false = inl (no-long p word (long_of word))

-- what stands after one more word
step : (g : Stage) (word : Text) → (after : Stage) × (walked rules [] (stands g) word ≡ stands after)
unfolding walked
step (none is_trailing) word = elim (word-is None 1 is_trailing word) [
  | inl e ↦ (one word (is_trailing || false), ap (λ (met : Held × Step). after_step rules word (walk_at None 1 is_trailing) met.0 met.1) e)
  | inr e ↦ (none true, ap (λ (met : Held × Step). after_step rules word (walk_at None 1 is_trailing) met.0 met.1) e)
]
step (one t is_trailing) word = elim (word-is (number_pending t) 2 is_trailing word) [
  | inl e ↦ (one t is_trailing, ap (λ (met : Held × Step). after_step rules word (walk_at (number_pending t) 2 is_trailing) met.0 met.1) e)
  | inr e ↦ (one t true, ap (λ (met : Held × Step). after_step rules word (walk_at (number_pending t) 2 is_trailing) met.0 met.1) e)
]

-- and after all words
steps : (g : Stage) (words : List Text) → (after : Stage) × (fold (walked rules []) (stands g) words ≡ stands after)
steps g [] = (g, refl)
steps g (word ∷ rest) =
    let next = step g word in
    let all = steps next.0 rest in
    (all.0, ap (λ (w : Walk). fold (walked rules []) w rest) next.1 ∙ all.1)

-- ---- no fault

-- where neither comes, none of the two does
neither : (a b : Kinds) → or_else a b ≡ [] → (a ≡ []) × (b ≡ [])
neither [] b e = (refl, e)
neither (k ∷ ks) b e = cc

-- a level of the command line with no fault
pub record LevelPasses (s : Shape) (names : Names) (words : List Text) (has_subcommand : Bool) (below : Kinds) : Type 0 where
  pub below_passes : below ≡ []
  pub settles : settle_fault s.rules s.args_override_self (walk s.rules names nothing_held words).held ≡ []
  pub checks : check_fault s (finished s.rules (walk s.rules names nothing_held words).held) has_subcommand ≡ []

pub level-passes : (s : Shape) (names : Names) (words : List Text) (has_subcommand : Bool) (below : Kinds)
    → level_fault s names nothing_held words has_subcommand below ≡ [] → LevelPasses s names words has_subcommand below
level-passes s names words has_subcommand below passes =
    let end : Held = (walk s.rules names nothing_held words).held in
    let settling : Kinds = settle_fault s.rules s.args_override_self end in
    let defaults : Kinds = defaults_fault (settled s.rules end).rows s.rules in
    let checking : Kinds = check_fault s (finished s.rules end) has_subcommand in
    let walks = neither (walk_fault s names (walk_from nothing_held) words) (or_else below (or_else settling (or_else defaults checking))) passes in
    let enters = neither below (or_else settling (or_else defaults checking)) walks.1 in
    let ends = neither settling (or_else defaults checking) enters.1 in
    record { below_passes = enters.0; settles = ends.0; checks = (neither defaults checking ends.1).1 }

-- the number among rows
abbrev Given : List Row → Type 0
Given rows = (number : ℕ) × HasNumber (one_of (codes "N") rows) number

-- a number that is accepted
taken : (k : ErrorKind) (b : Bool) → or_else (cond b [] (k ∷ [])) [] ≡ [] → b ≡ true
taken k true e = refl
taken k false e = cc

abbrev Ends : Walk → Type 0
Ends w = settle_fault rules false w.held ≡ [] → check_fault built_load (finished rules w.held) false ≡ [] → Given (finished rules w.held)

ends : (g : Stage) → Ends (stands g)
ends (none is_trailing) = λ settles checks. cc
ends (one t is_trailing) = λ settles checks.
    let accepted = taken _ (is_signed_in (pos 0) (pos 4294967295) t) settles in
    let got = accepted-number t (accepts-Accepts false (vp.Signed (pos 0) (pos 4294967295)) t accepted) in
    (got.0, record { text = without_minus t; is_given = refl; is_number = got.1 })

-- `load` with no fault has its number
pub load-given : (words : List Text) → level_fault built_load [] nothing_held words false [] ≡ [] → Given (rows_after rules [] words)
load-given words passes =
    let end = steps (none false) words in
    let level = level-passes built_load [] words false [] passes in
    subst Ends (sym end.1) (ends end.0) level.settles level.checks
