use Rattle.std.proofs.Common.{◌≡◌, ◌≤◌, ◌+◌, ◌++◌, ◌∷◌, [], ℕ, List, length, ap, ◌∙◌, sym, refl, arith}
use Rattle.std.proofs.lemmas.List.FromFn.{length-map-range_with_len, map-range_with_len_more}
use Rattle.std.proofs.lemmas.Bool.Decides.{nat_tests}
use Rattle.std.specs.Prelude.{IsTrue}
use Rattle.ff_model.specs.Flat.{flat_byte_of}
use Rattle.ff_model.specs.Spans.{is_span}
use Rattle.ff_model.proofs.judge.span.Goals as goal

span_short : (pages at len : ℕ) → IsTrue (is_span pages at len) → len ≤ 64
span_short pages at len span = grind (arith, nat_tests)

pub push-requires : goal.push-requires
push-requires c =
    let byte = flat_byte_of c.args.opening.now.base.now c.args.before.now in
    let size : length c.loop-i.bytes ≡ c.loop-i.i =
    ap (λ (l : List ℕ). length l) c.loop-i.invariant ∙ length-map-range_with_len byte c.args.at c.loop-i.i in
    let short = span_short c.args.opening.now.pages c.args.at c.args.len c.requires in
    omega arith

pub loop-i-preserved : goal.loop-i-preserved
loop-i-preserved c =
    let byte = flat_byte_of c.args.opening.now.base.now c.args.before.now in
    let more = map-range_with_len_more byte c.args.at c.loop-i.i (c.args.at + c.loop-i.i) refl in
    c.push.ensures ∙ ap (λ (b : ℕ). c.loop-i.bytes ++ b ∷ []) c.flat_byte_after.ensures
    ∙ ap (λ (l : List ℕ). l ++ byte (c.args.at + c.loop-i.i) ∷ []) c.loop-i.invariant ∙ sym more
