-- A call that isn't refused is in range, and comes before the last event; the page that it names is one of the pages.
use Rattle.std.proofs.Common.{◌≡◌, ◌==◌, ◌<◌, ◌≤◌, ℕ, Bool, true, false, length, None, refl, arith}
use Rattle.std.proofs.lemmas.Grind.{common_steps}
use Rattle.ff_base.specs.Count.{last_event}
use Rattle.ff_calls.proofs.ToldMarked.{line_range-page}
use Rattle.ff_memory.proofs.Spans.{page-in_range}
use Rattle.ff_model.specs.Spans.{is_in_range}
use Rattle.ff_model.specs.declared.op.Op.{Op}
use Rattle.ff_model.specs.declared.op.Op.TheVariants.{Load, Store, Verify, Mark, Release}
use Rattle.ff_core.specs.Core.{CoreView}
use Rattle.ff_core.specs.CoreSound.{IsCoreSound}
use Rattle.ff_core.specs.Serving.{page_asked}
use Rattle.ff_model.specs.Legal.{refusal}

-- the call isn't refused at once
pub record IsAsked (pages event : ℕ) (op : Op) : Type 0 where
  pub range : is_in_range pages op ≡ true
  pub time : event < last_event

asked-by : (pages event : ℕ) (op : Op) (range last : Bool) → is_in_range pages op ≡ range → (event == last_event) ≡ last
    → event ≤ last_event → refusal pages event op ≡ None → IsAsked pages event op
asked-by pages event op true false in_range before early none = record { range = in_range; time = grind (arith, common_steps) }
asked-by pages event op true true in_range before early none = absurd (grind (arith, common_steps))
asked-by pages event op false last in_range before early none = absurd (grind (arith, common_steps))

pub refusal-none : (pages event : ℕ) (op : Op) → event ≤ last_event → refusal pages event op ≡ None → IsAsked pages event op
refusal-none pages event op early none =
    asked-by pages event op (is_in_range pages op) (event == last_event) refl refl early none

-- the page that a call in range names is one of the pages
pub asked-page : (pages : ℕ) (op : Op) → 0 < pages → is_in_range pages op ≡ true → page_asked op < pages
asked-page pages (Load at len) some range = page-in_range pages at len range
asked-page pages (Store at bytes) some range = page-in_range pages at (length bytes) range
asked-page pages Verify some range = some
asked-page pages (Mark page from count) some range = line_range-page pages page.0 from count range
asked-page pages (Release page from count) some range = line_range-page pages page.0 from count range

-- the page that a call names, which isn't refused, is one of the pages
pub named-page : {T E : Type 0} (core : CoreView T E) (op : Op) → IsCoreSound core
    → refusal core.opening.pages core.events op ≡ None → page_asked op < core.opening.pages
named-page core op sound none =
    let asked = refusal-none core.opening.pages core.events op sound.timed.not_past none in
    let least = sound.sized.limits.pages.low in
    let pages = sound.sized.pages in
    asked-page core.opening.pages op (omega arith) asked.range
