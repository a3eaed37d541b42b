use Rattle.std.proofs.Common.{◌≡◌, vec_len}
use Rattle.ff_flash.specs.PageState.{ErasesStates}
use Rattle.ff_flash.proofs.page_states.erase_at.Given as goal

abbrev pub invariant-loop-i : goal.invariant-loop-i
invariant-loop-i l =
    (vec_len l.states ≡ vec_len l.initial.states) × ErasesStates l.first l.i l.injected l.initial.states.items l.states.items
