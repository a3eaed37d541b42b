use Rattle.std.proofs.Common.{sym, ◌∙◌, arith}
use Rattle.std.proofs.lemmas.List.{length-replicate}
use Rattle.ff_flash.proofs.SimCells.{fresh_cells, full_fresh}
use Rattle.ff_flash.proofs.SimOperations.{fresh_is}
use Rattle.ff_flash.proofs.sim_flash.SimFlash.new.Goals as goal

pub invariant_of-result : goal.invariant_of-result
invariant_of-result c =
    let states = c.in_ok-erased_states.ensures in
    let least = c.requires.limits.per_block.low in
    let most = c.requires.limits.flash_pages.high in
    record {
      size = states.len;
      some = omega arith;
      small = omega arith;
      pages = rw (states.items, c.in_ok-new.ensures) (length-replicate _ _ ∙ sym (length-replicate _ _));
      injector = rw c.new-2.ensures (record { plan = c.requires.plan; cut = tt });
      full = rw (states.items, c.in_ok-new.ensures, fresh_cells) (full_fresh _);
    }

pub returns : goal.returns
returns c = rw (c.in_ok-erased_states.ensures.items, c.in_ok-new.ensures, c.new-2.ensures) (fresh_is _ _ _ _ c.requires.plan)
