-- How a simulated flash's fields show, and what they keep.
use Rattle.std.specs.Prelude.{ℕ, ◌*◌, ◌<◌, ◌^◌, ◌≡◌, List, [], Some, length, vec_len}
use Rattle.ff_flash.specs.declared.sim_flash.SimFlash.TheInside.{Inside}
use Rattle.ff_flash.specs.Cells.{Cell, cell_at}
use Rattle.ff_flash.specs.FlashState.{FlashState}
use Rattle.ff_flash.specs.Injector.{InjectorView, IsInjectorSound, is_cut_off, is_powered}
use Rattle.ff_flash.specs.PageState.{cells_of}
use Rattle.ff_flash.specs.Plans.{listed_count}
use Rattle.ff_flash.specs.SimFlash.{HasPageBytes}

-- a flash of these cells whose injector came so far
abbrev pub flash_of : ℕ → ℕ → List Cell → InjectorView → FlashState
flash_of blocks per_block cells injector = record {
  blocks = blocks;
  per_block = per_block;
  cells = cells;
  faults = listed_count injector.operations injector.plan.fail;
  on = is_powered injector.power;
  operations = injector.operations;
  plan = Some injector.plan;
  making = [];
  cut = is_cut_off injector.power;
}

-- the cells that the fields show
abbrev pub cells_in : Inside → List Cell
cells_in f = cells_of f.states.items f.arena

-- the flash that the fields show
abbrev pub view_of : Inside → FlashState
view_of f = flash_of f.blocks f.per_block (cells_in f) f.injector

-- what the fields keep
pub record IsKept (f : Inside) : Type 0 where
  pub size : vec_len f.states ≡ f.blocks * f.per_block
  pub some : 0 < f.per_block
  pub small : f.blocks * f.per_block < 2 ^ 32
  pub pages : length f.arena ≡ length f.states.items
  pub injector : IsInjectorSound f.injector
  pub full : (place : ℕ) → HasPageBytes (cell_at (cells_in f) place)
