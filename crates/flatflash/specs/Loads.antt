-- What is run for a number.
use Rattle.std.specs.Prelude.{ℕ}
use Rattle.ff_base.specs.declared.geometry.Geometry.{Geometry}
use Rattle.ff_flash.specs.Plans.{no_plan}
use Rattle.ff_sessions.specs.Sessions.{Setup, setup_with}

-- the sizes of the run of a generated trace
abbrev pub load_geometry : Geometry
load_geometry = record {
  blocks = 32;
  per_block = 16;
  pages = 256;
  sets = 8;
  ways = 2;
  frames = 16;
  plb = 4;
  window = 16;
  low = 2;
}

-- its flash never fails
abbrev pub load_setup : ℕ → Setup
load_setup floor = setup_with load_geometry no_plan floor
