-- How an injector's fields show, and what they keep.
use Rattle.std.specs.Prelude.{◌≡◌}
use Rattle.ff_flash.specs.declared.injector.Injector.TheInside.{Inside}
use Rattle.ff_flash.specs.Injector.{InjectorView, IsInjectorSound}
use Rattle.ff_flash.specs.Plans.{planned_of, listed_count, cut_numbers}

-- the injector that the fields show
abbrev pub view_of : Inside → InjectorView
view_of i = record { plan = planned_of i.plan; operations = i.operations; power = i.power }

-- the numbers that are passed in each list are counted
pub record IsKept (i : Inside) : Type 0 where
  pub sound : IsInjectorSound (view_of i)
  pub fails : i.fails_passed ≡ listed_count i.operations i.plan.fail.items
  pub cuts : i.cuts_passed ≡ listed_count i.operations (cut_numbers i.plan.cuts.items)
