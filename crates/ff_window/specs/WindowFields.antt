-- How a window's fields show, and what they keep.
use Rattle.std.specs.Prelude.{◌≤◌}
use Rattle.std.specs.VecDeque.{deque_capacity}
use Rattle.ff_window.specs.Window.{WindowView, IsWindowSound}
use Rattle.ff_window.specs.declared.window.Window.TheInside.{Inside}

abbrev pub view_of : Inside → WindowView
view_of fields = record { posts = fields.posts.items; room = fields.room }

-- memory is there for every post that may wait
pub record IsKept (fields : Inside) : Type 0 where
  pub sound : IsWindowSound (view_of fields)
  pub reserved : fields.room ≤ deque_capacity fields.posts
