use Rattle.std.proofs.Common.{◌≡◌, drop}
use Rattle.ff_window.specs.Window.{first_position}
use Rattle.ff_window.proofs.window.first_of.Given as goal

abbrev pub invariant-loop-post : goal.invariant-loop-post
invariant-loop-post l = first_position (drop l.post-index l.posts) ≡ first_position l.posts
