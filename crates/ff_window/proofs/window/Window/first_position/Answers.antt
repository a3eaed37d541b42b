use Rattle.std.proofs.Common.{◌∙◌, ap, sym, List}
use Rattle.ff_lines.specs.declared.post.Post.{Post}
use Rattle.ff_window.specs.Window.{first_position, WindowView}
use Rattle.ff_window.proofs.Positions.{first_position-append}
use Rattle.ff_window.proofs.window.Window.first_position.Goals as goal

pub returns : goal.returns
returns c =
    c.earliest.ensures
    ∙ sym (first_position-append c.as_slices.result.0.now c.as_slices.result.1.now)
    ∙ ap (λ (posts : List Post). first_position posts) c.as_slices.ensures.items
    ∙ ap (λ (window : WindowView). first_position window.posts) c.self.view_is
