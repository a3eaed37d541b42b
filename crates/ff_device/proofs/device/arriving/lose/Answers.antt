use Rattle.std.proofs.Common.{◌∙◌, List, ap, drop}
use Rattle.std.proofs.lemmas.List.{drop-drop}
use Rattle.ff_lines.specs.declared.post.Post.{Post}
use Rattle.ff_device.proofs.device.arriving.lose.Goals as goal

pub loop-preserved : goal.loop-preserved
loop-preserved c = record {
  posts = c.pop.ensures.rest ∙ ap (λ (posts : List Post). drop 1 posts) c.loop.invariant.posts
      ∙ drop-drop 1 c.loop.counter c.args.window.now.posts;
  room = c.pop.ensures.room ∙ c.loop.invariant.room;
}
