use Rattle.std.proofs.Common.{◌≡◌, ◌∙◌, length, ap}
use Rattle.std.proofs.lemmas.Bool.{ltb-true}
use Rattle.ff_lines.specs.declared.post.Post.{Post}
use Rattle.ff_plain.specs.Plain.{PlainView, drained_view}
use Rattle.ff_plain.proofs.PlainDevice.{posted_device}
use Rattle.ff_plain.proofs.plain.PlainLineDevice.post.Goals as goal

pub returns-clause-posted : goal.returns-clause-posted
returns-clause-posted c =
    let post : Post = record { page = c.args.page; line = c.args.line; from = c.args.from; bytes = c.args.piece.now; position = c.args.position } in
    let pages : c.self.inside.pages.items ≡ (drained_view c.args.self.now).pages =
    ap (λ (plain : PlainView). plain.pages) (c.self.view_is ∙ c.drain.ensures.drained) in
    rw (c.mark_written.ensures, c.copy.ensures, pages)
    (posted_device c.args.self.now post (ltb-true c.args.page.0 (length c.args.self.now.pages) c.requires.resident) c.drain.ensures.known)
