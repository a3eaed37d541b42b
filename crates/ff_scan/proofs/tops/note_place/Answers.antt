-- The place holds a sealed page, or it doesn't.
use Rattle.std.proofs.Common.{refl, arith}
use Rattle.ff_scan.proofs.Newest.{tops_left, tops_more}
use Rattle.ff_scan.proofs.tops.note_place.Goals as goal

pub note-requires-clause-page : goal.note-requires-clause-page
note-requires-clause-page c =
    omega (arith, c.requires.pages, c.requires.probes.page c.args.place c.in-Sealed.spare c.in-Sealed.is)

pub note-requires-clause-order : goal.note-requires-clause-order
note-requires-clause-order c =
    let page_in = c.requires.probes.page c.args.place c.in-Sealed.spare c.in-Sealed.is in
    c.requires.tops.order c.in-Sealed.spare.page.0 (omega (arith, c.requires.pages))

pub returns-in-Sealed : goal.returns-in-Sealed
returns-in-Sealed c =
    tops_more c.args.geometry.now.per_block c.args.probes.now c.args.place _ c.in-Sealed.spare c.args.tops.now
    c.note.new.tops c.requires.tops c.in-Sealed.is refl c.note.ensures.only c.note.ensures.there

pub returns-in_default : goal.returns-in_default
returns-in_default c =
    tops_left c.args.geometry.now.per_block c.args.probes.now c.args.place c.args.tops.now c.requires.tops
    c.in_default.not-Sealed
