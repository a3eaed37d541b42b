-- The newest version outside the block is what the tops say.
use Rattle.std.proofs.Common.{◌≡◌, ◌/◌, length, ◌∙◌, arith}
use Rattle.std.proofs.lemmas.Bool.{le-leb, leb-true}
use Rattle.ff_scan.proofs.Covering.{backed_most, backed_of}
use Rattle.ff_scan.specs.Tops.{newest_outside}
use Rattle.ff_scan.proofs.covered.is_backed.Goals as goal

pub returns-in-Sealed : goal.returns-in-Sealed
returns-in-Sealed c =
    let per = c.args.geometry.now.per_block in
    let probes = c.args.probes.now in
    let spare = c.in-Sealed.spare in
    let count = c.requires.pages in
    let page_in = c.requires.probes.page c.args.place spare c.in-Sealed.is in
    let newest : c.outside-newest.result ≡ newest_outside per probes (c.args.place / per) spare.page.0 (length probes) =
    c.outside-newest.ensures ∙ c.requires.tops.newest spare.page.0 (c.args.place / per) (omega arith) in (
      λ covers.
          (let most = leb-true _ _ covers in
          backed_of c.args.geometry.now probes c.args.place spare c.requires.probes c.in-Sealed.is (omega arith)),
      λ backed.
          (let most = backed_most per probes c.args.place spare backed c.in-Sealed.is in
          le-leb spare.version c.outside-newest.result (omega arith)),
    )
