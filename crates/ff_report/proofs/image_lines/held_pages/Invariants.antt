use Rattle.std.proofs.Common.{◌≡◌, take}
use Rattle.std.specs.Prelude.{count_by, is_some}
use Rattle.ff_report.proofs.image_lines.held_pages.Given as goal

-- the held pages so far are counted
abbrev pub invariant-loop-page : goal.invariant-loop-page
invariant-loop-page l = l.held ≡ count_by is_some (take l.page l.image.pages)
