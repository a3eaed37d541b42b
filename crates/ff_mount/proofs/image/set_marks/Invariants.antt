use Rattle.std.proofs.Common.{◌≡◌, ◌<◌, ℕ, length, get_or}
use Rattle.ff_mount.proofs.image.set_marks.Given as goal

abbrev pub invariant-loop-page : goal.invariant-loop-page
invariant-loop-page l = record {
  pages : l.image.pages ≡ l.initial.image.pages;
  size : length l.image.marks ≡ length l.marks;
  done : (k : ℕ) → k < l.page → get_or l.image.marks k 0 ≡ get_or l.marks k 0;
}
