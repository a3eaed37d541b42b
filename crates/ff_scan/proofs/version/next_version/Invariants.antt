use Rattle.ff_scan.specs.Found.{IsNextVersion}
use Rattle.ff_scan.proofs.version.next_version.Given as goal

abbrev pub invariant-loop-place : goal.invariant-loop-place
invariant-loop-place l = IsNextVersion l.probes l.place l.next
