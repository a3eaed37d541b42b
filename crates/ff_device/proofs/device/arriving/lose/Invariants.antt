use Rattle.std.proofs.Common.{◌≡◌, drop}
use Rattle.ff_device.proofs.device.arriving.lose.Given as goal

abbrev pub invariant-loop : goal.invariant-loop
invariant-loop l = record {
  posts : l.window.posts ≡ drop l.counter l.initial.window.posts;
  room : l.window.room ≡ l.initial.window.room;
}
