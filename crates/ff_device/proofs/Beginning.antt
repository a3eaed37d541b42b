-- A device of parts with nothing in flight.
use Rattle.std.proofs.Common.{◌≡◌, true, false, None, Some, sym, ◌∙◌}
use Rattle.std.proofs.lemmas.List.Elements.{All-nil}
use Rattle.ff_lines.specs.Posts.{IsPost}
use Rattle.ff_device.specs.Parts.{CanBegin, IsDeviceSound, Parts}

pub begins : (parts : Parts) → CanBegin parts → IsDeviceSound parts
begins parts can = record {
  pages = can.pages;
  size = can.size;
  clean = can.clean;
  flushing = λ flush is. let both : Some flush ≡ None = sym is ∙ can.idle in absurd (cc);
  posts = rw can.empty (All-nil IsPost);
  waiting = λ page waits. let none : false ≡ true = rw can.empty at waits in absurd (cc);
  room = can.room;
  window = can.window;
}
