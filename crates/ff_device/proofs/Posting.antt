-- A post that is put last after the oldest was drained where the window was full, and its page was used again.
use Rattle.std.proofs.Common.{◌≡◌, ◌≤◌, ℕ, Bool, true, false, List, arith}
use Rattle.std.specs.Prelude.{if◌then◌else◌}
use Rattle.ff_lines.specs.DeviceState.{DeviceState, IsPosted}
use Rattle.ff_lines.specs.declared.post.Post.{Post}
use Rattle.ff_device.specs.Device.{lines_of}
use Rattle.ff_device.specs.Draining.{DrainsFirst}
use Rattle.ff_device.specs.Parts.{Parts}
use Rattle.ff_device.proofs.Drained.{puts_after}
use Rattle.ff_device.proofs.Lines.{posted_last, with_post}
use Rattle.ff_device.proofs.Touching.{drains_values, with_values}

few_drained : (full : Bool) → (if full then 1 else 0) ≤ 1
few_drained true = omega arith
few_drained false = omega arith

pub put_posted : (full : Bool) (post : Post) (a : DeviceState) (mid touched new : Parts) (values : List (List ℕ))
    → DrainsFirst (if full then 1 else 0) a (lines_of mid) → touched ≡ with_values values mid → new ≡ with_post post touched
    → IsPosted post a (lines_of new)
put_posted full post a mid touched new values drained same last =
    rw (last, same) (puts_after (if full then 1 else 0) post a (lines_of (with_values values mid)) (lines_of (with_post post (with_values values mid)))
    (few_drained full) (drains_values (if full then 1 else 0) a mid values drained) (posted_last post (with_values values mid)))
