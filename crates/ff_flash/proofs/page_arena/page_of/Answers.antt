use Rattle.std.proofs.Common.{◌≡◌, ◌+◌, ◌-◌, ◌*◌, ℕ, ap, take, drop, arith}
use Rattle.ff_flash.proofs.page_arena.page_of.Goals as goal

pub returns : goal.returns
returns c =
    let size : 4096 * c.args.slot + 4096 - 4096 * c.args.slot ≡ 4096 = omega arith in
    ap (λ (n : ℕ). take n (drop (4096 * c.args.slot) c.args.bytes.now)) size
