use Rattle.std.specs.Prelude.{replicate}
use Rattle.std.proofs.Common.{ℕ, ap}
use Rattle.std.proofs.lemmas.List.{length-replicate}
use Rattle.ff_plain.specs.Plain.{fresh_page, fresh_view, state_of}
use Rattle.ff_plain.specs.declared.plain.PlainPage.{PlainPage}
use Rattle.ff_plain.proofs.PlainPages.{page_at-fresh}
use Rattle.ff_table.specs.declared.table.Home.TheVariants.{Ssd}
use Rattle.ff_memory.specs.Located.{IsLocated}
use Rattle.ff_memory.specs.Memory.{fresh_memory}
use Rattle.ff_memory.proofs.Worked.{located-fresh}
use Rattle.ff_memory_tests.proofs.tests.memory.rig.Rig.new.Goals as goal

located : (frames : ℕ) → IsLocated (fresh_memory frames 16 (replicate 16 0) 2 16) (state_of (fresh_view 16))
located frames =
    located-fresh frames 16 2 16 (replicate 16 0) (state_of (fresh_view 16))
    (λ page. ap (λ (p : PlainPage). p.pinned) (page_at-fresh 16 page))
    (λ page. ap (λ (p : PlainPage). p.written) (page_at-fresh 16 page)) (length-replicate 16 fresh_page)
    (length-replicate 16 fresh_page)

pub invariant_of-result : goal.invariant_of-result
invariant_of-result c = rw (c.in_ok-memory.ensures, c.in-Ok.ensures) (located c.args.frames, length-replicate 16 Ssd)
