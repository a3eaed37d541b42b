-- What the core needs beside the calls' contracts: a step of work keeps the facts and the lines, and a fresh memory over a
-- device in which nothing is pinned or written meets the facts.
use Rattle.std.specs.Prelude.{replicate}
use Rattle.std.proofs.Common.{◌≡◌, ℕ, Bool, false, cond, List, get_or, Option, None, inl, inr, refl, sym, ap, ◌∙◌, arith}
use Rattle.std.proofs.lemmas.Bool.{cases_lt}
use Rattle.std.proofs.lemmas.List.{get_or-replicate, get_or_past, length-replicate}
use Rattle.std.proofs.lemmas.List.Folds.{sum_by-replicate}
use Rattle.std.proofs.lemmas.Option.{none-some}
use Rattle.ff_frames.specs.declared.frame.Frame.{Frame}
use Rattle.ff_frames.proofs.FreshFrames.{frame_at-fresh}
use Rattle.ff_lines.specs.DeviceState.{DeviceState}
use Rattle.ff_lines.specs.Works.{KeepsLines}
use Rattle.ff_memory.specs.Located.{IsLocated}
use Rattle.ff_memory.specs.Memory.{MemoryView, entry_at, fresh_memory, home_at, numbered}
use Rattle.ff_memory.specs.LineBytes.{Holds, SameLineBytes}
use Rattle.ff_plb.specs.Plb.{entry_of, slot_at}
use Rattle.ff_plb.specs.declared.slot.Slot.{Slot}
use Rattle.ff_plb.proofs.Finding.{none-found}
use Rattle.ff_plb.specs.Plb.{entry_if}
use Rattle.ff_table.specs.declared.table.Home.TheVariants.{Ssd}
use Rattle.ff_memory.proofs.Alike.{like-located, like-lines, like-worked}

pub located-worked : (m : MemoryView) (d d' : DeviceState) → IsLocated m d → KeepsLines d d' → IsLocated m d'
located-worked m d d' located is = like-located m d m d' located (like-worked m d d' is)

pub lines-worked : (m : MemoryView) (d d' : DeviceState) → KeepsLines d d' → SameLineBytes m d m d'
lines-worked m d d' is = like-lines m d m d' (like-worked m d d' is)

empty-slot : (slots k : ℕ) → slot_at (replicate slots None) k ≡ None
empty-slot slots k = elim (cases_lt k slots) [
  | inl within ↦ get_or-replicate slots k None None within
  | inr past ↦ get_or_past (replicate slots None) k None (let e : Option Slot = None in omega (arith, length-replicate slots e))
]

no-entry : (slots p : ℕ) → entry_of (replicate slots None) p ≡ None
no-entry slots p =
    none-found (replicate slots None) p (λ k within. ap (λ (x : Option Slot). entry_if x p) (empty-slot slots k))

home-fresh : (pages p : ℕ) → get_or (replicate pages Ssd) p Ssd ≡ Ssd
home-fresh pages p = elim (cases_lt p pages) [
  | inl within ↦ get_or-replicate pages p Ssd Ssd within
  | inr past ↦ get_or_past (replicate pages Ssd) p Ssd (omega (arith, length-replicate pages Ssd))
]

pub located-fresh : (frames pages slots capacity : ℕ) (marks : List ℕ) (d : DeviceState)
    → ((p : ℕ) → d.pinned p ≡ false) → ((p : ℕ) → d.written p ≡ false) → d.room ≡ capacity → d.pages ≡ pages
    → IsLocated (fresh_memory frames pages marks slots capacity) d
located-fresh frames pages slots capacity marks d pinned written room size =
    let m : MemoryView = fresh_memory frames pages marks slots capacity in
    let home : (p : ℕ) → home_at m p ≡ Ssd = λ p. home-fresh pages p in
    let entry : (p : ℕ) → entry_at m p ≡ None = λ p. no-entry slots p in
    let free : (f p : ℕ) → Holds m.frames f p → ⊥ =
    λ f p holds. none-some (numbered p) (sym (ap (λ (x : Frame). x.page) (frame_at-fresh frames f)) ∙ holds) in
    record {
      sites = λ p. let h = home p in let e = entry p in rw (h, e) tt;
      used = λ f p holds. absurd (free f p holds);
      pins = λ p. let e = entry p in rw e (pinned p);
      accounts = record {
        dirty_born = λ f p j low holds dirty. absurd (free f p holds);
        written_born = λ p is. absurd (let a = written p in cc);
        few_born =
            let one : ℕ = 1 in
            let nothing : ℕ = 0 in
            omega (arith, sum_by-replicate (λ (b : Bool). cond b one nothing) pages false);
        room = room;
        pages = size ∙ sym (length-replicate pages Ssd);
        marked_home = λ p marked. let h = home p in let e = entry p in rw (h, e) refl;
      };
    }
