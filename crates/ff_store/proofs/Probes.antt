-- What the probes of all places tell of the cells.
use Rattle.std.proofs.Common.{◌≡◌, ◌*◌, ℕ, List, length, refl, sym, ap, ◌∙◌, arith}
use Rattle.std.proofs.Math.ListN.{get_or-map}
use Rattle.std.proofs.lemmas.List.{length-map}
use Rattle.ff_base.specs.declared.geometry.Geometry.{Geometry}
use Rattle.ff_flash.specs.Cells.{Cell, cell_at, cell_bytes, cell_probe, closed, erased, sealed, spoiled}
use Rattle.ff_flash.specs.FlashState.{FlashState, HasOperationsLeft}
use Rattle.ff_flash.specs.declared.flash.Probe.TheVariants.{Closed, Erased, Sealed, Spoiled}
use Rattle.ff_flash.specs.declared.spare.Spare.{Spare}
use Rattle.ff_space.specs.Choices.{NoBlock}
use Rattle.ff_scan.specs.Covered.{IsCoveredBlock}
use Rattle.ff_scan.specs.Probes.{AreProbes, probe_at, probes_of}
use Rattle.ff_gc.specs.Cells.{HasCovered}
use Rattle.ff_store.specs.Remounted.{IsRemountable}

pub probe_is : (cells : List Cell) (a : ℕ) → probe_at (probes_of cells) a ≡ cell_probe (cell_at cells a)
probe_is cells a = get_or-map cell_probe cells a erased

pub probe_sealed : (cells : List Cell) (a : ℕ) (x : List ℕ) (spare : Spare) → cell_at cells a ≡ sealed x spare
    → probe_at (probes_of cells) a ≡ Sealed spare
probe_sealed cells a x spare is = probe_is cells a ∙ ap cell_probe is

sealed_by : (c : Cell) (spare : Spare) → cell_probe c ≡ Sealed spare → c ≡ sealed (cell_bytes c) spare
sealed_by erased spare is = let e : Erased ≡ Sealed spare = is in absurd (cc)
sealed_by spoiled spare is = let e : Spoiled ≡ Sealed spare = is in absurd (cc)
sealed_by (closed bytes own) spare is = let e : Closed ≡ Sealed spare = is in absurd (cc)
sealed_by (sealed bytes own) spare is =
    let e : Sealed own ≡ Sealed spare = is in
    let same : own ≡ spare = cc in
    ap (λ (s : Spare). sealed bytes s) same

pub cell_sealed : (cells : List Cell) (a : ℕ) (spare : Spare) → probe_at (probes_of cells) a ≡ Sealed spare
    → cell_at cells a ≡ sealed (cell_bytes (cell_at cells a)) spare
cell_sealed cells a spare is = sealed_by (cell_at cells a) spare (sym (probe_is cells a) ∙ is)

erased_by : (c : Cell) → cell_probe c ≡ Erased → c ≡ erased
erased_by erased is = refl
erased_by spoiled is = let e : Spoiled ≡ Erased = is in absurd (cc)
erased_by (closed bytes own) is = let e : Closed ≡ Erased = is in absurd (cc)
erased_by (sealed bytes own) is = let e : Sealed own ≡ Erased = is in absurd (cc)

pub cell_erased : (cells : List Cell) (a : ℕ) → probe_at (probes_of cells) a ≡ Erased → cell_at cells a ≡ erased
cell_erased cells a is = erased_by (cell_at cells a) (sym (probe_is cells a) ∙ is)

-- the probes of what a power loss left
pub are_probes : (g : Geometry) (flash : FlashState) → length flash.cells ≡ g.blocks * g.per_block
    → HasOperationsLeft flash → IsRemountable g flash → AreProbes g (probes_of flash.cells)
are_probes g flash size life sound = record {
  size = length-map flash.cells cell_probe ∙ size;
  page = λ a spare is. sound.sealed_cells.page a _ spare (cell_sealed flash.cells a spare is);
  least = λ a spare is. sound.sealed_cells.least a _ spare (cell_sealed flash.cells a spare is);
  most = λ a spare is.
      (let most = sound.sealed_cells.most a _ spare (cell_sealed flash.cells a spare is) in omega arith);
}

-- a block is covered by the probes too
pub covered_block : (g : Geometry) (cells : List Cell) → HasCovered g.blocks g.per_block cells
    → NoBlock (IsCoveredBlock g (probes_of cells)) → ⊥
covered_block g cells has none = none has.block (record {
  in_range = has.in_range;
  covered = λ place lies spare is.
      (let one = has.covered place _ spare (cell_sealed cells place spare is) lies in
      record {
        at = one.at;
        other = one.other;
        is = probe_sealed cells one.at one.bytes one.other one.is;
        elsewhere = λ same. one.elsewhere (same ∙ lies);
        page = one.page;
        newer = one.newer;
      });
})
