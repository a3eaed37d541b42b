use Rattle.std.proofs.Common.{◌≡◌, sym, ap, ◌∙◌, subst}
use Rattle.std.proofs.lemmas.Option.{same_Some}
use Rattle.ff_frames.specs.Frames.{frame_at}
use Rattle.ff_lines.specs.DeviceState.{DeviceState, IsDevice}
use Rattle.ff_memory.specs.Located.{IsLocated}
use Rattle.ff_memory.specs.Memory.{MemoryView}
use Rattle.ff_plb.specs.Plb.{HasEntry}
use Rattle.ff_plb.specs.declared.slot.Slot.{Slot}
use Rattle.ff_plb.specs.declared.slot.Way.TheVariants.{Coming}
use Rattle.ff_memory.proofs.Begins.{turned-keeps}
use Rattle.ff_memory.proofs.Lifts.{KeepsLinesOf}
use Rattle.ff_memory.proofs.Moves.{move-located, move-lines}
use Rattle.ff_memory.proofs.memory.Memory.turn_back.Goals as goal

keeps : (c : goal.After-turn) (d : DeviceState) → IsDevice d → IsLocated c.args.self.now d
    → KeepsLinesOf c.entry-entry.result.page.0 c.entry-entry.result.frame c.args.self.now d c.turn.new.self d
keeps c d device located =
    let m = c.args.self.now in
    let s = c.entry-entry.result in
    let has = subst (λ (n : MemoryView). HasEntry n.slots c.args.slot s) c.self.view_is c.entry-entry.ensures in
    let same : c.requires.entry ≡ s = same_Some c.requires.entry s (sym c.requires.has.there ∙ has.there) in
    let way : s.way ≡ Coming = sym (ap (λ (x : Slot). x.way) same) ∙ c.requires.way in
    let dirty : c.dirty-dirty.result ≡ (frame_at m.frames s.frame).dirty =
    subst (λ (n : MemoryView). c.dirty-dirty.result ≡ (frame_at n.frames s.frame).dirty) c.self.view_is c.dirty-dirty.ensures in
    rw (c.turn.ensures.memory, dirty) (
    turned-keeps m d c.args.slot s record { sound = c.known.ensures; device = device; located = located; has = has } way
    (rw dirty at c.turn.ensures.copied))

pub returns-clause-located : goal.returns-clause-located
returns-clause-located c d device located = move-located _ _ _ _ _ _ located (keeps c d device located).move

pub returns-clause-lines : goal.returns-clause-lines
returns-clause-lines c d device located = move-lines _ _ _ _ _ _ located (keeps c d device located).move (keeps c d device located).lines
