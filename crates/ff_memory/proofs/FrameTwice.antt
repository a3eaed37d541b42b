-- A frame that was changed twice, and a store in its parts.
use Rattle.std.specs.Prelude.{option_map}
use Rattle.std.proofs.Common.{◌≡◌, ℕ, ◌<◌, List, length, set, Option, Some, ap, ◌∙◌}
use Rattle.std.proofs.lemmas.List.{get_or-set_same, set-set}
use Rattle.ff_frames.specs.Frame.{free_frame}
use Rattle.ff_frames.specs.Frames.{frame_at, with_frame}
use Rattle.ff_frames.specs.declared.frame.Frame.{Frame}
use Rattle.ff_lines.specs.DeviceState.{DeviceState, line_at}
use Rattle.ff_model.specs.declared.op.Reply.TheVariants.{Done}
use Rattle.ff_plb.specs.Plb.{slot_at, with_slot}
use Rattle.ff_plb.specs.Slot.{after_store}
use Rattle.ff_plb.specs.declared.slot.Slot.{Slot}
use Rattle.ff_table.specs.Table.{TableView, with_born}
use Rattle.ff_memory.specs.Advances.{IsReady}
use Rattle.ff_memory.specs.Memory.{MemoryView, born_set, entry_at, frame_set}
use Rattle.ff_memory.specs.Stores.{DrainsIf, IsFrameStore, carried_frame, carries, stored_frame}
use Rattle.ff_memory.specs.declared.access.Access.{Access}
use Rattle.ff_memory.specs.declared.access.Access.TheVariants.{Served}
use Rattle.ff_memory.specs.declared.access.Side.TheVariants.{Host}

pub frame-twice : (frames : List Frame) (f : ℕ) (x : Frame) (change : Frame → Frame) → f < length frames
    → with_frame (with_frame frames f x) f (change (frame_at (with_frame frames f x) f)) ≡ with_frame frames f (change x)
frame-twice frames f x change within =
    set-set frames f x (change (frame_at (set frames f x) f))
    ∙ ap (λ (y : Frame). set frames f (change y)) (get_or-set_same frames f x free_frame within)

-- a line was carried, the entry hit, and the frame written
pub stored-in_flight : (m m1 m2 : MemoryView) (d d1 : DeviceState) (slots : List (Option Slot)) (k : ℕ) (s : Slot) (p line from : ℕ)
    (piece : List ℕ) (access : Access) → IsReady m d k s → s.page.0 ≡ p → entry_at m p ≡ Some s
    → m1 ≡ frame_set s.frame (carried_frame (carries (Some s) line (length piece)) line (line_at d s.page.0 line)) m
    → slots ≡ with_slot m1.slots k (option_map (after_store line) (slot_at m1.slots k))
    → m2 ≡ frame_set s.frame (stored_frame line from piece) (born_set p (record m1 { slots = slots }))
    → access ≡ Served Done Host → DrainsIf (carries (Some s) line (length piece)) d d1
    → IsFrameStore s.frame p line from piece m d access m2 d1
stored-in_flight m m1 m2 d d1 slots k s p line from piece access ready page some carried hit stored answer drained =
    let change : Frame → Frame = stored_frame line from piece in
    let x : Frame = carried_frame (carries (Some s) line (length piece)) line (line_at d s.page.0 line) (frame_at m.frames s.frame) in
    let frames1 : m1.frames ≡ set m.frames s.frame x = ap (λ (n : MemoryView). n.frames) carried in
    let slots1 : m1.slots ≡ m.slots = ap (λ (n : MemoryView). n.slots) carried in
    let table1 : m1.table ≡ m.table = ap (λ (n : MemoryView). n.table) carried in
    let capacity1 : m1.capacity ≡ m.capacity = ap (λ (n : MemoryView). n.capacity) carried in
    let frames2 : m2.frames ≡ set m1.frames s.frame (change (frame_at m1.frames s.frame)) = ap (λ (n : MemoryView). n.frames) stored in
    let both : m2.frames ≡ set m.frames s.frame (change x) = (rw frames1 at frames2) ∙ frame-twice m.frames s.frame x change ready.frame in
    let slots2 : m2.slots ≡ set m.slots k (Some (after_store line s)) =
    ap (λ (n : MemoryView). n.slots) stored ∙ (rw (slots1, ready.has.there) at hit) in
    let pages : (q : ℕ) → q ≡ p → set m.frames s.frame (change (carried_frame (carries (Some s) line (length piece)) line (line_at d q line) (frame_at m.frames s.frame)))
    ≡ set m.frames s.frame (change (carried_frame (carries (Some s) line (length piece)) line (line_at d p line) (frame_at m.frames s.frame))) =
    λ q same. ap (λ (i : ℕ). set m.frames s.frame (change (carried_frame (carries (Some s) line (length piece)) line (line_at d i line) (frame_at m.frames s.frame)))) same in
    record {
      access_is = answer;
      frames = rw some (both ∙ pages s.page.0 page);
      table = ap (λ (n : MemoryView). n.table) stored ∙ ap (λ (t : TableView). with_born p t) table1;
      slots = rw some (k, ready.has, slots2);
      capacity = ap (λ (n : MemoryView). n.capacity) stored ∙ capacity1;
      device = rw some drained;
    }
