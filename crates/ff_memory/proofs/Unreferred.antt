-- The referred flags of frames that were passed.
use Rattle.std.specs.Prelude.{if◌then◌else◌, nat_le, nat_lt}
use Rattle.std.proofs.Common.{◌≡◌, ◌≢◌, ℕ, ◌+◌, ◌<◌, ◌≤◌, Bool, true, false, length, set, inl, inr, refl, sym, ap, ◌∙◌, arith, length-set}
use Rattle.std.proofs.lemmas.Bool.{cases_eq, cases_lt, le-leb, lt-leb, le-ltb, lt-ltb}
use Rattle.std.proofs.lemmas.List.{get_or-set_same, get_or-set_other, get_or_past}
use Rattle.ff_frames.specs.Frame.{free_frame, referred_frame}
use Rattle.ff_frames.specs.Frames.{frame_at}
use Rattle.ff_frames.specs.declared.frame.Frame.{Frame}
use Rattle.ff_lines.specs.DeviceState.{DeviceState}
use Rattle.ff_memory.specs.Marking.{IsUnreferred, is_between, is_passed}
use Rattle.ff_memory.specs.Memory.{MemoryView, frame_set}
use Rattle.ff_memory.proofs.Alike.{IsLike}
use Rattle.ff_memory.proofs.Sites.{IsAlike, alike-same, same-device}

-- no frame lies between a frame and itself
between-none : (from g : ℕ) → is_between from from g ≡ false
between-none from g = elim (cases_lt g from) [
  | inl below ↦ let test : nat_le from g ≡ false = lt-leb from g below in rw test refl
  | inr above ↦
      let test : nat_lt g from ≡ false = le-ltb g from above in
      let low : nat_le from g ≡ true = le-leb from g above in
      rw (low, test) refl
]

between-same : (from k g : ℕ) → g ≢ k → is_between from (k + 1) g ≡ is_between from k g
between-same from k g other = elim (cases_lt g k) [
  | inl below ↦
      let first : nat_lt g (k + 1) ≡ true = lt-ltb g (k + 1) (omega arith) in
      let second : nat_lt g k ≡ true = lt-ltb g k below in
      rw (first, second) refl
  | inr above ↦
      let first : nat_lt g (k + 1) ≡ false = le-ltb g (k + 1) (omega arith) in
      let second : nat_lt g k ≡ false = le-ltb g k above in
      rw (first, second) refl
]

between-last : (from k : ℕ) → from ≤ k → is_between from (k + 1) k ≡ true
between-last from k low =
    let first : nat_le from k ≡ true = le-leb from k low in
    let second : nat_lt k (k + 1) ≡ true = lt-ltb k (k + 1) (omega arith) in
    rw (first, second) refl

pub unreferred-none : (m : MemoryView) (from : ℕ) → IsUnreferred (is_between from from) m m
unreferred-none m from = record {
  frames = λ g within. let none = between-none from g in rw none refl;
  size = refl;
  table = refl;
  slots = refl;
  capacity = refl;
}

-- one more frame
pub unreferred-more : (m n n' : MemoryView) (from k : ℕ) → IsUnreferred (is_between from k) m n → from ≤ k → k < length m.frames
    → n' ≡ frame_set k (referred_frame false) n → IsUnreferred (is_between from (k + 1)) m n'
unreferred-more m n n' from k is low within next =
    let old : Frame = frame_at n.frames k in
    let new : Frame = referred_frame false old in
    let size = is.size in
    rw next record {
      frames = λ g below. elim (cases_eq g k) [
        | inl same ↦
            let here : frame_at (set n.frames k new) k ≡ new = get_or-set_same n.frames k new free_frame (omega arith) in
            let none : is_between from k k ≡ false =
            let first : nat_lt k k ≡ false = le-ltb k k (omega arith) in
            let start : nat_le from k ≡ true = le-leb from k low in rw (start, first) refl in
            let before : old ≡ frame_at m.frames k = rw none at (is.frames k within) in
            let last = between-last from k low in
            rw (same, last) (here ∙ ap (λ (f : Frame). referred_frame false f) before)
        | inr other ↦
            let there = get_or-set_other n.frames k g new free_frame other in
            let test = between-same from k g other in
            rw test (there ∙ is.frames g below)
      ];
      size = length-set n.frames k new ∙ is.size;
      table = is.table;
      slots = is.slots;
      capacity = is.capacity;
    }

-- the frames from one on, and those up to another before it
pub unreferred-round : (m n n' : MemoryView) (from to : ℕ) → to < from → IsUnreferred (is_between from (length m.frames)) m n
    → IsUnreferred (is_between 0 to) n n' → IsUnreferred (is_passed from to) m n'
unreferred-round m n n' from to order first second =
    let apart : nat_le from to ≡ false = lt-leb from to order in
    let sizes = first.size in
    record {
      frames = λ g within.
          let end : nat_lt g (length m.frames) ≡ true = lt-ltb g (length m.frames) within in
          let in_second = second.frames g (omega arith) in
          let in_first = first.frames g within in
          let zero_low : nat_le 0 g ≡ true = le-leb 0 g (omega arith) in
          elim (cases_lt g to) [
            | inl below ↦
                let low : nat_lt g to ≡ true = lt-ltb g to below in
                let before : nat_le from g ≡ false = lt-leb from g (omega arith) in
                let late = rw (zero_low, low) at in_second in
                let early = rw before at in_first in
                rw (apart, before, low) (late ∙ ap (λ (f : Frame). referred_frame false f) early)
            | inr above ↦
                let high : nat_lt g to ≡ false = le-ltb g to above in
                let late = rw (zero_low, high) at in_second in
                elim (cases_lt g from) [
                  | inl before ↦
                      let start : nat_le from g ≡ false = lt-leb from g before in
                      let early = rw start at in_first in
                      rw (apart, start, high) (late ∙ early)
                  | inr from_on ↦
                      let start : nat_le from g ≡ true = le-leb from g from_on in
                      let early = rw (start, end) at in_first in
                      rw (apart, start) (late ∙ early)
                ]
          ];
      size = second.size ∙ first.size;
      table = second.table ∙ first.table;
      slots = second.slots ∙ first.slots;
      capacity = second.capacity ∙ first.capacity;
    }

alike-if : (these : Bool) (one other : Frame) → other ≡ (if these then referred_frame false one else one) → IsAlike one other
alike-if true one other is =
    record { page = ap (λ (f : Frame). f.page) is; bytes = ap (λ (f : Frame). f.bytes) is; dirty = ap (λ (f : Frame). f.dirty) is }
alike-if false one other is = alike-same one other is

-- nothing else changed
pub unreferred-like : (these : ℕ → Bool) (m m' : MemoryView) (d : DeviceState) → IsUnreferred these m m' → IsLike m d m' d
unreferred-like these m m' d is = record {
  frames = λ g. elim (cases_lt g (length m.frames)) [
    | inl within ↦ alike-if (these g) (frame_at m.frames g) (frame_at m'.frames g) (is.frames g within)
    | inr past ↦
        let size = is.size in
        alike-same (frame_at m.frames g) (frame_at m'.frames g)
        (get_or_past m'.frames g free_frame (omega arith) ∙ sym (get_or_past m.frames g free_frame past))
  ];
  table = is.table;
  slots = is.slots;
  capacity = is.capacity;
  device = λ page. same-device d page;
  pinned = λ page. refl;
  written = λ page. refl;
  room = refl;
  pages = refl;
}
