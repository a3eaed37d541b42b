-- How many frames are free: none, and before one is given back.
use Rattle.std.specs.Prelude.{is_none}
use Rattle.std.proofs.Common.{◌≡◌, ◌≢◌, ℕ, zero, suc, ◌+◌, ◌<◌, ◌≤◌, cond, List, [], ◌∷◌, length, set, Option, None, Some, refl, sym, arith, length-set}
use Rattle.std.proofs.lemmas.Option.{none-some}
use Rattle.std.proofs.lemmas.List.Sums.{count_by-le-length, sum_by-cons, sum_by-set}
use Rattle.ff_base.specs.declared.numbers.PageNo.{PageNo}
use Rattle.ff_frames.specs.Frame.{free_frame, given_frame}
use Rattle.ff_frames.specs.Frames.{IsNoneFree, frame_at, free_count}
use Rattle.ff_frames.specs.declared.frame.Frame.{Frame}

pub in_use : (page : Option PageNo) → page ≢ None → (let one : ℕ = 1 in let nothing : ℕ = 0 in cond (is_none page) one nothing ≡ nothing)
in_use None used = absurd (used refl)
in_use (Some page) used = refl

-- a frame in use leaves room for one more free one
pub free-below : (frames : List Frame) (frame : ℕ) → frame < length frames → (frame_at frames frame).page ≢ None
    → free_count frames + 1 ≤ length frames
free-below frames frame within used =
    let weight : Frame → ℕ = λ f. cond (is_none f.page) 1 0 in
    let new = given_frame (frame_at frames frame) in
    let before : weight (frame_at frames frame) ≡ 0 = in_use (frame_at frames frame).page used in
    omega (arith, before, sum_by-set weight frames frame new free_frame within, count_by-le-length (λ (f : Frame). is_none f.page) (set frames frame new), length-set frames frame new)

pub weight-free : (page : Option PageNo) → page ≡ None → (let one : ℕ = 1 in let nothing : ℕ = 0 in cond (is_none page) one nothing ≡ one)
weight-free None free = refl
weight-free (Some page) free = absurd (none-some page (sym free))

-- a frame before others counts where it is free
counted-first : (first : Frame) (later : List Frame)
    → free_count (first ∷ later) ≡ (let one : ℕ = 1 in let nothing : ℕ = 0 in cond (is_none first.page) one nothing) + free_count later
counted-first first later =
    let one : ℕ = 1 in let nothing : ℕ = 0 in sum_by-cons (λ f. cond (is_none f.page) one nothing) first later

-- no frame is free where none is counted
pub none-free : (frames : List Frame) → free_count frames ≡ 0 → IsNoneFree frames
none-free [] none frame free = let within = free.in_range in absurd (omega (arith, within))
none-free (first ∷ later) none zero free =
    absurd (omega (arith, none, counted-first first later, weight-free first.page free.no_page))
none-free (first ∷ later) none (suc frame) free =
    let within = free.in_range in
    let rest : free_count later ≡ 0 = omega (arith, none, counted-first first later) in
    none-free later rest frame (record { in_range = omega (arith, within); no_page = free.no_page })

-- and none is counted where no frame is free
pub none-counted : (frames : List Frame) → IsNoneFree frames → free_count frames ≡ 0
none-counted [] none = refl
none-counted (first ∷ later) none =
    let used = in_use first.page (λ free. none zero (record { in_range = omega arith; no_page = free })) in
    let rest = none-counted later (λ frame free.
    let within = free.in_range in none (suc frame) (record { in_range = omega (arith, within); no_page = free.no_page })) in
    omega (arith, counted-first first later, used, rest)
