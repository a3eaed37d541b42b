-- Which histories are legal: those of a flat byte array.
use Rattle.std.specs.Prelude.{ℕ, ◌+◌, ◌/◌, ◌≤◌, ◌<◌, ◌≡◌, ◌⊎◌, ◌==◌, ◌&&◌, not, min, Bool, true, false, IsTrue, if◌then◌else◌, List, [], ◌∷◌, ◌++◌, map, fold, take, slice_get, Option, None, Some, unwrap_or}
use Rattle.std.specs.List.{range_with_len}
use Rattle.ff_base.specs.Count.{last_event}
use Rattle.ff_base.specs.Geometry.{capacity_of}
use Rattle.ff_base.specs.declared.geometry.Geometry.{Geometry}
use Rattle.ff_base.specs.declared.numbers.TheConstants.{PAGE_BYTES}
use Rattle.ff_model.specs.Image.{Content}
use Rattle.ff_model.specs.Flat.{flat_byte_of, is_born, born_count}
use Rattle.ff_model.specs.Spans.{is_in_range}
use Rattle.ff_model.specs.declared.history.Entry.{Entry}
use Rattle.ff_model.specs.declared.op.Op.{Op}
use Rattle.ff_model.specs.declared.op.Op.TheVariants.{Load, Store, Verify, Mark, Release}
use Rattle.ff_model.specs.declared.op.Reply.{Reply}
use Rattle.ff_model.specs.declared.op.Reply.TheVariants.{Bytes, Done, Range, Spent, Full, Fault}

-- how a session is opened: the image that it starts from, the logical pages, how many of them the flash can hold,
-- the event number, and how often the flash had failed
pub record Opening : Type 0 where
  pub base : Content
  pub pages : ℕ
  pub capacity : ℕ
  pub event : ℕ
  pub faults : ℕ

-- how a session over a geometry is opened: from an image, an event number and a count of faults
abbrev pub opening_of : Content → Geometry → ℕ → ℕ → Opening
opening_of base geometry event faults =
    record { base = base; pages = geometry.pages; capacity = capacity_of geometry; event = event; faults = faults }

-- a call that may meet a fault of the flash
abbrev pub may_fault : Op → Bool
may_fault (Load at len) = true
may_fault (Store at bytes) = true
may_fault (Mark page from count) = true
may_fault Verify = false
may_fault (Release page from count) = false

-- the bytes of a span, from the byte at each address
abbrev pub span_bytes : (ℕ → ℕ) → ℕ → ℕ → List ℕ
span_bytes byte at len = map byte (range_with_len at len)

-- the reply to a call that isn't refused and meets no fault
abbrev pub served_reply : (ℕ → ℕ) → Op → Reply
served_reply byte (Load at len) = Bytes (span_bytes byte at len)
served_reply byte (Store at bytes) = Done
served_reply byte Verify = Done
served_reply byte (Mark page from count) = Done
served_reply byte (Release page from count) = Done

-- a call that names what isn't there, or that comes at the last event number, is refused
abbrev pub refusal : ℕ → ℕ → Op → Option Reply
refusal pages event op =
    if not (is_in_range pages op) then Some Range
    else if event == last_event then Some Spent
    else None

-- the reply that refuses a call, or that serves it. The pages, whether the call is refused for want of room, the byte
-- at each address, and the event number are those of its moment
abbrev pub reply_over : ℕ → Bool → (ℕ → ℕ) → ℕ → Op → Reply
reply_over pages refused byte event op =
    unwrap_or (refusal pages event op) (if refused then Full else served_reply byte op)

-- the call is a store to a page that isn't born, behind entries after which as many are born as the flash can hold
abbrev pub is_refused : Opening → List Entry → Op → Bool
is_refused opening before (Store at bytes) =
    not (is_born opening.base before (at / PAGE_BYTES))
    && (born_count opening.base before opening.pages == opening.capacity)
is_refused opening before (Load at len) = false
is_refused opening before Verify = false
is_refused opening before (Mark page from count) = false
is_refused opening before (Release page from count) = false

-- the reply that is due to a call behind these entries, where it meets no fault
abbrev pub due_reply : Opening → List Entry → ℕ → Op → Reply
due_reply opening before event op =
    reply_over opening.pages (is_refused opening before op) (flat_byte_of opening.base before) event op

-- the call isn't refused
abbrev pub is_served : Reply → Bool
is_served (Bytes bytes) = true
is_served Done = true
is_served Range = false
is_served Spent = false
is_served Full = false
is_served Fault = false

-- the least event number of an entry behind these
abbrev pub next_event : Opening → List Entry → ℕ
next_event opening before = fold (λ event entry. min (entry.event + 1) last_event) opening.event before

-- how often the flash had failed after these
abbrev pub faults_after : Opening → List Entry → ℕ
faults_after opening before = fold (λ faults entry. entry.faults) opening.faults before

-- the flash failed in the event of a call that isn't refused, and the reply says so
pub record IsFault (opening : Opening) (before : List Entry) (entry : Entry) : Type 0 where
  pub reply : entry.reply ≡ Fault
  pub op : IsTrue (may_fault entry.op)
  pub due : IsTrue (is_served (due_reply opening before entry.event entry.op))
  pub rose : faults_after opening before < entry.faults

-- the entry may stand behind these
pub record MayFollow (opening : Opening) (before : List Entry) (entry : Entry) : Type 0 where
  pub later : next_event opening before ≤ entry.event
  pub not_past : entry.event ≤ last_event
  pub faults : faults_after opening before ≤ entry.faults
  pub reply : (entry.reply ≡ due_reply opening before entry.event entry.op) ⊎ IsFault opening before entry

-- each of the later entries may stand behind those before it
abbrev pub LegalAfter : Opening → List Entry → List Entry → Type 0
LegalAfter opening before [] = Unit {0}
LegalAfter opening before (entry ∷ later) = MayFollow opening before entry × LegalAfter opening (before ++ entry ∷ []) later

-- the history is one of a flat byte array
abbrev pub IsLegal : Opening → List Entry → Type 0
IsLegal opening entries = LegalAfter opening [] entries

-- the entry at a position may not stand behind those before it, which are legal
pub record IsFirstIllegal (opening : Opening) (entries : List Entry) (at : ℕ) : Type 0 where
  pub before : IsLegal opening (take at entries)
  pub entry : Entry
  pub there : slice_get entries at ≡ Some entry
  pub fails : MayFollow opening (take at entries) entry → ⊥
