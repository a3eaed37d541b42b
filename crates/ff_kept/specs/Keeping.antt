-- What a power loss keeps of a history, and what a device keeps so that it will.
use Rattle.std.specs.Prelude.{ℕ, ◌+◌, ◌/◌, ◌≤◌, ◌≡◌, Bool, true, List, length, take, drop}
use Rattle.ff_base.specs.declared.numbers.TheConstants.{LINE_BYTES}
use Rattle.ff_lines.specs.DeviceState.{DeviceState}
use Rattle.ff_lines.specs.declared.post.Post.{Post}
use Rattle.ff_model.specs.Callers.{acknowledged_length}
use Rattle.ff_model.specs.Flat.{flat_byte_of}
use Rattle.ff_model.specs.Image.{Content}
use Rattle.ff_model.specs.Legal.{IsLegal, Opening}
use Rattle.ff_model.specs.declared.history.Entry.{Entry}
use Rattle.ff_kept.specs.Marked.{marked_at, marked_stores}
use Rattle.ff_kept.specs.Posted.{below_byte, byte_over}
use Rattle.ff_kept.specs.Waiting.{AllWait}

-- a line, counted through all pages, reads as after so many entries
pub record ReadsAfter (base : Content) (history : List Entry) (byte : ℕ → ℕ) (line count : ℕ) : Type 0 where
  pub within : count ≤ length history
  pub bytes : (address : ℕ) → address / LINE_BYTES ≡ line
      → byte address ≡ flat_byte_of base (take count history) address

-- each line reads as after some of the entries, from the first on
abbrev pub IsPast : Content → List Entry → (ℕ → ℕ) → Type 0
IsPast base history byte = (line : ℕ) → (count : ℕ) × ReadsAfter base history byte line count

-- what a power loss keeps: the marked lines read as after the first `kept` entries; every acknowledged entry is among
-- these, and at most `lost` of the later ones are stores to marked lines. Each line reads as after some entries
pub record PowerLossKeeps (base : Content) (history : List Entry) (marked : ℕ → Bool) (byte : ℕ → ℕ) (kept lost : ℕ) : Type 0 where
  pub acknowledged : acknowledged_length history ≤ kept
  pub within : kept ≤ length history
  pub bytes : (address : ℕ) → marked address ≡ true
      → byte address ≡ flat_byte_of base (take kept history) address
  pub few : marked_stores marked (drop kept history) ≤ lost
  pub past : IsPast base history byte

-- what stands while the power is on: below the posts the marked lines read as after the first `from` entries, every
-- acknowledged one among these, and each later store to them waits. Each line reads as after some entries, with any
-- number of the oldest posts laid over it
pub record IsKeeping (base : Content) (history : List Entry) (marked : ℕ → Bool) (posts : List Post) (below : ℕ → ℕ) : Type 0 where
  pub from : ℕ
  pub acknowledged : acknowledged_length history ≤ from
  pub within : from ≤ length history
  pub bytes : (address : ℕ) → marked address ≡ true
      → below address ≡ flat_byte_of base (take from history) address
  pub waits : AllWait marked history from posts
  pub past : (count : ℕ)
      → IsPast base history (λ address. byte_over address (take count posts) (below address))

-- the same of a device, for the lines that are marked after the history
abbrev pub IsKeepingDevice : Content → List Entry → DeviceState → Type 0
IsKeepingDevice base history d =
    IsKeeping base history (marked_at base history) d.posts (below_byte d)

-- a power loss at which the oldest `arrive` posts arrive, and the others are lost, keeps the first `kept` of so many
-- entries, whatever the legal history and the bytes below the posts are
pub record KeepsAt (posts : List Post) (arrive entries kept : ℕ) : Type 0 where
  pub keeps : (opening : Opening) (history : List Entry) (below : ℕ → ℕ) (lost : ℕ)
      → IsLegal opening history → length history ≡ entries → length posts ≤ arrive + lost
      → IsKeeping opening.base history (marked_at opening.base history) posts below
      → PowerLossKeeps opening.base history (marked_at opening.base history)
      (λ address. byte_over address (take arrive posts) (below address)) kept lost
