-- Every store is acknowledged with nothing waiting, marks are cleared, a session begins.
use Rattle.std.proofs.Common.{◌≡◌, ◌≤◌, inl, inr, ℕ, ◌+◌, Bool, true, List, [], ◌∷◌, ◌++◌, None, length, take, refl, sym, ap, ◌∙◌, length-append, arith}
use Rattle.std.specs.Prelude.{◌&&◌, unwrap_or}
use Rattle.std.proofs.lemmas.Bool.{cases_Bool}
use Rattle.std.proofs.lemmas.List.{drop_all, take_all}
use Rattle.ff_lines.specs.declared.post.Post.{Post}
use Rattle.ff_model.specs.Callers.{acknowledged_length, acknowledges}
use Rattle.ff_model.specs.Flat.{flat_byte_of, is_done, stored_byte}
use Rattle.ff_model.specs.Image.{Content, byte_at}
use Rattle.ff_model.specs.declared.history.Entry.{Entry}
use Rattle.ff_model.proofs.Appended.{flat_byte_of-append}
use Rattle.ff_model.proofs.AppendedCalls.{acknowledged_length-append}
use Rattle.ff_kept.specs.Keeping.{IsKeeping}
use Rattle.ff_kept.specs.Marked.{marked_stores}
use Rattle.ff_kept.specs.Posted.{byte_over}
use Rattle.ff_kept.proofs.Growing.{acknowledged_length-same, past-laid, past-longer}
use Rattle.ff_kept.proofs.Waiting.{waits-fewer}

-- one more entry acknowledges at most all
acknowledged_length-more : (history : List Entry) (entry : Entry) → acknowledged_length history ≤ length history
    → acknowledged_length (history ++ entry ∷ []) ≤ length history + 1
acknowledged_length-more history entry low = elim (cases_Bool (is_done entry.reply && acknowledges entry.op)) [
  | inl all ↦
      let is : acknowledged_length (history ++ entry ∷ []) ≡ length history + 1 =
      rw all at (acknowledged_length-append history entry) in
      omega arith
  | inr silent ↦ let is = acknowledged_length-same history entry silent in omega arith
]

-- with nothing waiting, an entry that stores nothing may acknowledge and mark, where the marked lines have the flat bytes
pub keeps-acknowledged : (base : Content) (history : List Entry) (entry : Entry) (marked more : ℕ → Bool) (below : ℕ → ℕ)
    → ((address : ℕ) → stored_byte address entry ≡ None)
    → ((address : ℕ) → more address ≡ true → below address ≡ flat_byte_of base history address)
    → IsKeeping base history marked [] below → IsKeeping base (history ++ entry ∷ []) more [] below
keeps-acknowledged base history entry marked more below stores reads keeping =
    let size : length (history ++ entry ∷ []) ≡ length history + 1 = length-append history (entry ∷ []) in
    let low = keeping.acknowledged in
    let within = keeping.within in
    let some = acknowledged_length-more history entry (omega arith) in
    let all : ℕ = length (history ++ entry ∷ []) in
    record {
      from = all;
      acknowledged = omega arith;
      within = omega arith;
      bytes = λ address is.
          let here : flat_byte_of base (history ++ entry ∷ []) address ≡ flat_byte_of base history address =
          flat_byte_of-append base history entry address
          ∙ ap (λ stored. unwrap_or stored (flat_byte_of base history address)) (stores address) in
          reads address is ∙ sym here
          ∙ ap (λ (entries : List Entry). flat_byte_of base entries address) (sym (take_all all (history ++ entry ∷ []) (omega arith)));
      waits = ap (λ (entries : List Entry). marked_stores more entries) (drop_all all (history ++ entry ∷ []) (omega arith));
      past = λ count.
          past-longer base history (entry ∷ []) (λ address. byte_over address (take count []) (below address)) (keeping.past count);
    }

-- marks were cleared
pub keeps-fewer : (base : Content) (history : List Entry) (marked fewer : ℕ → Bool) (posts : List Post) (below : ℕ → ℕ)
    → ((address : ℕ) → fewer address ≡ true → marked address ≡ true)
    → IsKeeping base history marked posts below → IsKeeping base history fewer posts below
keeps-fewer base history marked fewer posts below less keeping = record {
  from = keeping.from;
  acknowledged = keeping.acknowledged;
  within = keeping.within;
  bytes = λ address is. keeping.bytes address (less address is);
  waits = waits-fewer fewer marked history less posts keeping.from keeping.waits;
  past = keeping.past;
}

-- a session begins on the bytes of its base
pub keeps-opened : (base : Content) (marked : ℕ → Bool) (below : ℕ → ℕ)
    → ((address : ℕ) → below address ≡ byte_at base address) → IsKeeping base [] marked [] below
keeps-opened base marked below reads = record {
  from = 0;
  acknowledged = omega arith;
  within = omega arith;
  bytes = λ address is. reads address;
  waits = refl;
  past = λ count. past-laid base [] below [] (take count []) (sym (take_all count [] (omega arith)))
      (λ line. (0, record { within = omega arith; bytes = λ address on. reads address }));
}
