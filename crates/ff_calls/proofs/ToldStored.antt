-- What a history says once a store was answered: refused, served by a frame, or posted.
use Rattle.std.proofs.Common.{◌≡◌, ◌<◌, inl, inr, ℕ, ◌==◌, Bool, true, false, List, [], ◌∷◌, ◌++◌, length, get_or, set, Option, Some, None, refl, sym, ap, ◌∙◌, arith}
use Rattle.std.specs.Prelude.{◌||◌}
use Rattle.std.proofs.lemmas.Bool.{cases_eq, eq-eqb, ne_eqb}
use Rattle.std.proofs.lemmas.List.{get_or-set_same, get_or-set_other}
use Rattle.ff_base.specs.Count.{last_event}
use Rattle.ff_kept.specs.Keeping.{IsKeepingDevice}
use Rattle.ff_kept.proofs.KeepingAnswered.{keeping-unmarked}
use Rattle.ff_kept.proofs.KeepingDrained.{keeping-drained}
use Rattle.ff_kept.proofs.KeepingPosted.{keeping-stored, store_of-at}
use Rattle.ff_lines.specs.DeviceState.{DeviceState, IsDevice}
use Rattle.ff_lines.specs.declared.post.Post.{Post}
use Rattle.ff_memory.specs.Located.{IsLocated}
use Rattle.ff_memory.specs.Memory.{MemoryView, entry_at, home_at, numbered}
use Rattle.ff_memory.specs.LineBytes.{line_in_page, page_of, offset_in_line, serving_frame, storing_frame}
use Rattle.ff_memory.specs.Stores.{DrainsIf, IsDeviceStore, IsFrameStore, IsStore, IsStoreBy, IsStored, StoresBy, carries, is_store_refused}
use Rattle.ff_memory.specs.declared.access.Access.TheVariants.{Served}
use Rattle.ff_memory.specs.declared.access.Side.{Side}
use Rattle.ff_memory.proofs.Flat.{flat-stored}
use Rattle.ff_memory.proofs.Spans.{page-in_range}
use Rattle.ff_model.specs.Flat.{bears, is_born, is_done}
use Rattle.ff_model.specs.Legal.{Opening, due_reply, is_refused}
use Rattle.ff_model.specs.Spans.{is_in_range}
use Rattle.ff_model.specs.declared.history.Entry.{Entry}
use Rattle.ff_model.specs.declared.op.Op.{Op}
use Rattle.ff_model.specs.declared.op.Op.TheVariants.{Store}
use Rattle.ff_model.specs.declared.op.Reply.TheVariants.{Done, Full}
use Rattle.ff_model.proofs.Appended.{faults_after-append, is_born-append, legal-append}
use Rattle.ff_model.proofs.AppendedCalls.{is_marked-append}
use Rattle.ff_model.proofs.Replies.{span_one_line}
use Rattle.ff_table.specs.Table.{TableView, is_born_in, marks_of, with_born}
use Rattle.ff_calls.specs.Told.{IsTold}
use Rattle.ff_calls.proofs.BornPages.{refused-told}
use Rattle.ff_calls.proofs.DeviceReads.{device_byte-served, serving-posted, unmarked-framed}
use Rattle.ff_calls.proofs.SpanBytes.{length-line_bytes}
use Rattle.ff_calls.proofs.ToldAnswered.{IsCalled, is_born-same, served-follows, told-refused, within-op}

-- a store in range is answered now
pub record IsStoreAnswered (opening : Opening) (entries : List Entry) (at : ℕ) (bytes : List ℕ) (m : MemoryView) (d : DeviceState)
    (entry : Entry) : Type 0 where
  pub called : IsCalled opening entries m d entry
  pub op : entry.op ≡ Store at bytes
  pub within : is_in_range opening.pages (Store at bytes) ≡ true

-- what a store that was answered Done leaves
pub record StoreKeeps (opening : Opening) (entries : List Entry) (entry : Entry) (at : ℕ) (m : MemoryView) (d : DeviceState)
    (m' : MemoryView) (d' : DeviceState) : Type 0 where
  pub done : entry.reply ≡ Done
  pub table : m'.table ≡ with_born (page_of at) m.table
  pub capacity : m'.capacity ≡ m.capacity
  pub faults : d'.faults ≡ d.faults
  pub keeping : IsKeepingDevice opening.base (entries ++ entry ∷ []) d'

or_true : (b : Bool) → true ≡ (b || true)
or_true true = refl
or_true false = refl

-- the pages that are born once a store was answered Done
born-stored : (opening : Opening) (entries : List Entry) (entry : Entry) (at : ℕ) (bytes : List ℕ) (m : MemoryView) (d : DeviceState)
    → IsStoreAnswered opening entries at bytes m d entry → entry.reply ≡ Done → (page : ℕ) → page < opening.pages
    → is_born_in (with_born (page_of at) m.table) page ≡ is_born opening.base (entries ++ entry ∷ []) page
born-stored opening entries entry at bytes m d given done page within =
    let told = given.called.told in
    let before : is_born_in m.table page ≡ is_born opening.base entries page = told.born page within in
    let size : length m.table.born ≡ opening.pages = given.called.sound.table_sound.born_or_not ∙ told.pages in
    let op = given.op in
    elim (cases_eq page (page_of at)) [
      | inl same ↦
          let test : (page_of at == page) ≡ true = eq-eqb (page_of at) page (sym same) in
          let bears_it : bears page entry ≡ true = rw (done, op) test in
          ap (λ (q : ℕ). get_or (set m.table.born (page_of at) true) q false) same
          ∙ get_or-set_same m.table.born (page_of at) true false (omega arith)
          ∙ or_true (is_born opening.base entries page)
          ∙ ap (λ (b : Bool). is_born opening.base entries page || b) (sym bears_it)
          ∙ sym (is_born-append opening.base entries entry page)
      | inr other ↦
          let test : (page_of at == page) ≡ false = ne_eqb (page_of at) page (λ e. other (sym e)) in
          let bears_not : bears page entry ≡ false = rw (done, op) test in
          get_or-set_other m.table.born (page_of at) page true false other
          ∙ before ∙ is_born-same opening entries entry page bears_not
    ]

-- a store was answered Done
pub told-done : (opening : Opening) (entries : List Entry) (entry : Entry) (at : ℕ) (bytes : List ℕ) (m : MemoryView) (d : DeviceState)
    (m' : MemoryView) (d' : DeviceState) → IsStoreAnswered opening entries at bytes m d entry
    → is_store_refused m (page_of at) ≡ false → StoreKeeps opening entries entry at m d m' d' → IsLocated m' d'
    → IsStored (page_of at) (line_in_page at) (offset_in_line at) bytes m d m' d' → IsTold opening (entries ++ entry ∷ []) m' d'
told-done opening entries entry at bytes m d m' d' given allowed keeps located stored =
    let told = given.called.told in
    let op = given.op in
    let in_pages = page-in_range opening.pages at (length bytes) given.within in
    let free = sym (refused-told opening entries m d at bytes told given.called.sound in_pages) ∙ allowed in
    let after = faults_after-append opening entries entry in
    let one = given.called.now.faults in
    let two = keeps.faults in
    record {
      legal = legal-append opening entries entry told.legal
          (served-follows opening entries entry (Store at bytes) m d given.called op free keeps.done);
      faults = omega arith;
      pages = ap (λ (t : TableView). length t.homes) keeps.table ∙ told.pages;
      capacity = keeps.capacity ∙ told.capacity;
      flat = flat-stored opening.base entries entry opening.pages m d m' d' at bytes
          (length-line_bytes m d (page_of at) (line_in_page at) given.called.sound given.called.device (omega arith))
          (span_one_line opening.pages at (length bytes) given.within) op keeps.done stored told.flat;
      born = λ page low.
          ap (λ (t : TableView). is_born_in t page) keeps.table
          ∙ born-stored opening entries entry at bytes m d given keeps.done page low;
      marks = λ page line low.
          let done = keeps.done in
          rw (ap (λ (t : TableView). marks_of t page) keeps.table)
          (told.marks page line low ∙ sym (is_marked-append opening.base entries entry page line ∙ rw (done, op) refl));
      located = located;
      keeping = keeps.keeping;
    }

drains-kept : (carried : Bool) (opening : Opening) (entries : List Entry) (m : MemoryView) (d d' : DeviceState)
    → IsTold opening entries m d → IsDevice d → DrainsIf carried d d'
    → (d'.faults ≡ d.faults) × IsKeepingDevice opening.base entries d'
drains-kept true opening entries m d d' told device is =
    (is.residence.faults, keeping-drained opening entries d d' told.legal device is told.keeping)
drains-kept false opening entries m d d' told device is = rw is (refl, told.keeping)

-- a frame served the store: its line isn't marked
framed-keeps : (opening : Opening) (entries : List Entry) (entry : Entry) (at : ℕ) (bytes : List ℕ) (frame : ℕ) (side : Side)
    (m : MemoryView) (d : DeviceState) (m' : MemoryView) (d' : DeviceState) → IsStoreAnswered opening entries at bytes m d entry
    → storing_frame m (page_of at) (line_in_page at) ≡ Some frame
    → IsFrameStore frame (page_of at) (line_in_page at) (offset_in_line at) bytes m d (Served entry.reply side) m' d'
    → StoreKeeps opening entries entry at m d m' d'
framed-keeps opening entries entry at bytes frame side m d m' d' given goes is =
    let told = given.called.told in
    let drained = drains-kept (carries (entry_at m (page_of at)) (line_in_page at) (length bytes)) opening entries m d d' told
    given.called.device is.device in
    let unmarked = unmarked-framed opening entries m d (page_of at) (line_in_page at) frame told (omega arith) goes in
    record {
      done = let a = is.access_is in cc;
      table = is.table;
      capacity = is.capacity;
      faults = drained.0;
      keeping = keeping-unmarked opening.base entries entry at bytes d' given.op unmarked drained.1;
    }

-- the store was posted: its line read as the history says
posted-keeps : (opening : Opening) (entries : List Entry) (entry : Entry) (at : ℕ) (bytes : List ℕ) (side : Side)
    (m : MemoryView) (d : DeviceState) (m' : MemoryView) (d' : DeviceState) → IsStoreAnswered opening entries at bytes m d entry
    → storing_frame m (page_of at) (line_in_page at) ≡ None
    → IsDeviceStore (page_of at) (line_in_page at) (offset_in_line at) bytes (length entries) m d (Served entry.reply side) m' d'
    → StoreKeeps opening entries entry at m d m' d'
posted-keeps opening entries entry at bytes side m d m' d' given goes is =
    let told = given.called.told in
    let page : ℕ = page_of at in
    let line : ℕ = line_in_page at in
    let post : Post = record {
      page = numbered page;
      line = line;
      from = offset_in_line at;
      bytes = bytes;
      position = Some (length entries);
    } in
    let done : entry.reply ≡ Done = let a = is.access_is in cc in
    let fits = span_one_line opening.pages at (length bytes) given.within in
    let size = told.pages in
    let in_pages = page-in_range opening.pages at (length bytes) given.within in
    let served : serving_frame m page line ≡ None = serving-posted (home_at m page) (entry_at m page) line goes in
    record {
      done = done;
      table = ap (λ (v : MemoryView). v.table) is.memory;
      capacity = ap (λ (v : MemoryView). v.capacity) is.memory;
      faults = is.device.residence.faults;
      keeping = keeping-stored opening entries entry post d d' told.legal given.called.device
          (record { line = omega arith; span = omega arith }) is.device refl (ap is_done done)
          (given.op ∙ store_of-at at bytes post refl refl refl refl)
          (λ address on_page on_line.
          device_byte-served opening entries m d address told (omega arith)
          (ap (λ (q : ℕ). serving_frame m q (line_in_page address)) on_page
          ∙ ap (λ (j : ℕ). serving_frame m page j) on_line ∙ served))
          told.keeping;
    }

stored-by : (refused : Bool) (to : Option ℕ) (resident : Bool) (opening : Opening) (entries : List Entry) (entry : Entry) (at : ℕ)
    (bytes : List ℕ) (side : Side) (m : MemoryView) (d : DeviceState) (m' : MemoryView) (d' : DeviceState)
    → IsStoreAnswered opening entries at bytes m d entry → is_store_refused m (page_of at) ≡ refused
    → storing_frame m (page_of at) (line_in_page at) ≡ to
    → IsStoreBy refused to resident (page_of at) (line_in_page at) (offset_in_line at) bytes (length entries) m d
    (Served entry.reply side) m' d'
    → IsLocated m' d'
    → StoresBy (Served entry.reply side) (page_of at) (line_in_page at) (offset_in_line at) bytes m d m' d'
    → IsTold opening (entries ++ entry ∷ []) m' d'
stored-by true to resident opening entries entry at bytes side m d m' d' given refused goes is located stored =
    let told = given.called.told in
    let op = given.op in
    let full : entry.reply ≡ Full = let a = is.access_is in cc in
    let in_pages = page-in_range opening.pages at (length bytes) given.within in
    let asked : is_refused opening entries (Store at bytes) ≡ true =
    sym (refused-told opening entries m d at bytes told given.called.sound in_pages) ∙ refused in
    let within = given.within in
    let low = given.called.going in
    let before : (entry.event == last_event) ≡ false = ne_eqb entry.event last_event (omega arith) in
    let due : Full ≡ due_reply opening entries entry.event (Store at bytes) = rw (within, before, asked) refl in
    rw (is.memory, is.device)
    (told-refused opening entries entry m d told given.called.now
    (full ∙ due ∙ ap (λ (o : Op). due_reply opening entries entry.event o) (sym op)) (ap is_done full))
stored-by false (Some frame) resident opening entries entry at bytes side m d m' d' given allowed goes is located stored =
    let keeps = framed-keeps opening entries entry at bytes frame side m d m' d' given goes is in
    told-done opening entries entry at bytes m d m' d' given allowed keeps located (rw keeps.done at stored)
stored-by false None true opening entries entry at bytes side m d m' d' given allowed goes is located stored =
    let keeps = posted-keeps opening entries entry at bytes side m d m' d' given goes is in
    told-done opening entries entry at bytes m d m' d' given allowed keeps located (rw keeps.done at stored)
stored-by false None false opening entries entry at bytes side m d m' d' given allowed goes is located stored =
    absurd (let a = is.access_is in cc)

-- a store was answered: it is refused, a frame has it, or it was posted with the position of its entry
pub told-stored : (opening : Opening) (entries : List Entry) (entry : Entry) (at : ℕ) (bytes : List ℕ) (side : Side) (m : MemoryView)
    (d : DeviceState) (m' : MemoryView) (d' : DeviceState) → IsCalled opening entries m d entry → entry.op ≡ Store at bytes
    → IsStore (page_of at) (line_in_page at) (offset_in_line at) bytes (length entries) m d (Served entry.reply side) m' d'
    → IsLocated m' d'
    → StoresBy (Served entry.reply side) (page_of at) (line_in_page at) (offset_in_line at) bytes m d m' d'
    → IsTold opening (entries ++ entry ∷ []) m' d'
told-stored opening entries entry at bytes side m d m' d' called op is located stored =
    let given : IsStoreAnswered opening entries at bytes m d entry = record {
      called = called;
      op = op;
      within = within-op opening entries m d entry (Store at bytes) called op;
    } in
    stored-by (is_store_refused m (page_of at)) (storing_frame m (page_of at) (line_in_page at)) (d.resident (page_of at)) opening
    entries entry at bytes side m d m' d' given refl refl is located stored
