-- What a history says once a verify, a mark or a release was served.
use Rattle.std.proofs.Common.{◌≡◌, ◌<◌, inl, inr, ℕ, ◌+◌, ◌/◌, ◌%◌, ◌==◌, Bool, true, false, not, List, [], ◌∷◌, ◌++◌, length, Option, Some, None, refl, sym, ap, ◌∙◌, arith}
use Rattle.std.specs.Prelude.{◌||◌, ◌&&◌, cond, is_none, nat_le, nat_lt, unwrap_or}
use Rattle.std.specs.Int.{bit_at}
use Rattle.std.proofs.lemmas.Bool.{and_parts, eqb-true, ltb-true, or_cases}
use Rattle.ff_base.specs.declared.numbers.PageNo.{PageNo}
use Rattle.ff_kept.specs.Keeping.{IsKeepingDevice}
use Rattle.ff_kept.specs.Marked.{marked_at}
use Rattle.ff_kept.specs.Posted.{device_byte}
use Rattle.ff_kept.proofs.KeepingAnswered.{keeping-acknowledged, keeping-released}
use Rattle.ff_kept.proofs.Marks.{marked_at-append, marked_at-mark}
use Rattle.ff_lines.specs.DeviceState.{DeviceState}
use Rattle.ff_memory.specs.Located.{IsLocated}
use Rattle.ff_memory.specs.Marking.{IsMarkBy}
use Rattle.ff_memory.specs.Memory.{MemoryView, entry_at, home_at}
use Rattle.ff_memory.specs.LineBytes.{SameLineBytes, byte_of, frame_of_page, is_home, line_in_page, page_of}
use Rattle.ff_memory.specs.declared.access.Access.TheVariants.{Served}
use Rattle.ff_memory.specs.declared.access.Side.{Side}
use Rattle.ff_memory.proofs.Flat.{byte-same}
use Rattle.ff_model.specs.Callers.{is_in_lines, is_marked, mark_by, marked_by}
use Rattle.ff_model.specs.Flat.{covering_byte, flat_byte_of, stores_to}
use Rattle.ff_model.specs.Legal.{Opening, is_refused, served_reply}
use Rattle.ff_model.specs.Spans.{is_line_range}
use Rattle.ff_model.specs.declared.history.Entry.{Entry}
use Rattle.ff_model.specs.declared.op.Op.{Op}
use Rattle.ff_model.specs.declared.op.Op.TheVariants.{Verify, Mark, Release}
use Rattle.ff_model.specs.declared.op.Reply.TheVariants.{Done}
use Rattle.ff_model.proofs.Appended.{faults_after-append, flat-append, legal-append}
use Rattle.ff_model.proofs.AppendedCalls.{is_marked-append}
use Rattle.ff_table.specs.Table.{is_born_in, marks_of}
use Rattle.ff_calls.specs.Accesses.{IsMarking, IsReleasing, IsVerified}
use Rattle.ff_calls.specs.Told.{IsTold}
use Rattle.ff_calls.proofs.DeviceReads.{device_byte-marked, device_byte-served, serving-home}
use Rattle.ff_calls.proofs.MarkedLines.{marks-fewer, marks-more}
use Rattle.ff_calls.proofs.ToldAnswered.{IsCalled, is_born-same, served-follows, within-op}
use Rattle.ff_calls.proofs.ToldMoved.{told-drained}

-- a call that stores nothing
pub record IsNoStore (op : Op) : Type 0 where
  pub bytes : (address : ℕ) → covering_byte address op ≡ None
  pub born : (page : ℕ) → stores_to page op ≡ false

-- what such a call leaves that was answered Done: the pages, those that are born and the marks that it asked for
pub record MarksKeep (opening : Opening) (entries : List Entry) (entry : Entry) (op : Op) (m : MemoryView) (d : DeviceState)
    (m' : MemoryView) (d' : DeviceState) : Type 0 where
  pub done : entry.reply ≡ Done
  pub pages : length m'.table.homes ≡ length m.table.homes
  pub capacity : m'.capacity ≡ m.capacity
  pub born : (page : ℕ) → is_born_in m'.table page ≡ is_born_in m.table page
  pub marks : (page line : ℕ) → line < 64
      → (bit_at (marks_of m'.table page) line == 1) ≡ unwrap_or (mark_by page line op) (bit_at (marks_of m.table page) line == 1)
  pub faults : d'.faults ≡ d.faults
  pub keeping : IsKeepingDevice opening.base (entries ++ entry ∷ []) d'

-- a call that stores nothing was answered Done
told-marks : (opening : Opening) (entries : List Entry) (entry : Entry) (op : Op) (m : MemoryView) (d : DeviceState)
    (m' : MemoryView) (d' : DeviceState) → IsCalled opening entries m d entry → entry.op ≡ op → IsNoStore op
    → is_refused opening entries op ≡ false → Done ≡ served_reply (flat_byte_of opening.base entries) op
    → MarksKeep opening entries entry op m d m' d' → IsLocated m' d' → SameLineBytes m d m' d'
    → IsTold opening (entries ++ entry ∷ []) m' d'
told-marks opening entries entry op m d m' d' called is none allowed reply keeps located same_lines =
    let told = called.told in
    let done = keeps.done in
    let after = faults_after-append opening entries entry in
    let one = called.now.faults in
    let two = keeps.faults in
    record {
      legal = legal-append opening entries entry told.legal
          (served-follows opening entries entry op m d called is allowed (done ∙ reply));
      faults = omega arith;
      pages = keeps.pages ∙ told.pages;
      capacity = keeps.capacity ∙ told.capacity;
      flat = flat-append opening.base entries entry opening.pages (byte_of m d) (byte_of m' d') told.flat
          (λ address within.
          byte-same m d m' d' same_lines address
          ∙ rw (done, is) (ap (λ (o : Option ℕ). unwrap_or o (byte_of m d address)) (sym (none.bytes address))));
      born = λ page within.
          keeps.born page ∙ told.born page within ∙ is_born-same opening entries entry page (rw (done, is) (none.born page));
      marks = λ page line low.
          let says : mark_by page line op ≡ marked_by page line entry = rw (done, is) refl in
          keeps.marks page line low
          ∙ ap (λ (b : Bool). unwrap_or (mark_by page line op) b) (told.marks page line low)
          ∙ ap (λ (o : Option Bool). unwrap_or o (is_marked opening.base entries page line)) says
          ∙ sym (is_marked-append opening.base entries entry page line);
      located = located;
      keeping = keeps.keeping;
    }

-- a verify was served
pub told-verified : (opening : Opening) (entries : List Entry) (entry : Entry) (side : Side) (m : MemoryView) (d : DeviceState)
    (m' : MemoryView) (d' : DeviceState) → IsCalled opening entries m d entry → entry.op ≡ Verify
    → IsVerified m d (Served entry.reply side) m' d' → IsLocated m' d' → SameLineBytes m d m' d'
    → IsTold opening (entries ++ entry ∷ []) m' d'
told-verified opening entries entry side m d m' d' called op is located same_lines =
    let base = opening.base in
    let done : entry.reply ≡ Done = let a = is.access_is in cc in
    let drained = told-drained opening entries m d d' called.told called.device is.device in
    let reads : (address : ℕ) → marked_at base (entries ++ entry ∷ []) address ≡ true
    → device_byte d' address ≡ flat_byte_of base entries address =
    λ address marked.
    let same : marked_at base (entries ++ entry ∷ []) address ≡ marked_at base entries address =
    marked_at-append base entries entry address ∙ rw (done, op) refl in
    device_byte-marked opening entries m d' address drained called.sound (sym same ∙ marked) in
    told-marks opening entries entry Verify m d m' d' called op (record { bytes = λ address. refl; born = λ page. refl }) refl refl
    (record {
      done = done;
      pages = ap (λ (v : MemoryView). length v.table.homes) is.memory;
      capacity = ap (λ (v : MemoryView). v.capacity) is.memory;
      born = λ page. ap (λ (v : MemoryView). is_born_in v.table page) is.memory;
      marks = λ page line low. ap (λ (v : MemoryView). bit_at (marks_of v.table page) line == 1) is.memory;
      faults = is.device.residence.faults;
      keeping = keeping-acknowledged base entries entry d' (rw op refl) is.device.lines.posts reads drained.keeping;
    })
    located same_lines

-- the page of a range of lines is one of the pages
pub line_range-page : (pages page from count : ℕ) → is_line_range pages page from count ≡ true → page < pages
line_range-page pages page from count within =
    let first = and_parts (nat_lt page pages && nat_le 1 count) (nat_le (from + count) 64) within in
    ltb-true page pages (and_parts (nat_lt page pages) (nat_le 1 count) first.0).0

none-frame : (frame : Option ℕ) → is_none frame ≡ true → frame ≡ None
none-frame None none = refl
none-frame (Some frame) none = absurd (cc none)

-- a line is marked, as a mark asks
marks-asked : (marks : Bool) (before : Bool) → (marks || before) ≡ unwrap_or (cond marks (Some true) None) before
marks-asked true before = refl
marks-asked false before = refl

-- the mark of a line is cleared, as a release asks
clears-asked : (clears : Bool) (before : Bool) → (not clears && before) ≡ unwrap_or (cond clears (Some false) None) before
clears-asked true before = refl
clears-asked false before = refl

-- the lines of a home page, and those that were marked, read on the device as the history says
mark-reads : (opening : Opening) (entries : List Entry) (entry : Entry) (page : PageNo) (from count : ℕ) (m : MemoryView)
    (d d' : DeviceState) → IsCalled opening entries m d entry → entry.op ≡ Mark page from count → entry.reply ≡ Done
    → is_home m page.0 ≡ true → IsTold opening entries m d' → (address : ℕ)
    → marked_at opening.base (entries ++ entry ∷ []) address ≡ true
    → device_byte d' address ≡ flat_byte_of opening.base entries address
mark-reads opening entries entry page from count m d d' called op done home told address marked =
    let now = sym (marked_at-mark opening.base entries entry page from count address (rw done refl) op) ∙ marked in
    let within = line_range-page opening.pages page.0 from count (within-op opening entries m d entry (Mark page from count) called op) in
    let size = told.pages in
    elim (or_cases ((page.0 == address / 4096) && is_in_lines (address % 4096 / 64) from count)
    (marked_at opening.base entries address) now) [
      | inl here ↦
          let same : page.0 ≡ page_of address =
          eqb-true page.0 (address / 4096) (and_parts (page.0 == address / 4096) (is_in_lines (address % 4096 / 64) from count) here).0 in
          let none : frame_of_page (home_at m (page_of address)) (entry_at m (page_of address)) ≡ None =
          none-frame (frame_of_page (home_at m (page_of address)) (entry_at m (page_of address)))
          (ap (λ (q : ℕ). is_home m q) (sym same) ∙ home) in
          device_byte-served opening entries m d' address told (omega arith)
          (serving-home (home_at m (page_of address)) (entry_at m (page_of address)) (line_in_page address) none)
      | inr before ↦ device_byte-marked opening entries m d' address told called.sound before
    ]

marking-keeps : (home : Bool) (opening : Opening) (entries : List Entry) (entry : Entry) (page : PageNo) (from count lines : ℕ)
    (side : Side) (m : MemoryView) (d : DeviceState) (m' : MemoryView) (d' : DeviceState) → IsCalled opening entries m d entry
    → entry.op ≡ Mark page from count
    → ((line : ℕ) → line < 64 → (bit_at lines line == 1) ≡ is_in_lines line from count) → is_home m page.0 ≡ home
    → IsMarkBy home page.0 lines m d (Served entry.reply side) m' d'
    → MarksKeep opening entries entry (Mark page from count) m d m' d'
marking-keeps true opening entries entry page from count lines side m d m' d' called op range home is =
    let done : entry.reply ≡ Done = let a = is.access_is in cc in
    let drained = told-drained opening entries m d d' called.told called.device is.device in
    let within = line_range-page opening.pages page.0 from count (within-op opening entries m d entry (Mark page from count) called op) in
    let size = called.told.pages in
    let count_is = called.sound.table_sound.marked in
    record {
      done = done;
      pages = ap (λ (v : MemoryView). length v.table.homes) is.memory;
      capacity = ap (λ (v : MemoryView). v.capacity) is.memory;
      born = λ q. ap (λ (v : MemoryView). is_born_in v.table q) is.memory;
      marks = λ q line low.
          ap (λ (v : MemoryView). bit_at (marks_of v.table q) line == 1) is.memory
          ∙ marks-more m.table page.0 lines q line (omega arith)
          ∙ ap (λ (b : Bool). ((page.0 == q) && b) || (bit_at (marks_of m.table q) line == 1)) (range line low)
          ∙ marks-asked ((page.0 == q) && is_in_lines line from count) (bit_at (marks_of m.table q) line == 1);
      faults = is.device.residence.faults;
      keeping = keeping-acknowledged opening.base entries entry d' (rw op refl) is.device.lines.posts
          (mark-reads opening entries entry page from count m d d' called op done home drained) drained.keeping;
    }
marking-keeps false opening entries entry page from count lines side m d m' d' called op range home is =
    absurd (let a = is.access_is in cc)

-- a mark was served
pub told-marked : (opening : Opening) (entries : List Entry) (entry : Entry) (page : PageNo) (from count : ℕ) (side : Side)
    (m : MemoryView) (d : DeviceState) (m' : MemoryView) (d' : DeviceState) → IsCalled opening entries m d entry
    → entry.op ≡ Mark page from count → IsMarking page.0 from count m d (Served entry.reply side) m' d' → IsLocated m' d'
    → SameLineBytes m d m' d' → IsTold opening (entries ++ entry ∷ []) m' d'
told-marked opening entries entry page from count side m d m' d' called op is located same_lines =
    told-marks opening entries entry (Mark page from count) m d m' d' called op
    (record { bytes = λ address. refl; born = λ q. refl }) refl refl
    (marking-keeps (is_home m page.0) opening entries entry page from count is.mask.0 side m d m' d' called op
    (λ line low. is.mask_is line low) refl is.marks)
    located same_lines

-- a release was served
pub told-released : (opening : Opening) (entries : List Entry) (entry : Entry) (page : PageNo) (from count : ℕ) (side : Side)
    (m : MemoryView) (d : DeviceState) (m' : MemoryView) (d' : DeviceState) → IsCalled opening entries m d entry
    → entry.op ≡ Release page from count → IsReleasing page.0 from count m d (Served entry.reply side) m' d' → IsLocated m' d'
    → SameLineBytes m d m' d' → IsTold opening (entries ++ entry ∷ []) m' d'
told-released opening entries entry page from count side m d m' d' called op is located same_lines =
    let done : entry.reply ≡ Done = let a = is.access_is in cc in
    let within = line_range-page opening.pages page.0 from count (within-op opening entries m d entry (Release page from count) called op) in
    let size = called.told.pages in
    let count_is = called.sound.table_sound.marked in
    told-marks opening entries entry (Release page from count) m d m' d' called op
    (record { bytes = λ address. refl; born = λ q. refl }) refl refl
    (record {
      done = done;
      pages = ap (λ (v : MemoryView). length v.table.homes) is.memory;
      capacity = ap (λ (v : MemoryView). v.capacity) is.memory;
      born = λ q. ap (λ (v : MemoryView). is_born_in v.table q) is.memory;
      marks = λ q line low.
          ap (λ (v : MemoryView). bit_at (marks_of v.table q) line == 1) is.memory
          ∙ marks-fewer m.table page.0 is.mask.0 q line (omega arith) is.mask_fits low
          ∙ ap (λ (b : Bool). not ((page.0 == q) && b) && (bit_at (marks_of m.table q) line == 1)) (is.mask_is line low)
          ∙ clears-asked ((page.0 == q) && is_in_lines line from count) (bit_at (marks_of m.table q) line == 1);
      faults = ap (λ (s : DeviceState). s.faults) is.device;
      keeping = rw is.device (keeping-released opening.base entries entry page from count d op called.told.keeping);
    })
    located same_lines
