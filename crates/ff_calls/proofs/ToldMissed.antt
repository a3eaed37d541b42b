-- What a call that missed a page found: nothing was done, and the call isn't refused.
use Rattle.std.proofs.Common.{◌≡◌, ◌<◌, ℕ, Bool, true, false, List, length, Option, Some, None, refl, sym, ap, ◌∙◌, arith}
use Rattle.ff_base.specs.Count.{last_event}
use Rattle.ff_base.specs.declared.numbers.PageNo.{PageNo}
use Rattle.ff_lines.specs.DeviceState.{DeviceState}
use Rattle.ff_memory.specs.Loads.{IsLoadBy, IsMissed}
use Rattle.ff_memory.specs.Marking.{IsMarkBy}
use Rattle.ff_memory.specs.Memory.{IsMemorySound, MemoryView, numbered}
use Rattle.ff_memory.specs.LineBytes.{is_home, line_in_page, page_of, offset_in_line, serving_frame, storing_frame}
use Rattle.ff_memory.specs.Stores.{IsStoreBy, is_store_refused}
use Rattle.ff_memory.specs.declared.access.Access.TheVariants.{Miss}
use Rattle.ff_memory.proofs.Spans.{page-in_range}
use Rattle.ff_model.specs.Legal.{Opening, due_reply, is_refused, is_served, may_fault}
use Rattle.ff_model.specs.Spans.{is_in_range}
use Rattle.ff_model.specs.declared.history.Entry.{Entry}
use Rattle.ff_model.specs.declared.op.Op.{Op}
use Rattle.ff_model.specs.declared.op.Op.TheVariants.{Load, Store, Verify, Mark, Release}
use Rattle.ff_calls.specs.Accesses.{Accesses}
use Rattle.ff_calls.specs.Told.{IsTold}
use Rattle.ff_calls.proofs.BornPages.{refused-told}
use Rattle.ff_calls.proofs.ToldAnswered.{is_served-due}
use Rattle.ff_calls.proofs.ToldMarked.{line_range-page}

-- the page of a missed load isn't resident, and no frame has the line
pub record IsLoadMiss (at : ℕ) (m : MemoryView) (d : DeviceState) (page : PageNo) : Type 0 where
  pub page_is : page.0 ≡ page_of at
  pub absent : d.resident page.0 ≡ false
  pub unserved : serving_frame m (page_of at) (line_in_page at) ≡ None

-- the page of a missed store isn't resident, no frame takes the store, and it isn't refused
pub record IsStoreMiss (at : ℕ) (m : MemoryView) (d : DeviceState) (page : PageNo) : Type 0 where
  pub page_is : page.0 ≡ page_of at
  pub absent : d.resident page.0 ≡ false
  pub unserved : storing_frame m (page_of at) (line_in_page at) ≡ None
  pub allowed : is_store_refused m (page_of at) ≡ false

-- the page of a missed mark isn't home
pub record IsMarkMiss (marked : PageNo) (m : MemoryView) (page : PageNo) : Type 0 where
  pub page_is : page.0 ≡ marked.0
  pub away : is_home m page.0 ≡ false

-- what a missed call found of its page
abbrev pub Finds : Op → MemoryView → DeviceState → PageNo → Type 0
Finds (Load at len) m d page = IsLoadMiss at m d page
Finds (Store at bytes) m d page = IsStoreMiss at m d page
Finds Verify m d page = ⊥
Finds (Mark marked from count) m d page = IsMarkMiss marked m page
Finds (Release released from count) m d page = ⊥

-- a call missed a page: nothing was done, the page is one of the pages, and the call isn't refused and may meet a fault
pub record HasMissed (opening : Opening) (entries : List Entry) (event : ℕ) (op : Op) (page : PageNo) (m : MemoryView)
    (d : DeviceState) (m' : MemoryView) (d' : DeviceState) : Type 0 where
  pub memory : m' ≡ m
  pub device : d' ≡ d
  pub within : page.0 < length m.table.homes
  pub may : may_fault op ≡ true
  pub due : is_served (due_reply opening entries event op) ≡ true
  pub finds : Finds op m d page

-- the page that was missed
missed-page : (asked : ℕ) (page : PageNo) (m : MemoryView) (d : DeviceState) (m' : MemoryView) (d' : DeviceState)
    → IsMissed asked m d (Miss page) m' d' → page.0 ≡ asked
missed-page asked page m d m' d' is =
    let same : page ≡ numbered asked = let a = is.access_is in cc in
    ap (λ (p : PageNo). p.0) same

-- nothing was done, and what was found of the page
pub record MissFinds (op : Op) (page : PageNo) (m : MemoryView) (d : DeviceState) (m' : MemoryView) (d' : DeviceState) : Type 0 where
  pub memory : m' ≡ m
  pub device : d' ≡ d
  pub finds : Finds op m d page

load-missed : (to : Option ℕ) (resident : Bool) (at len : ℕ) (bytes : List ℕ) (page : PageNo) (m : MemoryView) (d : DeviceState)
    (m' : MemoryView) (d' : DeviceState) → serving_frame m (page_of at) (line_in_page at) ≡ to → d.resident (page_of at) ≡ resident
    → IsLoadBy to resident (page_of at) bytes m d (Miss page) m' d' → MissFinds (Load at len) page m d m' d'
load-missed (Some frame) resident at len bytes page m d m' d' serving here is = absurd (let a = is.access_is in cc)
load-missed None true at len bytes page m d m' d' serving here is = absurd (let a = is.access_is in cc)
load-missed None false at len bytes page m d m' d' serving here is =
    let asked = missed-page (page_of at) page m d m' d' is in
    record {
      memory = is.memory;
      device = is.device;
      finds = record { page_is = asked; absent = ap (λ (q : ℕ). d.resident q) asked ∙ here; unserved = serving };
    }

store-missed : (refused : Bool) (to : Option ℕ) (resident : Bool) (at : ℕ) (bytes : List ℕ) (position : ℕ) (page : PageNo)
    (m : MemoryView) (d : DeviceState) (m' : MemoryView) (d' : DeviceState) → is_store_refused m (page_of at) ≡ refused
    → storing_frame m (page_of at) (line_in_page at) ≡ to → d.resident (page_of at) ≡ resident
    → IsStoreBy refused to resident (page_of at) (line_in_page at) (offset_in_line at) bytes position m d (Miss page) m' d'
    → MissFinds (Store at bytes) page m d m' d'
store-missed true to resident at bytes position page m d m' d' full goes here is = absurd (let a = is.access_is in cc)
store-missed false (Some frame) resident at bytes position page m d m' d' full goes here is = absurd (let a = is.access_is in cc)
store-missed false None true at bytes position page m d m' d' full goes here is = absurd (let a = is.access_is in cc)
store-missed false None false at bytes position page m d m' d' full goes here is =
    let asked = missed-page (page_of at) page m d m' d' is in
    record {
      memory = is.memory;
      device = is.device;
      finds = record {
        page_is = asked;
        absent = ap (λ (q : ℕ). d.resident q) asked ∙ here;
        unserved = goes;
        allowed = full;
      };
    }

mark-missed : (home : Bool) (marked : PageNo) (from count lines : ℕ) (page : PageNo) (m : MemoryView) (d : DeviceState)
    (m' : MemoryView) (d' : DeviceState) → is_home m marked.0 ≡ home → IsMarkBy home marked.0 lines m d (Miss page) m' d'
    → MissFinds (Mark marked from count) page m d m' d'
mark-missed true marked from count lines page m d m' d' home is = absurd (let a = is.access_is in cc)
mark-missed false marked from count lines page m d m' d' home is =
    let asked = missed-page marked.0 page m d m' d' is in
    record {
      memory = is.memory;
      device = is.device;
      finds = record { page_is = asked; away = ap (λ (q : ℕ). is_home m q) asked ∙ home };
    }

-- what a call that missed a page found of it
pub miss-finds : (op : Op) (position : ℕ) (page : PageNo) (m : MemoryView) (d : DeviceState) (m' : MemoryView) (d' : DeviceState)
    → Accesses op position m d (Miss page) m' d' → MissFinds op page m d m' d'
miss-finds (Load at len) position page m d m' d' is =
    load-missed (serving_frame m (page_of at) (line_in_page at)) (d.resident (page_of at)) at len _ page m d m' d' refl refl is
miss-finds (Store at bytes) position page m d m' d' is =
    store-missed (is_store_refused m (page_of at)) (storing_frame m (page_of at) (line_in_page at)) (d.resident (page_of at)) at
    bytes position page m d m' d' refl refl refl is
miss-finds Verify position page m d m' d' is = absurd (let a = is.access_is in cc)
miss-finds (Mark marked from count) position page m d m' d' is =
    mark-missed (is_home m marked.0) marked from count is.mask.0 page m d m' d' refl is.marks
miss-finds (Release released from count) position page m d m' d' is = absurd (let a = is.access_is in cc)

-- the page of a missed call is one of the pages, and the call isn't refused and may meet a fault
record MissAllowed (opening : Opening) (entries : List Entry) (op : Op) (page : PageNo) : Type 0 where
  within : page.0 < opening.pages
  may : may_fault op ≡ true
  allowed : is_refused opening entries op ≡ false

miss-allowed : (opening : Opening) (entries : List Entry) (op : Op) (page : PageNo) (m : MemoryView) (d : DeviceState)
    → IsTold opening entries m d → IsMemorySound m → is_in_range opening.pages op ≡ true → Finds op m d page
    → MissAllowed opening entries op page
miss-allowed opening entries (Load at len) page m d told sound range finds =
    let low = page-in_range opening.pages at len range in
    let same = finds.page_is in
    record { within = omega arith; may = refl; allowed = refl }
miss-allowed opening entries (Store at bytes) page m d told sound range finds =
    let low = page-in_range opening.pages at (length bytes) range in
    let same = finds.page_is in
    record {
      within = omega arith;
      may = refl;
      allowed = sym (refused-told opening entries m d at bytes told sound low) ∙ finds.allowed;
    }
miss-allowed opening entries Verify page m d told sound range finds = absurd finds
miss-allowed opening entries (Mark marked from count) page m d told sound range finds =
    let low = line_range-page opening.pages marked.0 from count range in
    let same = finds.page_is in
    record { within = omega arith; may = refl; allowed = refl }
miss-allowed opening entries (Release released from count) page m d told sound range finds = absurd finds

-- a call in range missed a page before the last event
pub told-missed : (opening : Opening) (entries : List Entry) (event : ℕ) (op : Op) (position : ℕ) (page : PageNo) (m : MemoryView)
    (d : DeviceState) (m' : MemoryView) (d' : DeviceState) → IsTold opening entries m d → IsMemorySound m
    → is_in_range opening.pages op ≡ true → event < last_event → Accesses op position m d (Miss page) m' d'
    → HasMissed opening entries event op page m d m' d'
told-missed opening entries event op position page m d m' d' told sound range going is =
    let miss = miss-finds op position page m d m' d' is in
    let allows = miss-allowed opening entries op page m d told sound range miss.finds in
    let low = allows.within in
    let size = told.pages in
    record {
      memory = miss.memory;
      device = miss.device;
      within = omega arith;
      may = allows.may;
      due = is_served-due opening entries event op range going allows.allowed;
      finds = miss.finds;
    }
