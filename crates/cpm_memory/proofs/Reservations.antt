-- Tables that are taken and given up, and pages that are made of their boot frames again.
use Rattle.std.proofs.Common.{◌≡◌, ◌≢◌, ℕ, zero, suc, ◌+◌, ◌-◌, ◌<◌, ◌≤◌, ◌/◌, ◌%◌, false, cond, List, [], ◌∷◌, length, map, get_or, set, count_by, refl, arith, ap, sym, ◌∙◌, Option, Some, None, is_some, unwrap_or, option_map, ⊎_elim, ◌==◌}
use Rattle.std.proofs.lemmas.List.{get_or-set_same, get_or-set_other, length-set, get_or-map, length-map}
use Rattle.std.proofs.lemmas.List.Sums.{sum_by-set, sum_by-cons, get_or-le-sum_by}
use Rattle.std.proofs.lemmas.Option.{none-some}
use Rattle.std.proofs.lemmas.Bool.{cases_eq}
use Rattle.cpm_memory.specs.Contents.{Contents}
use Rattle.cpm_memory.specs.Opening.{opening, opening_byte}
use Rattle.cpm_memory.specs.Tabulated.{tabulated, tabulated-set, length-tabulated, get_or-tabulated, same_tabulated, same_as_tabulated, count_by-tabulated_none}
use Rattle.cpm_memory.specs.Frames.{Frames, Table, IsStoreSound, blank_table, empty_table, table_at, private_at, frame_of, boot_of, is_frame, pages_on, owners_of, used_by, reserved_by, reserved_of, table_byte, memory_of, memory_at, memories}
use Rattle.cpm_memory.specs.Kept.{IsKept, table_with_frame, with_table, with_shared, with_reservation}
use Rattle.cpm_memory.proofs.Places.{owners_of-moved, used_by-moved, used-moved}
use Rattle.cpm_memory.proofs.Bytes.{table_at-same, table_at-other, private_at-same, private_at-other_page, memory_of-same}
use Rattle.cpm_memory.proofs.Copies.{each_table}

-- ---- the memories after one table was replaced

pub table_byte-other : (s : Frames) (t : ℕ) (table : Table) (t' a : ℕ) → t' ≢ t → table_byte (with_table s t table) t' a ≡ table_byte s t' a
table_byte-other s t table t' a ne =
    ap (λ (x : Table). get_or (frame_of s (unwrap_or (get_or x.places (a / 256) None) (s.private + boot_of (a / 256)))) (a % 256) 0) (table_at-other s t t' table ne)

pub memory_at-other : (s : Frames) (t : ℕ) (table : Table) (t' : ℕ) → t' ≢ t → memory_at (with_table s t table) t' ≡ memory_at s t'
memory_at-other s t table t' ne =
    ap (λ (x : Table). option_map (λ _. memory_of (with_table s t table) t') x.reservation) (table_at-other s t t' table ne)
    ∙ ap (λ c. option_map (λ _. c) (table_at s t').reservation) (memory_of-same s (with_table s t table) t' (λ a. table_byte-other s t table t' a ne) (table_at-other s t t' table ne))

pub memories-with_table : (s : Frames) (t : ℕ) (table : Table) (c : Option Contents) → t < 64 → memory_at (with_table s t table) t ≡ c → memories (with_table s t table) ≡ set (memories s) t c
memories-with_table s t table c lt e = tabulated-set 64 (memory_at s) (memory_at (with_table s t table)) t c None lt e (λ k _ ne. memory_at-other s t table k ne)

-- ---- a table without private frames

-- no item passes where the count is 0
pub none_pass : (xs : List (Option ℕ)) (k : ℕ) → count_by is_some xs ≡ 0 → get_or xs k None ≡ None
none_pass [] k e = refl
none_pass (None ∷ xs) zero e = refl
none_pass (None ∷ xs) (suc k) e = none_pass xs k (omega (arith, e, sum_by-cons (λ (o : Option ℕ). cond {A = ℕ} (is_some o) 1 0) None xs))
none_pass (Some f ∷ xs) k e = absurd (omega (arith, e, sum_by-cons (λ (o : Option ℕ). cond {A = ℕ} (is_some o) 1 0) (Some f) xs))

-- the count is 0 where no item passes
pub count_none : (xs : List (Option ℕ)) → ((k : ℕ) → k < length xs → get_or xs k None ≡ None) → count_by is_some xs ≡ 0
count_none [] h = refl
count_none (x ∷ xs) h =
    sum_by-cons (λ (o : Option ℕ). cond {A = ℕ} (is_some o) 1 0) x xs ∙ omega (arith, ap (λ (o : Option ℕ). cond {A = ℕ} (is_some o) 1 0) (h 0 (omega arith)), count_none xs (λ k l. h (suc k) (omega arith)))

-- its memory is that at opening
pub memory_of-blank : (s : Frames) (t limit : ℕ) → IsStoreSound s → t < 64 → used_by (table_at s t) ≡ 0 → unwrap_or (table_at s t).reservation 0 ≡ limit → memory_of s t ≡ opening limit
memory_of-blank s t limit ok lt blank e =
    ap (λ xs. record { bytes = xs; written = map is_some (table_at s t).places; limit = unwrap_or (table_at s t).reservation 0 })
    (same_tabulated 65536 (table_byte s t) (λ a. opening_byte (a / 256) (a % 256)) 0
    (λ a l. ap (λ o. get_or (frame_of s (unwrap_or o (s.private + boot_of (a / 256)))) (a % 256) 0) (none_pass (table_at s t).places (a / 256) blank) ∙ ok.boot (a / 256) (a % 256) (omega arith) (omega arith)))
    ∙ ap (λ w. record { bytes = tabulated 65536 (λ a. opening_byte (a / 256) (a % 256)); written = w; limit = unwrap_or (table_at s t).reservation 0 })
    (same_as_tabulated 256 (λ _. false) (map is_some (table_at s t).places) false (length-map (table_at s t).places is_some ∙ ok.pages t lt)
    (λ k l. get_or-map is_some (table_at s t).places k None false (omega (arith, ok.pages t lt)) ∙ ap is_some (none_pass (table_at s t).places k blank)))
    ∙ ap (λ n. record { bytes = tabulated 65536 (λ a. opening_byte (a / 256) (a % 256)); written = tabulated 256 (λ _. false); limit = n }) e

-- ---- a reservation

module _ (s : Frames) (t : ℕ) (pages : Option ℕ) (ok : IsStoreSound s) (lt : t < 64) (blank : used_by (table_at s t) ≡ 0) (most : unwrap_or pages 0 ≤ 256) (fits : reserved_of s + unwrap_or pages 0 ≤ s.private + reserved_by (table_at s t)) where
  abbrev reserving : Table
  reserving = record (table_at s t) { reservation = pages }

  in_tables : t < length s.tables
  in_tables = omega (arith, ok.tables)

  owners-same : (g : ℕ) → owners_of (with_reservation s t pages) g ≡ owners_of s g
  owners-same g = omega (arith, sum_by-set (pages_on g) s.tables t reserving blank_table in_tables)

  reserved-after : reserved_of (with_reservation s t pages) + reserved_by (table_at s t) ≡ reserved_of s + unwrap_or pages 0
  reserved-after = sum_by-set reserved_by s.tables t reserving blank_table in_tables

  pub IsSound-reservation : IsStoreSound (with_reservation s t pages)
  IsSound-reservation = record {
    bound = ok.bound;
    tables = length-set s.tables t reserving ∙ ok.tables;
    frames = ok.frames;
    sizes = ok.sizes;
    boot = ok.boot;
    pages = λ t' l. each_table s t reserving (λ x. length x.places ≡ 256) in_tables (ok.pages t lt) t' (λ _. ok.pages t' l);
    numbers = λ t' page. each_table s t reserving (λ x. (g : ℕ) → get_or x.places page None ≡ Some g → g < s.private) in_tables (ok.numbers t page) t' (λ _. ok.numbers t' page);
    blank = λ t'. each_table s t reserving (λ x. x.reservation ≡ None → used_by x ≡ 0) in_tables (λ _. blank) t' (λ _. ok.blank t');
    within = λ t'. each_table s t reserving (λ x. used_by x ≤ reserved_by x) in_tables (omega (arith, blank)) t' (λ _. ok.within t');
    limits = λ t'. each_table s t reserving (λ x. reserved_by x ≤ 256) in_tables most t' (λ _. ok.limits t');
    stamped = ok.stamped;
    reserved = omega (arith, reserved-after, fits);
  }

  pub IsKept-reservation : (counts : List ℕ) (reservations after : ℕ) → IsKept s counts reservations → after + reserved_by (table_at s t) ≡ reservations + unwrap_or pages 0 → IsKept (with_reservation s t pages) counts after
  IsKept-reservation counts reservations after kept e = record {
    sound = IsSound-reservation;
    owners = kept.owners ∙ same_tabulated s.private (owners_of s) (owners_of (with_reservation s t pages)) 0 (λ k _. sym (owners-same k));
    total = omega (arith, kept.total, sum_by-set used_by s.tables t reserving blank_table in_tables);
    reserved = omega (arith, e, kept.reserved, reserved-after);
  }

  pub memories-reserved : (limit : ℕ) → pages ≡ Some limit → memories (with_reservation s t pages) ≡ set (memories s) t (Some (opening limit))
  memories-reserved limit e = memories-with_table s t reserving (Some (opening limit)) lt
      (ap (λ (x : Table). option_map (λ _. memory_of (with_reservation s t pages) t) x.reservation) (table_at-same s t reserving in_tables)
      ∙ ap (λ o. option_map (λ _. memory_of (with_reservation s t pages) t) o) e
      ∙ ap Some (memory_of-blank (with_reservation s t pages) t limit IsSound-reservation lt (ap used_by (table_at-same s t reserving in_tables) ∙ blank)
      (ap (λ (x : Table). unwrap_or x.reservation 0) (table_at-same s t reserving in_tables) ∙ ap (λ o. unwrap_or o 0) e)))

-- ---- a page that is made of its boot frame again

module _ (s : Frames) (t page : ℕ) (ok : IsStoreSound s) (lt : t < 64) (lp : page < 256) where
  abbrev cleared : Table
  cleared = table_with_frame (table_at s t) page None

  in_range : t < length s.tables
  in_range = omega (arith, ok.tables)

  in_pages : page < length (table_at s t).places
  in_pages = omega (arith, ok.pages t lt)

  used-cleared : used_by cleared ≤ used_by (table_at s t)
  used-cleared = omega (arith, used_by-moved s t page None in_pages)

  owners-cleared : (g : ℕ) → owners_of (with_shared s t page) g + cond (is_frame g (private_at s t page)) 1 0 ≡ owners_of s g
  owners-cleared g = omega (arith, owners_of-moved s t page None g in_range in_pages)

  numbers-cleared : (page' g : ℕ) → get_or cleared.places page' None ≡ Some g → g < s.private
  numbers-cleared page' g e =
      ⊎_elim
      (λ (q : page' ≡ page). absurd (none-some g (sym (get_or-set_same (table_at s t).places page None None in_pages) ∙ ap (λ k. get_or cleared.places k None) (sym q) ∙ e)))
      (λ (q : page' ≢ page). ok.numbers t page' g (sym (get_or-set_other (table_at s t).places page page' None None q) ∙ e))
      (cases_eq page' page)

  pub IsSound-shared : IsStoreSound (with_shared s t page)
  IsSound-shared = record {
    bound = ok.bound;
    tables = length-set s.tables t cleared ∙ ok.tables;
    frames = ok.frames;
    sizes = ok.sizes;
    boot = ok.boot;
    pages = λ t' l. each_table s t cleared (λ x. length x.places ≡ 256) in_range (length-set (table_at s t).places page None ∙ ok.pages t lt) t' (λ _. ok.pages t' l);
    numbers = λ t' page'. each_table s t cleared (λ x. (g : ℕ) → get_or x.places page' None ≡ Some g → g < s.private) in_range (numbers-cleared page') t' (λ _. ok.numbers t' page');
    blank = λ t'. each_table s t cleared (λ x. x.reservation ≡ None → used_by x ≡ 0) in_range (λ e. omega (arith, used-cleared, ok.blank t e)) t' (λ _. ok.blank t');
    within = λ t'. each_table s t cleared (λ x. used_by x ≤ reserved_by x) in_range (omega (arith, used-cleared, ok.within t)) t' (λ _. ok.within t');
    limits = λ t'. each_table s t cleared (λ x. reserved_by x ≤ 256) in_range (ok.limits t) t' (λ _. ok.limits t');
    stamped = ok.stamped;
    reserved = omega (arith, ok.reserved, sum_by-set reserved_by s.tables t cleared blank_table in_range);
  }

  -- where the page had a private frame
  module _ (counts : List ℕ) (reservations f : ℕ) (kept : IsKept s counts reservations) (e : private_at s t page ≡ Some f) where
    itself : cond {A = ℕ} (f == f) 1 0 ≡ 1
    itself = grind arith

    another : (g : ℕ) → g ≢ f → cond {A = ℕ} (f == g) 1 0 ≡ 0
    another g ne = grind arith

    pub count-is : get_or counts f 0 ≡ owners_of s f
    count-is = ap (λ xs. get_or xs f 0) kept.owners ∙ get_or-tabulated s.private (owners_of s) f 0 (ok.numbers t page f e)

    owner-less : owners_of (with_shared s t page) f + 1 ≡ owners_of s f
    owner-less = omega (arith, owners-cleared f, ap (λ o. cond {A = ℕ} (is_frame f o) 1 0) e, itself)

    counts-length : length counts ≡ s.private
    counts-length = ap length kept.owners ∙ length-tabulated s.private (owners_of s)

    pub IsKept-shared_some : IsKept (with_shared s t page) (set counts f (get_or counts f 0 - 1)) reservations
    IsKept-shared_some = record {
      sound = IsSound-shared;
      owners = ap (λ xs. set xs f (get_or counts f 0 - 1)) kept.owners ∙ sym (tabulated-set s.private (owners_of s) (owners_of (with_shared s t page)) f (get_or counts f 0 - 1) 0 (ok.numbers t page f e) (omega (arith, owner-less, count-is))
          (λ k l ne. omega (arith, owners-cleared k, ap (λ o. cond {A = ℕ} (is_frame k o) 1 0) e, another k ne)));
      total = omega (arith, kept.total, count-is, owner-less, sum_by-set (λ x. x) counts f (get_or counts f 0 - 1) 0 (omega (arith, counts-length, ok.numbers t page f e)), used-moved s t page None in_range in_pages, ap (λ o. cond {A = ℕ} (is_some o) 1 0) e);
      reserved = omega (arith, kept.reserved, sum_by-set reserved_by s.tables t cleared blank_table in_range);
    }

-- ---- the loop that gives a table's frames up

pub private_at-shared : (s : Frames) (t page k : ℕ) → IsStoreSound s → t < 64 → page < 256 → (k ≢ page → private_at s t k ≡ None) → private_at (with_shared s t page) t k ≡ None
private_at-shared s t page k ok lt lp h =
    ⊎_elim
    (λ (q : k ≡ page). ap (private_at (with_shared s t page) t) q ∙ private_at-same s t page None (omega (arith, ok.tables)) (omega (arith, ok.pages t lt)))
    (λ (q : k ≢ page). private_at-other_page s t page k None (omega (arith, ok.tables)) q ∙ h q)
    (cases_eq k page)

-- a table of which no page has a private frame uses none
pub used-none : (s : Frames) (t : ℕ) → IsStoreSound s → t < 64 → ((k : ℕ) → k < 256 → private_at s t k ≡ None) → used_by (table_at s t) ≡ 0
used-none s t ok lt h = count_none (table_at s t).places (λ k l. h k (omega (arith, ok.pages t lt)))

pub reserved_by-le : (s : Frames) (t : ℕ) → IsStoreSound s → t < 64 → reserved_by (table_at s t) ≤ reserved_of s
reserved_by-le s t ok lt = get_or-le-sum_by reserved_by s.tables t blank_table (omega (arith, ok.tables))

-- ---- a table that is given up

module _ (s : Frames) (t : ℕ) (ok : IsStoreSound s) (lt : t < 64) where
  in_store : t < length s.tables
  in_store = omega (arith, ok.tables)

  pub memories-released : memories (with_table s t empty_table) ≡ set (memories s) t None
  memories-released =
      memories-with_table s t empty_table None lt (ap (λ (x : Table). option_map (λ _. memory_of (with_table s t empty_table) t) x.reservation) (table_at-same s t empty_table in_store))

  -- each frame loses the pages of the table, and no other
  pub owners_of-released : (f : ℕ) → owners_of (with_table s t empty_table) f + pages_on f (table_at s t) ≡ owners_of s f
  owners_of-released f =
      omega (arith, sum_by-set (pages_on f) s.tables t empty_table blank_table in_store, count_by-tabulated_none {X = Option ℕ} (is_frame f) 256 (λ _. None) (λ _. refl))

  -- a table of which no page has a private frame, without its reservation
  pub empty-from : (table : Table) → ((k : ℕ) → k < 256 → private_at s t k ≡ None) → table ≡ record (table_at s t) { reservation = None } → table ≡ empty_table
  empty-from table none e =
      e ∙ ap (λ xs. record { places = xs; reservation = None }) (same_as_tabulated 256 (λ _. None) (table_at s t).places None (ok.pages t lt) none)

-- the store after its pages were cleared one by one, and then its table given up
pub released-from : (old s : Frames) (t : ℕ) (table : Table) → table ≡ empty_table → s.private ≡ old.private → s.frames ≡ old.frames → s.stamps ≡ old.stamps → set s.tables t empty_table ≡ set old.tables t empty_table → with_table s t table ≡ with_table old t empty_table
released-from old s t table empty private frames stamps tables =
    ap (with_table s t) empty
    ∙ ap (λ n. record { private = n; frames = s.frames; tables = set s.tables t empty_table; stamps = s.stamps }) private
    ∙ ap (λ xs. record { private = old.private; frames = xs; tables = set s.tables t empty_table; stamps = s.stamps }) frames
    ∙ ap (λ ts. record { private = old.private; frames = old.frames; tables = ts; stamps = s.stamps }) tables
    ∙ ap (λ ms. record { private = old.private; frames = old.frames; tables = set old.tables t empty_table; stamps = ms }) stamps
