-- A table whose pages are made of the frames of another table's pages.
use Rattle.std.proofs.Common.{◌≡◌, ◌≢◌, ℕ, ◌+◌, ◌<◌, ◌≤◌, ◌/◌, ◌%◌, true, cond, List, length, map, get_or, set, refl, arith, ap, sym, ◌∙◌, Option, Some, None, is_some, unwrap_or, option_map, ⊎_elim, ◌==◌}
use Rattle.std.proofs.lemmas.List.{get_or-set_same, get_or-set_other, length-set, set-get_or, set-set}
use Rattle.std.proofs.lemmas.List.Sums.{sum_by-set}
use Rattle.std.proofs.lemmas.Option.{same_Some}
use Rattle.std.proofs.lemmas.Bool.{cases_eq, cases_lt, false≢true}
use Rattle.cpm_memory.specs.Contents.{Contents}
use Rattle.cpm_memory.specs.Tabulated.{tabulated, tabulated-set, same_as_tabulated, length-tabulated, get_or-tabulated}
use Rattle.cpm_memory.specs.Frames.{Frames, Table, IsStoreSound, IsTableTaken, HasReservation, KeepsPlaces, blank_table, empty_table, table_at, private_at, frame_of_page, frame_of, boot_of, is_frame, owners_of, used_by, reserved_by, memory_of, memory_at, memories}
use Rattle.cpm_memory.specs.Kept.{IsKept, table_with_frame, with_table, with_reservation}
use Rattle.cpm_memory.proofs.Places.{owners_of-moved, used_by-moved, used-moved}
use Rattle.cpm_memory.proofs.NewStore.{owners_of-le}
use Rattle.cpm_memory.proofs.Counting.{sum_by_le_at, sums_lt}
use Rattle.cpm_memory.proofs.Bytes.{table_at-same, table_at-other, private_at-same, private_at-other_page}
use Rattle.cpm_memory.proofs.Copies.{each_table}
use Rattle.cpm_memory.proofs.Reservations.{none_pass, memories-with_table}

-- ---- one page is made of a frame that another page has

module _ (s : Frames) (counts : List ℕ) (reservations t page t' page' f : ℕ) (kept : IsKept s counts reservations) (lt : t < 64) (lp : page < 256) (none : private_at s t page ≡ None) (at : private_at s t' page' ≡ Some f) (room : used_by (table_at s t) < reserved_by (table_at s t)) where
  abbrev ok : IsStoreSound s
  ok = kept.sound

  abbrev joined : Table
  joined = table_with_frame (table_at s t) page (Some f)

  in_tables : t < length s.tables
  in_tables = omega (arith, ok.tables)

  in_pages : page < length (table_at s t).places
  in_pages = omega (arith, ok.pages t lt)

  private : f < s.private
  private = ok.numbers t' page' f at

  owners-after : (g : ℕ) → owners_of (with_table s t joined) g ≡ owners_of s g + cond (f == g) 1 0
  owners-after g = omega (arith, owners_of-moved s t page (Some f) g in_tables in_pages, ap (λ o. cond {A = ℕ} (is_frame g o) 1 0) none)

  used-after : used_by joined ≡ used_by (table_at s t) + 1
  used-after = omega (arith, used_by-moved s t page (Some f) in_pages, ap (λ o. cond {A = ℕ} (is_some o) 1 0) none)

  numbers-joined : (k g : ℕ) → get_or joined.places k None ≡ Some g → g < s.private
  numbers-joined k g e =
      ⊎_elim
      (λ (q : k ≡ page).
      let here : get_or joined.places k None ≡ Some f = ap (λ x. get_or joined.places x None) q ∙ get_or-set_same (table_at s t).places page (Some f) None in_pages in
      omega (arith, private, same_Some f g (sym here ∙ e)))
      (λ (q : k ≢ page). ok.numbers t k g (sym (get_or-set_other (table_at s t).places page k (Some f) None q) ∙ e))
      (cases_eq k page)

  no_room : (table : Table) → used_by table < reserved_by table → table.reservation ≡ None → ⊥
  no_room table l e = absurd (omega (arith, l, ap (λ (o : Option ℕ). unwrap_or o 0) e))

  IsSound-joined : IsStoreSound (with_table s t joined)
  IsSound-joined = record {
    bound = ok.bound;
    tables = length-set s.tables t joined ∙ ok.tables;
    frames = ok.frames;
    sizes = ok.sizes;
    boot = ok.boot;
    pages = λ k l. each_table s t joined (λ x. length x.places ≡ 256) in_tables (length-set (table_at s t).places page (Some f) ∙ ok.pages t lt) k (λ _. ok.pages k l);
    numbers = λ k p. each_table s t joined (λ x. (g : ℕ) → get_or x.places p None ≡ Some g → g < s.private) in_tables (numbers-joined p) k (λ _. ok.numbers k p);
    blank = λ k. each_table s t joined (λ x. x.reservation ≡ None → used_by x ≡ 0) in_tables (λ e. absurd (no_room (table_at s t) room e)) k (λ _. ok.blank k);
    within = λ k. each_table s t joined (λ x. used_by x ≤ reserved_by x) in_tables (omega (arith, used-after, room)) k (λ _. ok.within k);
    limits = λ k. each_table s t joined (λ x. reserved_by x ≤ 256) in_tables (ok.limits t) k (λ _. ok.limits k);
    stamped = ok.stamped;
    reserved = omega (arith, ok.reserved, sum_by-set reserved_by s.tables t joined blank_table in_tables);
  }

  itself : cond {A = ℕ} (f == f) 1 0 ≡ 1
  itself = grind arith

  another : (g : ℕ) → g ≢ f → cond {A = ℕ} (f == g) 1 0 ≡ 0
  another g ne = grind arith

  counted : get_or counts f 0 ≡ owners_of s f
  counted = ap (λ xs. get_or xs f 0) kept.owners ∙ get_or-tabulated s.private (owners_of s) f 0 private

  -- a frame has no more owners than there are private frames
  pub count-most : get_or counts f 0 ≤ 16384
  count-most = omega (arith, counted, owners_of-le s f, sum_by_le_at used_by reserved_by s.tables blank_table ok.within, ok.reserved, ok.bound)

  pub IsKept-joined : IsKept (with_table s t joined) (set counts f (get_or counts f 0 + 1)) reservations
  IsKept-joined = record {
    sound = IsSound-joined;
    owners = ap (λ xs. set xs f (get_or counts f 0 + 1)) kept.owners ∙ sym (tabulated-set s.private (owners_of s) (owners_of (with_table s t joined)) f (get_or counts f 0 + 1) 0 private (omega (arith, owners-after f, counted, itself)) (λ k l ne. omega (arith, owners-after k, another k ne)));
    total = omega (arith, kept.total, sum_by-set (λ x. x) counts f (get_or counts f 0 + 1) 0 (omega (arith, private, ap length kept.owners, length-tabulated s.private (owners_of s))), used-moved s t page (Some f) in_tables in_pages, ap (λ o. cond {A = ℕ} (is_some o) 1 0) none);
    reserved = omega (arith, kept.reserved, sum_by-set reserved_by s.tables t joined blank_table in_tables);
  }

-- ---- all pages of a table, one after another

-- So many pages of a table are made of the frames of the other table's, the rest of boot frames, and nothing else has changed.
pub record Shares (first s : Frames) (t u n : ℕ) : Type 0 where
  pub sound : IsStoreSound s
  pub private : s.private ≡ first.private
  pub frames : s.frames ≡ first.frames
  pub stamps : s.stamps ≡ first.stamps
  pub others : set s.tables t empty_table ≡ set first.tables t empty_table
  pub reservation : (table_at s t).reservation ≡ (table_at first u).reservation
  pub joined : (k : ℕ) → k < n → private_at s t k ≡ private_at first u k
  pub rest : (k : ℕ) → n ≤ k → private_at s t k ≡ None

no-reservation : (c : Contents) (o : Option ℕ) → option_map (λ _. c) o ≡ None → o ≡ None
no-reservation c None e = refl
no-reservation c (Some n) e = absurd (false≢true (sym (ap is_some e)))

some-reservation : (o : Option ℕ) → is_some o ≡ true → o ≡ Some (unwrap_or o 0)
some-reservation None e = absurd (false≢true e)
some-reservation (Some n) e = refl

module _ (old first : Frames) (t u pages : ℕ) (ok : IsStoreSound old) (lt : t < 64) (lu : u < 64) (free : memory_at old t ≡ None) (taken : HasReservation old u) (count : pages ≡ reserved_by (table_at old u)) (e : first ≡ with_reservation old t (Some pages)) where
  blank : (table_at old t).reservation ≡ None
  blank = no-reservation (memory_of old t) (table_at old t).reservation free

  pub apart : u ≢ t
  apart q = false≢true (sym (ap is_some blank) ∙ ap (λ x. is_some (table_at old x).reservation) (sym q) ∙ taken)

  in_store : t < length old.tables
  in_store = omega (arith, ok.tables)

  here : table_at first t ≡ record (table_at old t) { reservation = Some pages }
  here = ap (λ x. table_at x t) e ∙ table_at-same old t (record (table_at old t) { reservation = Some pages }) in_store

  there : table_at first u ≡ table_at old u
  there = ap (λ x. table_at x u) e ∙ table_at-other old t u (record (table_at old t) { reservation = Some pages }) apart

  pub Shares-none : IsStoreSound first → Shares first first t u 0
  Shares-none sound = record {
    sound = sound;
    private = refl;
    frames = refl;
    stamps = refl;
    others = refl;
    reservation = ap (λ (x : Table). x.reservation) here ∙ ap Some count ∙ sym (some-reservation (table_at old u).reservation taken) ∙ sym (ap (λ (x : Table). x.reservation) there);
    joined = λ k l. absurd (omega (arith, l));
    rest = λ k _. ap (λ (x : Table). get_or x.places k None) here ∙ none_pass (table_at old t).places k (ok.blank t blank);
  }

  -- the table is then the other one
  module _ (s : Frames) (all : Shares first s t u 256) where
    lists : (table_at s t).places ≡ (table_at first u).places
    lists =
        let size : length (table_at first u).places ≡ 256 = ap (λ (x : Table). length x.places) there ∙ ok.pages u lu in
        same_as_tabulated 256 (private_at first u) (table_at s t).places None (all.sound.pages t lt) all.joined
        ∙ sym (same_as_tabulated 256 (private_at first u) (table_at first u).places None size (λ k _. refl))

    table : table_at s t ≡ table_at old u
    table =
        ap (λ ps. record { places = ps; reservation = (table_at s t).reservation }) lists
        ∙ ap (λ r. record { places = (table_at first u).places; reservation = r }) all.reservation
        ∙ there

    tables : set s.tables t (table_at old u) ≡ set old.tables t (table_at old u)
    tables =
        sym (set-set s.tables t empty_table (table_at old u))
        ∙ ap (λ ts. set ts t (table_at old u)) all.others
        ∙ set-set first.tables t empty_table (table_at old u)
        ∙ ap (λ (x : Frames). set x.tables t (table_at old u)) e
        ∙ set-set old.tables t (record (table_at old t) { reservation = Some pages }) (table_at old u)

    pub shared-whole : s ≡ with_table old t (table_at old u)
    shared-whole =
        sym (ap (λ ts. record s { tables = ts }) (set-get_or s.tables t blank_table))
        ∙ ap (with_table s t) table
        ∙ ap (λ ts. record s { tables = ts }) tables
        ∙ ap (λ n. record { private = n; frames = s.frames; tables = set old.tables t (table_at old u); stamps = s.stamps }) (all.private ∙ ap (λ (x : Frames). x.private) e)
        ∙ ap (λ xs. record { private = old.private; frames = xs; tables = set old.tables t (table_at old u); stamps = s.stamps }) (all.frames ∙ ap (λ (x : Frames). x.frames) e)
        ∙ ap (λ xs. record { private = old.private; frames = old.frames; tables = set old.tables t (table_at old u); stamps = xs }) (all.stamps ∙ ap (λ (x : Frames). x.stamps) e)

module _ (first s : Frames) (t u n : ℕ) (lt : t < 64) (lu : u < 64) (ln : n < 256) (other : u ≢ t) (so_far : Shares first s t u n) where
  sound : IsStoreSound s
  sound = so_far.sound

  within_store : t < length s.tables
  within_store = omega (arith, sound.tables)

  within_table : n < length (table_at s t).places
  within_table = omega (arith, sound.pages t lt)

  source : table_at s u ≡ table_at first u
  source =
      sym (get_or-set_other s.tables t u empty_table blank_table other)
      ∙ ap (λ ts. get_or ts u blank_table) so_far.others
      ∙ get_or-set_other first.tables t u empty_table blank_table other

  source-page : (k : ℕ) → private_at s u k ≡ private_at first u k
  source-page k = ap (λ (x : Table). get_or x.places k None) source

  abbrev bit : Option ℕ → ℕ
  bit o = cond {A = ℕ} (is_some o) 1 0

  no-more : (k : ℕ) → bit (private_at s t k) ≤ bit (private_at s u k)
  no-more k =
      ⊎_elim
      (λ (q : k < n). omega (arith, ap bit (so_far.joined k q ∙ sym (source-page k))))
      (λ (q : n ≤ k). omega (arith, ap bit (so_far.rest k q)))
      (cases_lt k n)

  -- there is room for the next page
  pub room-joined : (f : ℕ) → private_at s u n ≡ Some f → used_by (table_at s t) < reserved_by (table_at s t)
  room-joined f at =
      let fewer : used_by (table_at s t) < used_by (table_at s u) =
      sums_lt bit (table_at s t).places (table_at s u).places n None (sound.pages t lt ∙ sym (sound.pages u lu)) (λ k _. no-more k) within_table (omega (arith, ap bit (so_far.rest n (omega arith)), ap bit at)) in
      omega (arith, fewer, sound.within u, ap reserved_by source, ap (λ o. unwrap_or o 0) so_far.reservation)

  pub Shares-more : (s' : Frames) → IsStoreSound s' → s' ≡ with_table s t (table_with_frame (table_at s t) n (private_at s u n)) → Shares first s' t u (n + 1)
  Shares-more s' sound' e = record {
    sound = sound';
    private = ap (λ (x : Frames). x.private) e ∙ so_far.private;
    frames = ap (λ (x : Frames). x.frames) e ∙ so_far.frames;
    stamps = ap (λ (x : Frames). x.stamps) e ∙ so_far.stamps;
    others = ap (λ (x : Frames). set x.tables t empty_table) e ∙ set-set s.tables t (table_with_frame (table_at s t) n (private_at s u n)) empty_table ∙ so_far.others;
    reservation = ap (λ x. (table_at x t).reservation) e ∙ ap (λ (x : Table). x.reservation) (table_at-same s t (table_with_frame (table_at s t) n (private_at s u n)) within_store) ∙ so_far.reservation;
    joined = λ k l. ap (λ x. private_at x t k) e
        ∙ ⊎_elim
        (λ (q : k ≡ n). ap (private_at (with_table s t (table_with_frame (table_at s t) n (private_at s u n))) t) q ∙ private_at-same s t n (private_at s u n) within_store within_table ∙ source-page n ∙ ap (private_at first u) (sym q))
        (λ (q : k ≢ n). private_at-other_page s t n k (private_at s u n) within_store q ∙ so_far.joined k (omega (arith, l, q)))
        (cases_eq k n);
    rest = λ k l. ap (λ x. private_at x t k) e ∙ private_at-other_page s t n k (private_at s u n) within_store (λ q. absurd (omega (arith, l, q))) ∙ so_far.rest k (omega (arith, l));
  }

-- ---- the store in which a table is the same as another

module _ (s : Frames) (t u : ℕ) (ok : IsStoreSound s) (lt : t < 64) (taken : HasReservation s u) where
  in_order : t < length s.tables
  in_order = omega (arith, ok.tables)

  abbrev both : Frames
  both = with_table s t (table_at s u)

  same : table_at both t ≡ table_at s u
  same = table_at-same s t (table_at s u) in_order

  pub places-shared : (page : ℕ) → frame_of_page both t page ≡ frame_of_page s u page
  places-shared page = ap (λ (x : Table). unwrap_or (get_or x.places page None) (s.private + boot_of page)) same

  pub others-shared : KeepsPlaces s both t
  others-shared t' page ne = ap (λ (x : Table). unwrap_or (get_or x.places page None) (s.private + boot_of page)) (table_at-other s t t' (table_at s u) ne)

  memory : memory_of both t ≡ memory_of s u
  memory =
      ap (λ (x : Table). record { bytes = tabulated 65536 (λ a. get_or (frame_of s (unwrap_or (get_or x.places (a / 256) None) (s.private + boot_of (a / 256)))) (a % 256) 0); written = map is_some x.places; limit = unwrap_or x.reservation 0 }) same

  some : (o : Option ℕ) (c : Contents) → is_some o ≡ true → option_map (λ _. c) o ≡ Some c
  some None c e = absurd (false≢true e)
  some (Some n) c e = refl

  pub memories-shared : memories both ≡ set (memories s) t (Some (memory_of s u))
  memories-shared =
      memories-with_table s t (table_at s u) (Some (memory_of s u)) lt
      (ap (λ (x : Table). option_map (λ _. memory_of both t) x.reservation) same ∙ some (table_at s u).reservation (memory_of both t) taken ∙ ap Some memory)

  pub taken-shared : IsTableTaken both t
  taken-shared = ap (λ m. is_some (get_or m t None)) memories-shared ∙ ap is_some (get_or-set_same (memories s) t (Some (memory_of s u)) None (omega (arith, lt, length-tabulated 64 (memory_at s))))
