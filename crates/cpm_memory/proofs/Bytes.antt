-- What a copy of a page and a write of a byte change.
use Rattle.std.proofs.Common.{◌≡◌, ◌≢◌, ℕ, ◌+◌, ◌*◌, ◌<◌, ◌≤◌, ◌/◌, ◌%◌, true, [], length, map, get_or, set, refl, arith, ap, sym, ◌∙◌, Option, Some, None, is_some, unwrap_or, option_map, ⊎_elim, subst}
use Rattle.std.proofs.lemmas.List.{get_or-set_same, get_or-set_other, set-get_or, map-set, set-set}
use Rattle.std.proofs.lemmas.Bool.{cases_eq}
use Rattle.cpm_memory.specs.Contents.{Contents, after_set, byte_at}
use Rattle.cpm_memory.specs.Tabulated.{tabulated, same_tabulated, tabulated-set, get_or-tabulated}
use Rattle.cpm_memory.specs.Frames.{Frames, Table, IsStoreSound, blank_table, table_at, private_at, frame_of_page, frame_of, boot_of, table_byte, memory_of, ChangesTable, memory_at, owners_of, owners_at, IsAlone}
use Rattle.cpm_memory.specs.Kept.{table_with_frame, with_private, with_byte, with_table}
use Rattle.cpm_memory.proofs.Places.{owners_of-at, same_table, same_page}

-- ---- the tables after a page was moved

pub table_at-same : (s : Frames) (t : ℕ) (table : Table) → t < length s.tables → table_at (with_table s t table) t ≡ table
table_at-same s t table l = get_or-set_same s.tables t table blank_table l

pub table_at-other : (s : Frames) (t t' : ℕ) (table : Table) → t' ≢ t → table_at (with_table s t table) t' ≡ table_at s t'
table_at-other s t t' table ne = get_or-set_other s.tables t t' table blank_table ne

-- the page that was moved is at its new frame
pub private_at-same : (s : Frames) (t page : ℕ) (new : Option ℕ) → t < length s.tables → page < length (table_at s t).places → private_at (with_table s t (table_with_frame (table_at s t) page new)) t page ≡ new
private_at-same s t page new lt lp =
    ap (λ (x : Table). get_or x.places page None) (table_at-same s t (table_with_frame (table_at s t) page new) lt) ∙ get_or-set_same (table_at s t).places page new None lp

-- any other is where it was
pub private_at-other_page : (s : Frames) (t page page' : ℕ) (new : Option ℕ) → t < length s.tables → page' ≢ page → private_at (with_table s t (table_with_frame (table_at s t) page new)) t page' ≡ private_at s t page'
private_at-other_page s t page page' new lt ne =
    ap (λ (x : Table). get_or x.places page' None) (table_at-same s t (table_with_frame (table_at s t) page new) lt) ∙ get_or-set_other (table_at s t).places page page' new None ne

pub private_at-other_table : (s : Frames) (t page t' page' : ℕ) (new : Option ℕ) → t' ≢ t → private_at (with_table s t (table_with_frame (table_at s t) page new)) t' page' ≡ private_at s t' page'
private_at-other_table s t page t' page' new ne =
    ap (λ (x : Table). get_or x.places page' None) (table_at-other s t t' (table_with_frame (table_at s t) page new) ne)

-- ---- a frame that is at a page

-- the frame at a page is private, or a boot frame
pub place_of-cases : (s : Frames) (t page f : ℕ) → f < s.private → frame_of_page s t page ≡ f → private_at s t page ≡ Some f
place_of-cases s t page f l e = cases (private_at s t page) e
  where
    cases : (o : Option ℕ) → unwrap_or o (s.private + boot_of page) ≡ f → o ≡ Some f
    cases None q = absurd (omega (arith, q))
    cases (Some g) q = ap Some q

-- a page whose private frame has one owner is alone with it
pub IsAlone-from : (s : Frames) (t page f : ℕ) → f < s.private → owners_of s f ≤ 1 → private_at s t page ≡ Some f → IsAlone s t page
IsAlone-from s t page f private one at =
    let here : frame_of_page s t page ≡ f = ap (λ o. unwrap_or o (s.private + boot_of page)) at in
    record {
      private = omega (arith, private, here);
      alone = λ t' page' q.
          let there : private_at s t' page' ≡ Some f = place_of-cases s t' page' f private (q ∙ here) in
          let table : t' ≡ t = same_table s t' page' t page f one there at in
          (table, same_page s t page' page f one (ap (λ x. private_at s x page') (sym table) ∙ there) at);
    }

pub IsAlone-counted : (s : Frames) (t page : ℕ) → IsStoreSound s → owners_at s t page ≡ 1 → IsAlone s t page
IsAlone-counted s t page ok one = cases (private_at s t page) refl one
  where
    cases : (o : Option ℕ) → private_at s t page ≡ o → unwrap_or (option_map (owners_of s) o) 0 ≡ 1 → IsAlone s t page
    cases None at e = absurd (omega (arith, e))
    cases (Some f) at e = IsAlone-from s t page f (ok.numbers t page f at) (omega (arith, e)) at

-- ---- a copy of a page

module _ (s : Frames) (t page f : ℕ) (private : f < s.private) (free : owners_of s f ≡ 0) (fits : length s.frames ≡ s.private + 4) (lt : t < length s.tables) (lp : page < length (table_at s t).places) where
  -- no page is made of the free frame
  not_at : (t' page' : ℕ) → frame_of_page s t' page' ≢ f
  not_at t' page' e = absurd (omega (arith, free, owners_of-at s t' page' f (place_of-cases s t' page' f private e)))

  frame-other : (g : ℕ) → g ≢ f → frame_of (with_private s t page f) g ≡ frame_of s g
  frame-other g ne = get_or-set_other s.frames f g (frame_of s (frame_of_page s t page)) [] ne

  frame-same : frame_of (with_private s t page f) f ≡ frame_of s (frame_of_page s t page)
  frame-same = get_or-set_same s.frames f (frame_of s (frame_of_page s t page)) [] (omega (arith, fits, private))

  -- where the frame of a page stays, so do its bytes
  kept : (t' page' : ℕ) → private_at (with_private s t page f) t' page' ≡ private_at s t' page' → frame_of (with_private s t page f) (frame_of_page (with_private s t page f) t' page') ≡ frame_of s (frame_of_page s t' page')
  kept t' page' e = ap (λ o. frame_of (with_private s t page f) (unwrap_or o (s.private + boot_of page'))) e ∙ frame-other (frame_of_page s t' page') (not_at t' page')

  -- each page keeps its bytes
  pub frame-copied : (t' page' : ℕ) → frame_of (with_private s t page f) (frame_of_page (with_private s t page f) t' page') ≡ frame_of s (frame_of_page s t' page')
  frame-copied t' page' =
      ⊎_elim
      (λ (q : t' ≡ t). ⊎_elim
      (λ (r : page' ≡ page). ap (λ x. frame_of (with_private s t page f) (frame_of_page (with_private s t page f) x page')) q
      ∙ ap (λ x. frame_of (with_private s t page f) (frame_of_page (with_private s t page f) t x)) r
      ∙ ap (λ o. frame_of (with_private s t page f) (unwrap_or o (s.private + boot_of page))) (private_at-same s t page (Some f) lt lp)
      ∙ frame-same
      ∙ ap (λ x. frame_of s (frame_of_page s t x)) (sym r)
      ∙ ap (λ x. frame_of s (frame_of_page s x page')) (sym q))
      (λ (r : page' ≢ page). kept t' page' (ap (λ x. private_at (with_private s t page f) x page') q ∙ private_at-other_page s t page page' (Some f) lt r ∙ ap (λ x. private_at s x page') (sym q)))
      (cases_eq page' page))
      (λ (q : t' ≢ t). kept t' page' (private_at-other_table s t page t' page' (Some f) q))
      (cases_eq t' t)

  pub byte-copied : (t' address : ℕ) → table_byte (with_private s t page f) t' address ≡ table_byte s t' address
  byte-copied t' address = ap (λ x. get_or x (address % 256) 0) (frame-copied t' (address / 256))

-- ---- a write of a byte

module _ (s : Frames) (t address f value : ℕ) (private : f < s.private) (at : private_at s t (address / 256) ≡ Some f) (single : (t' page' : ℕ) → frame_of_page s t' page' ≡ f → (t' ≡ t) × (page' ≡ address / 256)) (fits : length s.frames ≡ s.private + 4) (size : length (frame_of s f) ≡ 256) where
  written-same : frame_of (with_byte s f (address % 256) value) f ≡ set (frame_of s f) (address % 256) value
  written-same = get_or-set_same s.frames f (set (frame_of s f) (address % 256) value) [] (omega (arith, fits, private))

  written-other : (g : ℕ) → g ≢ f → frame_of (with_byte s f (address % 256) value) g ≡ frame_of s g
  written-other g ne = get_or-set_other s.frames f g (set (frame_of s f) (address % 256) value) [] ne

  -- the byte is written
  pub byte-written : table_byte (with_byte s f (address % 256) value) t address ≡ value
  byte-written = ap (λ o. get_or (frame_of (with_byte s f (address % 256) value) (unwrap_or o (s.private + boot_of (address / 256)))) (address % 256) 0) at
      ∙ ap (λ x. get_or x (address % 256) 0) written-same
      ∙ get_or-set_same (frame_of s f) (address % 256) value 0 (omega (arith, size))

  -- no other byte of any table is
  pub byte-kept : (t' k : ℕ) → (t' ≡ t → k ≡ address → ⊥) → table_byte (with_byte s f (address % 256) value) t' k ≡ table_byte s t' k
  byte-kept t' k other =
      ⊎_elim
      (λ (q : frame_of_page s t' (k / 256) ≡ f).
      let one_table : t' ≡ t = (single t' (k / 256) q).0 in
      let one_page : k / 256 ≡ address / 256 = (single t' (k / 256) q).1 in
      let apart : k % 256 ≢ address % 256 = (λ e. other one_table (omega (arith, one_page, e))) in
      ap (λ x. get_or (frame_of (with_byte s f (address % 256) value) x) (k % 256) 0) q
      ∙ ap (λ x. get_or x (k % 256) 0) written-same
      ∙ get_or-set_other (frame_of s f) (address % 256) (k % 256) value 0 apart
      ∙ ap (λ x. get_or (frame_of s x) (k % 256) 0) (sym q))
      (λ (q : frame_of_page s t' (k / 256) ≢ f). ap (λ x. get_or x (k % 256) 0) (written-other (frame_of_page s t' (k / 256)) q))
      (cases_eq (frame_of_page s t' (k / 256)) f)

-- ---- the memories after a copy and after a write

-- the memories of tables with the same reservation and equal memories
pub same_memory : (s s' : Frames) (t : ℕ) → (table_at s' t).reservation ≡ (table_at s t).reservation → memory_of s' t ≡ memory_of s t → memory_at s' t ≡ memory_at s t
same_memory s s' t e m = ap (λ o. option_map (λ _. memory_of s' t) o) e ∙ ap (λ c. option_map (λ _. c) (table_at s t).reservation) m

-- equal bytes and an equal table make an equal memory
pub memory_of-same : (s s' : Frames) (t : ℕ) → ((a : ℕ) → table_byte s' t a ≡ table_byte s t a) → table_at s' t ≡ table_at s t → memory_of s' t ≡ memory_of s t
memory_of-same s s' t bytes e =
    ap (λ xs. record { bytes = xs; written = map is_some (table_at s' t).places; limit = unwrap_or (table_at s' t).reservation 0 }) (same_tabulated 65536 (table_byte s' t) (table_byte s t) 0 (λ k _. bytes k))
    ∙ ap (λ (x : Table). record { bytes = tabulated 65536 (table_byte s t); written = map is_some x.places; limit = unwrap_or x.reservation 0 }) e

-- after a copy the page is written
pub memory_of-copied : (s : Frames) (t page f : ℕ) → f < s.private → owners_of s f ≡ 0 → length s.frames ≡ s.private + 4 → t < length s.tables → page < length (table_at s t).places
    → memory_of (with_private s t page f) t ≡ record (memory_of s t) { written = set (memory_of s t).written page true }
memory_of-copied s t page f private free fits lt lp =
    ap (λ xs. record { bytes = xs; written = map is_some (table_at (with_private s t page f) t).places; limit = unwrap_or (table_at (with_private s t page f) t).reservation 0 })
    (same_tabulated 65536 (table_byte (with_private s t page f) t) (table_byte s t) 0 (λ k _. byte-copied s t page f private free fits lt lp t k))
    ∙ ap (λ (x : Table). record { bytes = tabulated 65536 (table_byte s t); written = map is_some x.places; limit = unwrap_or x.reservation 0 }) (table_at-same s t (table_with_frame (table_at s t) page (Some f)) lt)
    ∙ ap (λ w. record { bytes = tabulated 65536 (table_byte s t); written = w; limit = unwrap_or (table_at s t).reservation 0 }) (map-set is_some (table_at s t).places page (Some f))

pub ChangesTable-copied : (s : Frames) (t page f : ℕ) → f < s.private → owners_of s f ≡ 0 → length s.frames ≡ s.private + 4 → t < length s.tables → page < length (table_at s t).places → ChangesTable s (with_private s t page f) t
ChangesTable-copied s t page f private free fits lt lp = record {
  others = λ t' ne. same_memory s (with_private s t page f) t' (ap (λ (x : Table). x.reservation) (table_at-other s t t' (table_with_frame (table_at s t) page (Some f)) ne))
      (memory_of-same s (with_private s t page f) t' (byte-copied s t page f private free fits lt lp t') (table_at-other s t t' (table_with_frame (table_at s t) page (Some f)) ne));
  private = refl;
  reservation = ap (λ (x : Table). x.reservation) (table_at-same s t (table_with_frame (table_at s t) page (Some f)) lt);
}

-- a page with a private frame is written
pub is_written-at : (s : Frames) (t page f : ℕ) → private_at s t page ≡ Some f → set (memory_of s t).written page true ≡ (memory_of s t).written
is_written-at s t page f at =
    sym (map-set is_some (table_at s t).places page (Some f))
    ∙ ap (λ o. map is_some (set (table_at s t).places page o)) (sym at)
    ∙ ap (map is_some) (set-get_or (table_at s t).places page None)

-- after a write the byte is stored
pub memory_of-written : (s : Frames) (t address f value : ℕ) → address < 65536 → f < s.private → private_at s t (address / 256) ≡ Some f → ((t' page' : ℕ) → frame_of_page s t' page' ≡ f → (t' ≡ t) × (page' ≡ address / 256)) → length s.frames ≡ s.private + 4 → length (frame_of s f) ≡ 256
    → memory_of (with_byte s f (address % 256) value) t ≡ after_set (memory_of s t) address value
unfolding after_set
memory_of-written s t address f value la private at single fits size =
    ap (λ xs. record { bytes = xs; written = (memory_of s t).written; limit = (memory_of s t).limit })
    (tabulated-set 65536 (table_byte s t) (table_byte (with_byte s f (address % 256) value) t) address value 0 la
    (byte-written s t address f value private at single fits size)
    (λ k _ ne. byte-kept s t address f value private at single fits size t k (λ _ e. ne e)))
    ∙ ap (λ w. record { bytes = set (memory_of s t).bytes address value; written = w; limit = (memory_of s t).limit }) (sym (is_written-at s t (address / 256) f at))

pub ChangesTable-written : (s : Frames) (t address f value : ℕ) → f < s.private → private_at s t (address / 256) ≡ Some f → ((t' page' : ℕ) → frame_of_page s t' page' ≡ f → (t' ≡ t) × (page' ≡ address / 256)) → length s.frames ≡ s.private + 4 → length (frame_of s f) ≡ 256 → ChangesTable s (with_byte s f (address % 256) value) t
ChangesTable-written s t address f value private at single fits size = record {
  others = λ t' ne. same_memory s (with_byte s f (address % 256) value) t' refl
      (memory_of-same s (with_byte s f (address % 256) value) t' (λ k. byte-kept s t address f value private at single fits size t' k (λ e _. ne e)) refl);
  private = refl;
  reservation = refl;
}

-- one change after another
pub ChangesTable-both : (a b c : Frames) (t : ℕ) → ChangesTable a b t → ChangesTable b c t → ChangesTable a c t
ChangesTable-both a b c t h k = record { others = λ t' ne. k.others t' ne ∙ h.others t' ne; private = k.private ∙ h.private; reservation = k.reservation ∙ h.reservation }

-- what a write is, in one record
pub record IsByteWritten (s s' : Frames) (t address value : ℕ) : Type 0 where
  pub memory : memory_of s' t ≡ after_set (memory_of s t) address value
  pub others : ChangesTable s s' t

pub IsByteWritten-from : (s s' : Frames) (t address f value : ℕ) → IsStoreSound s → IsAlone s t (address / 256) → address < 65536 → private_at s t (address / 256) ≡ Some f → s' ≡ with_byte s f (address % 256) value → IsByteWritten s s' t address value
IsByteWritten-from s s' t address f value ok alone la at e =
    let private : f < s.private = ok.numbers t (address / 256) f at in
    let here : f ≡ frame_of_page s t (address / 256) = sym (ap (λ o. unwrap_or o (s.private + boot_of (address / 256))) at) in
    let single : (t' page' : ℕ) → frame_of_page s t' page' ≡ f → (t' ≡ t) × (page' ≡ address / 256) = (λ t' page' q. alone.alone t' page' (q ∙ here)) in
    subst (λ x. IsByteWritten s x t address value) (sym e) (record {
      memory = memory_of-written s t address f value la private at single ok.frames (ok.sizes f (omega (arith, private)));
      others = ChangesTable-written s t address f value private at single ok.frames (ok.sizes f (omega (arith, private)));
    })

-- a page that is marked twice
pub after_set-marked : (c d : Contents) (address value : ℕ) → d ≡ record c { written = set c.written (address / 256) true } → after_set d address value ≡ after_set c address value
unfolding after_set
after_set-marked c d address value e =
    ap (λ x. after_set x address value) e ∙ ap (λ w. record { bytes = set c.bytes address value; written = w; limit = c.limit }) (set-set c.written (address / 256) true true)

-- a byte of a table's memory
pub byte_at-table : (s : Frames) (t address : ℕ) → address < 65536 → byte_at (memory_of s t) address ≡ table_byte s t address
byte_at-table s t address l = get_or-tabulated 65536 (table_byte s t) address 0 l

-- the same, by page and offset
pub byte_of-page : (s : Frames) (t page offset : ℕ) → page < 256 → offset < 256 → byte_at (memory_of s t) (256 * page + offset) ≡ get_or (frame_of s (frame_of_page s t page)) offset 0
byte_of-page s t page offset lp lo =
    byte_at-table s t (256 * page + offset) (omega (arith, lp, lo))
    ∙ ap (λ p. get_or (frame_of s (frame_of_page s t p)) ((256 * page + offset) % 256) 0) (number page offset lo)
    ∙ ap (λ k. get_or (frame_of s (frame_of_page s t page)) k 0) (within page offset lo)
  where
    number : (page offset : ℕ) → offset < 256 → (256 * page + offset) / 256 ≡ page
    number page offset l = omega (arith, l)

    within : (page offset : ℕ) → offset < 256 → (256 * page + offset) % 256 ≡ offset
    within page offset l = omega (arith, l)
