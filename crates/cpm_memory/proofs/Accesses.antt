-- What a view knows of its store, and what is left of that after a store of a byte.
use Rattle.std.proofs.Common.{◌≡◌, ◌≢◌, ℕ, ◌+◌, ◌<◌, ◌≤◌, ◌/◌, ◌%◌, Bool, true, false, List, length, get_or, set, refl, arith, ap, sym, ◌∙◌, is_some, unwrap_or, ⊎_elim, subst, []}
use Rattle.std.proofs.lemmas.List.{get_or-set_same, get_or-set_other}
use Rattle.std.proofs.lemmas.Bool.{cases_eq}
use Rattle.cpm_memory.specs.Contents.{touched_of, byte_at}
use Rattle.cpm_memory.specs.Frames.{Frames, IsStoreSound, IsAlone, HasReservation, ChangesTable, KeepsStamps, MovesAtMost, stamps_at, table_at, frame_of, frame_of_page, memory_of, reserved_by}
use Rattle.cpm_memory.specs.Kept.{with_byte, with_stamp}
use Rattle.cpm_memory.specs.Stamps.{after_stamp}
use Rattle.cpm_memory.specs.Memories.{IsContents-memory_of}
use Rattle.cpm_memory.proofs.Bytes.{IsByteWritten, IsByteWritten-from, place_of-cases, byte_at-table}
use Rattle.cpm_memory.proofs.Copies.{place_of-lt}

-- a table of which the reservation stayed is taken as it was, and has its limit
pub taken-kept : (s s' : Frames) (t : ℕ) → ChangesTable s s' t → HasReservation s t → HasReservation s' t
taken-kept s s' t h taken = ap is_some h.reservation ∙ taken

pub limit-kept : (s s' : Frames) (t limit : ℕ) → ChangesTable s s' t → limit ≡ reserved_by (table_at s t) → limit ≡ reserved_by (table_at s' t)
limit-kept s s' t limit h e = e ∙ sym (ap (λ o. unwrap_or o 0) h.reservation)

-- a byte is read where its page is
pub byte-placed : (s : Frames) (t address frame : ℕ) (bytes : List ℕ) → address < 65536 → frame ≡ frame_of_page s t (address / 256) → bytes ≡ frame_of s frame → get_or bytes (address % 256) 0 ≡ byte_at (memory_of s t) address
byte-placed s t address frame bytes l e b =
    ap (λ xs. get_or xs (address % 256) 0) b
    ∙ ap (λ f. get_or (frame_of s f) (address % 256) 0) e
    ∙ sym (byte_at-table s t address l)

-- the frame of a page is one of the store's
pub frame-within : (s : Frames) (t page frame : ℕ) → IsStoreSound s → frame ≡ frame_of_page s t page → frame < s.private + 4
frame-within s t page frame ok e = omega (arith, e, place_of-lt s ok t page)

-- what a byte that is stored in a private frame leaves
pub record IsByteStored (s s' : Frames) (t address value : ℕ) : Type 0 where
  pub written : IsByteWritten s s' t address value
  pub places : (t' page : ℕ) → frame_of_page s' t' page ≡ frame_of_page s t' page
  pub alone : (page : ℕ) → IsAlone s t page → IsAlone s' t page
  pub touched : touched_of (memory_of s' t) ≡ touched_of (memory_of s t)

stays : (s : Frames) (t f offset value : ℕ) → touched_of (memory_of (with_byte s f offset value) t) ≡ touched_of (memory_of s t)
unfolding touched_of
stays s t f offset value = refl

pub IsByteStored-from : (s s' : Frames) (t address frame value : ℕ) → IsStoreSound s → address < 65536 → frame ≡ frame_of_page s t (address / 256) → IsAlone s t (address / 256) → s' ≡ with_byte s frame (address % 256) value → IsByteStored s s' t address value
IsByteStored-from s s' t address frame value ok la e alone q = record {
  written = IsByteWritten-from s s' t address frame value ok alone la (place_of-cases s t (address / 256) frame (omega (arith, e, alone.private)) (sym e)) q;
  places = λ t' page. ap (λ x. frame_of_page x t' page) q;
  alone = λ page h. subst (λ x. IsAlone x t page) (sym q) (record { private = h.private; alone = h.alone });
  touched = ap (λ x. touched_of (memory_of x t)) q ∙ stays s t frame (address % 256) value;
}

-- the places after a page moved
pub placed-after : (s s' : Frames) (t page place : ℕ) (places : List ℕ) → length places ≡ 256 → page < 256 → ((k : ℕ) → k < 256 → get_or places k 0 ≡ frame_of_page s t k) → MovesAtMost s s' t page → place ≡ frame_of_page s' t page
    → (k : ℕ) → k < 256 → get_or (set places page place) k 0 ≡ frame_of_page s' t k
placed-after s s' t page place places size lp placed moves here k l =
    ⊎_elim
    (λ (q : k ≡ page). ap (λ x. get_or (set places page place) x 0) q ∙ get_or-set_same places page place 0 (omega (arith, size, lp)) ∙ here ∙ ap (frame_of_page s' t) (sym q))
    (λ (q : k ≢ page). get_or-set_other places page k place 0 q ∙ placed k l ∙ sym (moves t k (λ _ e. q e)))
    (cases_eq k page)

-- a page that is alone stays so, where no page but another of its table moves, and that one to a frame of its own
pub alone-moved : (s s' : Frames) (t page k : ℕ) → MovesAtMost s s' t page → s'.private ≡ s.private → IsAlone s' t page → IsAlone s t k → IsAlone s' t k
alone-moved s s' t page k moves same here alone =
    ⊎_elim
    (λ (q : k ≡ page). subst (IsAlone s' t) (sym q) here)
    (λ (q : k ≢ page).
    let stays : frame_of_page s' t k ≡ frame_of_page s t k = moves t k (λ _ e. q e) in
    record {
      private = omega (arith, stays, same, alone.private);
      alone = λ t' k' e. other q stays t' k' e;
    })
    (cases_eq k page)
  where
    other : k ≢ page → frame_of_page s' t k ≡ frame_of_page s t k → (t' k' : ℕ) → frame_of_page s' t' k' ≡ frame_of_page s' t k → (t' ≡ t) × (k' ≡ k)
    other q stays t' k' e =
        ⊎_elim
        (λ (u : t' ≡ t). ⊎_elim
        (λ (r : k' ≡ page). absurd (q (here.alone t k (sym e ∙ ap (λ x. frame_of_page s' x k') u ∙ ap (frame_of_page s' t) r)).1))
        (λ (r : k' ≢ page). alone.alone t' k' (sym (moves t' k' (λ _ z. r z)) ∙ e ∙ stays))
        (cases_eq k' page))
        (λ (u : t' ≢ t). alone.alone t' k' (sym (moves t' k' (λ z _. u z)) ∙ e ∙ stays))
        (cases_eq t' t)

-- the pages that are alone after a page got a frame of its own
pub alone-marked : (s s' : Frames) (t page : ℕ) (owned : List Bool) → length owned ≡ 256 → page < 256 → MovesAtMost s s' t page → s'.private ≡ s.private → IsAlone s' t page → ((k : ℕ) → k < 256 → get_or owned k false ≡ true → IsAlone s t k)
    → (k : ℕ) → k < 256 → get_or (set owned page true) k false ≡ true → IsAlone s' t k
alone-marked s s' t page owned size lp moves same here before k l marked =
    ⊎_elim
    (λ (q : k ≡ page). subst (IsAlone s' t) (sym q) here)
    (λ (q : k ≢ page). alone-moved s s' t page k moves same here (before k l (sym (get_or-set_other owned page k true false q) ∙ marked)))
    (cases_eq k page)

-- no more pages are written than may be, and than there are
pub touched-within : (s : Frames) (t touched limit : ℕ) → IsStoreSound s → t < 64 → touched ≡ touched_of (memory_of s t) → limit ≡ reserved_by (table_at s t) → (touched ≤ limit) × (limit ≤ 256)
touched-within s t touched limit ok lt counted limited =
    (omega (arith, counted, limited, (IsContents-memory_of s t ok lt).within), omega (arith, limited, (IsContents-memory_of s t ok lt).limit))

-- what a raised stamp leaves: of the stamps, that one table's page has the next, and of all else what was there
pub record IsRaised (s s' : Frames) (t page : ℕ) : Type 0 where
  pub stamps : stamps_at s' t ≡ after_stamp (stamps_at s t) page
  pub others : KeepsStamps s s' t

pub IsRaised-from : (s s' s'' : Frames) (t page : ℕ) → IsStoreSound s → t < 64 → s'.stamps ≡ s.stamps → s'' ≡ with_stamp s' t page → IsRaised s s'' t page
IsRaised-from s s' s'' t page ok lt e q = record {
  stamps =
      ap (λ (x : Frames). get_or x.stamps t []) q
      ∙ get_or-set_same s'.stamps t (after_stamp (stamps_at s' t) page) [] (omega (arith, ap length e, ok.stamped.tables, lt))
      ∙ ap (λ xs. after_stamp (get_or xs t []) page) e;
  others = λ t' ne.
      ap (λ (x : Frames). get_or x.stamps t' []) q
      ∙ get_or-set_other s'.stamps t t' (after_stamp (stamps_at s' t) page) [] ne
      ∙ ap (λ xs. get_or xs t' []) e;
}

pub ChangesTable-raised : (s s' s'' : Frames) (t t' page : ℕ) → ChangesTable s s' t → s'' ≡ with_stamp s' t' page → ChangesTable s s'' t
ChangesTable-raised s s' s'' t t' page h q =
    subst (λ x. ChangesTable s x t) (sym q) (record { others = h.others; private = h.private; reservation = h.reservation })

pub IsAlone-raised : (s s' : Frames) (t page t' page' : ℕ) → IsAlone s t page → s' ≡ with_stamp s t' page' → IsAlone s' t page
IsAlone-raised s s' t page t' page' h q = subst (λ x. IsAlone x t page) (sym q) (record { private = h.private; alone = h.alone })

touched-raised : (s s' : Frames) (t t' page : ℕ) → touched_of (memory_of s' t) ≡ touched_of (memory_of s t) → touched_of (memory_of (with_stamp s' t' page) t) ≡ touched_of (memory_of s t)
unfolding touched_of
touched-raised s s' t t' page e = e

pub IsByteStored-raised : (s s' s'' : Frames) (t address value t' page : ℕ) → IsByteStored s s' t address value → s'' ≡ with_stamp s' t' page → IsByteStored s s'' t address value
IsByteStored-raised s s' s'' t address value t' page h q =
    subst (λ x. IsByteStored s x t address value) (sym q) (record {
      written = record { memory = h.written.memory; others = ChangesTable-raised s s' (with_stamp s' t' page) t t' page h.written.others refl };
      places = h.places;
      alone = λ p k. let a = h.alone p k in record { private = a.private; alone = a.alone };
      touched = touched-raised s s' t t' page h.touched;
    })
