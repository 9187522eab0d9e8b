-- The tables of the slots, by the numbers of their slots.
use Rattle.std.proofs.Common.{◌≡◌, ◌≢◌, ℕ, zero, suc, ◌+◌, Bool, true, false, ◌==◌, if◌then◌else◌, List, [], ◌∷◌, get_or, Option, None, Some, is_some, refl, sym, ap, ◌∙◌}
use Rattle.std.specs.Prelude.{slice_get, IfSome}
use Rattle.std.proofs.lemmas.Bool.{eq-eqb, eqb-true}
use Rattle.cpm_memory.specs.Contents.{Contents}
use Rattle.cpm_machine.specs.MachineState.{MachineState}
use Rattle.cpm_machine.specs.Runner.{state_of}
use Rattle.cpm_slots.specs.declared.slots.Slot.{Slot}
use Rattle.cpm_slots.specs.Host.{SlotState, slot_at, IsOrdered}
use Rattle.cpm_slots.specs.Index.{IsAtIndex}
use Rattle.cpm_slots.specs.HostWithStore.{table_of}
use Rattle.cpm_slots.specs.Slots.{contents_at, slot_of, slots_of, tables_of, NoneAt, AllSound}
use Rattle.cpm_slots.proofs.CloseSlots.{slot-at}
use Rattle.cpm_slots.proofs.OpenIndexes.{slots-at}
use Rattle.cpm_slots.proofs.IndexLaws.{first-other}

-- ---- the table of a slot

-- what a slot has for the slot of a number
abbrev pub Sits : List (Option Contents) → Option ℕ → MachineState → Type 0
Sits m table s = (t : ℕ) × (table ≡ Some t) × (is_some (get_or m t None) ≡ true) × (contents_at m t ≡ s.memory)

pub sits : (m : List (Option Contents)) (slots : List Slot) (id : ℕ) → AllSound m slots → IfSome (slot_at id (slots_of m slots)) (Sits m (table_of id (tables_of slots)))
sits m [] id k = tt
sits m (x ∷ xs) id k =
    elim (x.id == id) as (λ b. IfSome (if b then Some (state_of x.runner (contents_at m x.table)) else slot_at id (slots_of m xs)) (Sits m (if b then Some x.table else table_of id (tables_of xs))))
    [ true ↦ (x.table, refl, k.0, refl) | false ↦ sits m xs id k.3 ]

-- a slot that is not open has none
pub no-table : (m : List (Option Contents)) (slots : List Slot) (id : ℕ) → slot_at id (slots_of m slots) ≡ None → table_of id (tables_of slots) ≡ None
no-table m [] id h = refl
no-table m (x ∷ xs) id h = by_test (x.id == id) h (no-table m xs id)
  where
    by_test : (b : Bool) → (if b then Some (state_of x.runner (contents_at m x.table)) else slot_at id (slots_of m xs)) ≡ None → (slot_at id (slots_of m xs) ≡ None → table_of id (tables_of xs) ≡ None) → (if b then Some x.table else table_of id (tables_of xs)) ≡ None
    by_test true g rest = cc
    by_test false g rest = rest g

-- ---- different slots have different tables

not-there : (table id : ℕ) (slots : List Slot) → NoneAt table slots → table_of id (tables_of slots) ≢ Some table
not-there table id [] k e = cc
not-there table id (x ∷ xs) k e = by_test (x.id == id) (not-there table id xs k.1) e
  where
    by_test : (b : Bool) → table_of id (tables_of xs) ≢ Some table → (if b then Some x.table else table_of id (tables_of xs)) ≢ Some table
    by_test true rest g = let same : x.table ≡ table = cc in k.0 same
    by_test false rest g = rest g

pub tables-apart : (m : List (Option Contents)) (slots : List Slot) (i j table : ℕ) → AllSound m slots → table_of i (tables_of slots) ≡ Some table → table_of j (tables_of slots) ≡ Some table → i ≡ j
tables-apart m [] i j table k f g = cc
tables-apart m (x ∷ xs) i j table k f g = by_tests (x.id == i) (x.id == j) refl refl f g (tables-apart m xs i j table k.3)
  where
    by_tests : (a b : Bool) → (x.id == i) ≡ a → (x.id == j) ≡ b → (if a then Some x.table else table_of i (tables_of xs)) ≡ Some table → (if b then Some x.table else table_of j (tables_of xs)) ≡ Some table → (table_of i (tables_of xs) ≡ Some table → table_of j (tables_of xs) ≡ Some table → i ≡ j) → i ≡ j
    by_tests true true p q f g rest = sym (eqb-true x.id i p) ∙ eqb-true x.id j q
    by_tests true false p q f g rest = let same : x.table ≡ table = cc in absurd (not-there x.table j xs k.2 (g ∙ ap Some (sym same)))
    by_tests false true p q f g rest = let same : x.table ≡ table = cc in absurd (not-there x.table i xs k.2 (f ∙ ap Some (sym same)))
    by_tests false false p q f g rest = rest f g

-- ---- the slot at a place

slot-there : (m : List (Option Contents)) (slots : List Slot) (i : ℕ) (e : SlotState) → slice_get (slots_of m slots) i ≡ Some e → (s : Slot) × (slice_get slots i ≡ Some s) × (s.id ≡ e.id)
slot-there m [] i e h = cc
slot-there m (x ∷ xs) zero e h = let same : slot_of m x ≡ e = cc in (x, refl, ap (λ (t : SlotState). t.id) same)
slot-there m (x ∷ xs) (suc i) e h = slot-there m xs i e h

table-at : (n : ℕ) (m : List (Option Contents)) (slots : List Slot) (i : ℕ) (s : Slot) → IsOrdered n (slots_of m slots) → slice_get slots i ≡ Some s → table_of s.id (tables_of slots) ≡ Some s.table
table-at n m [] i s k h = cc
table-at n m (x ∷ xs) zero s k h =
    let same : x ≡ s = cc in
    rw (eq-eqb x.id s.id (ap (λ (t : Slot). t.id) same)) (ap (λ (t : Slot). Some t.table) same)
table-at n m (x ∷ xs) (suc i) s k h =
    rw (first-other n (slot_of m x) (slot_of m s) (slots_of m xs) i s.id k (slots-at m xs i s h) refl) (table-at (x.id + 1) m xs i s k.1 h)

-- the table of the slot at a place is that of its slot's number
pub index-table : (id index table : ℕ) (m : List (Option Contents)) (slots : List Slot) → IsOrdered 0 (slots_of m slots) → IsAtIndex id (slots_of m slots) index → IfSome (slice_get slots index) (λ s. table ≡ s.table) → table_of id (tables_of slots) ≡ Some table
index-table id index table m slots k l h =
    let there = slot-there m slots index l.found l.at in
    let s = there.0 in
    let is : table ≡ s.table = rw there.1 at h in
    ap (λ n. table_of n (tables_of slots)) (sym (there.2 ∙ l.id_is)) ∙ table-at 0 m slots index s k there.1 ∙ ap Some (sym is)

-- which is taken
pub index-taken : (id index table : ℕ) (m : List (Option Contents)) (slots : List Slot) → AllSound m slots → IsAtIndex id (slots_of m slots) index → IfSome (slice_get slots index) (λ s. table ≡ s.table) → is_some (get_or m table None) ≡ true
index-taken id index table m slots k l h =
    let there = slot-there m slots index l.found l.at in
    let s = there.0 in
    let is : table ≡ s.table = rw there.1 at h in
    ap (λ t. is_some (get_or m t None)) is ∙ (slot-at m slots index s k there.1).taken
