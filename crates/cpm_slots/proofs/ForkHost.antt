-- What a fork of a slot leaves of a host.
use Rattle.std.proofs.Common.{◌≡◌, ℕ, zero, suc, ◌+◌, ◌<◌, false, List, [], ◌∷◌, ◌++◌, length, get_or, set, Option, Some, None, refl, sym, ap, ◌∙◌, subst, arith}
use Rattle.std.specs.Prelude.{slice_get}
use Rattle.std.proofs.lemmas.Bool.Decides.{nat_tests}
use Rattle.cpm_geom.specs.Disk.{Disk}
use Rattle.cpm_memory.specs.Contents.{Contents}
use Rattle.cpm_memory.specs.Reserved.{reserved_in}
use Rattle.cpm_memory.specs.Frames.{Frames, IsTableTaken, memories, memory_at, memory_of, table_at, reserved_by}
use Rattle.cpm_machine.specs.MachineState.{MachineState}
use Rattle.cpm_machine.specs.Runner.{state_of, IsRunnerSound}
use Rattle.cpm_slots.specs.declared.slots.Slot.{Slot}
use Rattle.cpm_slots.specs.Host.{Host, SlotState, slot_at, lacks_slot, lacks_frames, fork_fault, with_forked, with_added, AllBelow, IsHost}
use Rattle.cpm_slots.specs.HostWithStore.{HostWithStore, table_of}
use Rattle.cpm_slots.specs.Index.{IsAtIndex}
use Rattle.cpm_slots.specs.Slots.{contents_at, slot_of, slots_of, tables_of, host_with_store, HaveTables}
use Rattle.cpm_slots.proofs.CloseSlots.{slot-at}
use Rattle.cpm_slots.proofs.CallLaws.{same-host}
use Rattle.cpm_slots.proofs.OpenHost.{hosted, has-room, IsAdding}
use Rattle.cpm_slots.proofs.OpenIndexes.{slots-at}
use Rattle.cpm_slots.proofs.OpenSlots.{none-at}
use Rattle.cpm_slots.proofs.OrderLaws.{HasPlace, has-fork}
use Rattle.cpm_slots.proofs.ViewLaws.{contents-of}

-- an element within a list that is read by its place
pub at-place : (xs : List Slot) (i : ℕ) (x : Slot) → i < length xs → x ≡ get_or xs i x → slice_get xs i ≡ Some x
at-place [] i x l e = absurd (omega (arith, l))
at-place (y ∷ ys) zero x l e = ap Some (sym e)
at-place (y ∷ ys) (suc i) x l e = at-place ys i x (omega (arith, l)) e

pub length-slots-of : (m : List (Option Contents)) (slots : List Slot) → length (slots_of m slots) ≡ length slots
length-slots-of m [] = refl
length-slots-of m (x ∷ xs) = ap suc (length-slots-of m xs)

some-same : {A : Type 0} (o : Option A) (a b : A) → o ≡ Some a → o ≡ Some b → a ≡ b
some-same o a b e f = cc

-- the parts of a host, and the slot of a number at its place
pub record IsSource (system : Disk) (frames openings : ℕ) (now : Host) (store : Frames) (slots : List Slot) (id index : ℕ) (p : Slot) : Type 0 where
  pub view : hosted system frames openings (slots_of (memories store) slots) ≡ now
  pub have_tables : HaveTables (memories store) slots
  pub found : IsAtIndex id (slots_of (memories store) slots) index
  pub at : slice_get slots index ≡ Some p

module _ (system : Disk) (frames openings : ℕ) (now : Host) (store : Frames) (slots : List Slot) (id index : ℕ) (p : Slot) (k : IsSource system frames openings now store slots id index p) where
  abbrev pub source_state : MachineState
  source_state = state_of p.runner (contents_at (memories store) p.table)

  pub source-there : slot_at id now.slots ≡ Some source_state
  source-there =
      let there : slice_get (slots_of (memories store) slots) index ≡ Some (slot_of (memories store) p) = slots-at (memories store) slots index p k.at in
      let same = some-same (slice_get (slots_of (memories store) slots) index) k.found.found (slot_of (memories store) p) k.found.at there in
      ap (λ (h : Host). slot_at id h.slots) (sym k.view) ∙ k.found.slot ∙ ap (λ (x : SlotState). Some x.state) same

  pub source-taken : IsTableTaken store p.table
  source-taken = (slot-at (memories store) slots index p k.have_tables.all k.at).taken

  pub source-sound : IsRunnerSound source_state
  source-sound = (slot-at (memories store) slots index p k.have_tables.all k.at).sound

  pub source-memory : memory_of store p.table ≡ contents_at (memories store) p.table
  source-memory = sym (contents-of store p.table source-taken)

  -- it has reserved its quota
  source-limit : reserved_by (table_at store p.table) ≡ p.runner.quota
  source-limit = ap (λ (c : Contents). c.limit) source-memory ∙ source-sound.limit

  pub source-fits : lacks_slot now ≡ false → lacks_frames now p.runner.quota ≡ false → fork_fault now (slot_at id now.slots) ≡ None
  source-fits slot frame = ap (fork_fault now) source-there ∙ rw slot (rw frame refl)

  pub source-place : lacks_slot now ≡ false → lacks_frames now p.runner.quota ≡ false → HasPlace now p.runner.quota
  source-place slot frame = has-fork now source_state (sym (ap (fork_fault now) source-there) ∙ source-fits slot frame)

  -- so the store has as many frames
  pub source-room : lacks_slot now ≡ false → lacks_frames now p.runner.quota ≡ false → frames < reserved_in (memories store) + reserved_by (table_at store p.table) → ⊥
  source-room slot frame less =
      has-room system frames openings now (memories store) slots p.runner.quota k.view k.have_tables (source-place slot frame) (subst (λ n. frames < reserved_in (memories store) + n) source-limit less)

  pub source-forked : with_forked now (slot_at id now.slots) ≡ with_added now source_state
  source-forked = ap (with_forked now) source-there

-- an element that is read twice
pub same-slot : (xs : List Slot) (i : ℕ) (x y : Slot) → i < length xs → x ≡ get_or xs i x → y ≡ get_or xs i y → x ≡ y
same-slot xs i x y l e f = some-same (slice_get xs i) x y (at-place xs i x l e) (at-place xs i y l f)

-- the parts of a host, with what the place of the slot and the tables say
pub source-of : (system : Disk) (frames openings : ℕ) (now : HostWithStore) (store : Frames) (slots : List Slot) (id index : ℕ) (p : Slot) →
    host_with_store system frames openings store slots ≡ now → HaveTables (memories store) slots → ((m : List (Option Contents)) → IsAtIndex id (slots_of m slots) index) → p ≡ get_or slots index p →
    IsSource system frames openings now.host store slots id index p
source-of system frames openings now store slots id index p view have all read =
    let found = all (memories store) in
    let within : index < length slots = subst (λ n. index < n) (length-slots-of (memories store) slots) found.within in
    record { view = same-host view; have_tables = have; found = found; at = at-place slots index p within read }

pub within-slots : (store : Frames) (slots : List Slot) (id index : ℕ) → ((m : List (Option Contents)) → IsAtIndex id (slots_of m slots) index) → index < length slots
within-slots store slots id index all = subst (λ n. index < n) (length-slots-of (memories store) slots) (all (memories store)).within

-- the slot that is pushed shares the table of the source, and its session is as that one's
pub record IsForking (system : Disk) (frames : ℕ) (now : Host) (old new : Frames) (slots items : List Slot) (id index : ℕ) (p s : Slot) : Type 0 where
  pub source : IsSource system frames s.id now old slots id index p
  pub host : IsHost (hosted system frames s.id (slots_of (memories old) slots))
  pub slot : lacks_slot now ≡ false
  pub frame : lacks_frames now p.runner.quota ≡ false
  pub free : memory_at old s.table ≡ None
  pub shared : memories new ≡ set (memories old) s.table (Some (memory_of old p.table))
  pub taken : IsTableTaken new s.table
  pub state : (memory : Contents) → state_of s.runner memory ≡ state_of p.runner memory
  pub pushed : items ≡ slots ++ s ∷ []

pub adding : (system : Disk) (frames : ℕ) (now : Host) (old new : Frames) (slots items : List Slot) (id index : ℕ) (p s : Slot) → IsForking system frames now old new slots items id index p s →
    IsAdding system frames now (memories old) (memories new) slots items s (memory_of old p.table) (state_of p.runner (contents_at (memories old) p.table))
adding system frames now old new slots items id index p s k = record {
  view = k.source.view;
  place = source-place system frames s.id now old slots id index p k.source k.slot k.frame;
  host = k.host;
  have_tables = k.source.have_tables;
  added = record {
    free = none-at old s.table k.free;
    is = k.shared;
    taken = k.taken;
    state = k.state (memory_of old p.table) ∙ ap (state_of p.runner) (source-memory system frames s.id now old slots id index p k.source);
    sound = source-sound system frames s.id now old slots id index p k.source;
  };
  pushed = k.pushed;
}

-- the tables of the others stay
pub tables-more : (slots : List Slot) (s : Slot) → tables_of (slots ++ s ∷ []) ≡ tables_of slots ++ record { id = s.id; table = s.table } ∷ []
tables-more [] s = refl
tables-more (x ∷ xs) s = ap (λ t. record { id = x.id; table = x.table } ∷ t) (tables-more xs s)

-- the table of a slot that is added
pub table-new : (n : ℕ) (m : List (Option Contents)) (slots : List Slot) (s : Slot) → AllBelow n (slots_of m slots) → s.id ≡ n → table_of n (tables_of (slots ++ s ∷ [])) ≡ Some s.table
table-new n m [] s b e = grind (arith, nat_tests)
table-new n m (x ∷ xs) s b e = let first : x.id < n = b.0 in grind (arith, nat_tests, table-new n m xs s b.1 e)
