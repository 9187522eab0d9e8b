-- A host with its store is what it is to be.
use Rattle.std.proofs.Common.{◌≡◌, ℕ, ◌<◌, ◌≤◌, true, cond, List, Option, None, Some, is_some, refl, arith, sym, ap, ◌∙◌, subst}
use Rattle.std.proofs.lemmas.List.Sums.{get_or-le-sum_by}
use Rattle.std.specs.Prelude.{IfSome}
use Rattle.cpm_geom.specs.Disk.{Disk}
use Rattle.cpm_memory.specs.Contents.{is_written, byte_at}
use Rattle.cpm_memory.specs.Frames.{Frames, IsStoreSound, IsTableTaken, memories, memory_at, memory_of, frame_of_page, private_at, table_at, owners_of, used_by}
use Rattle.cpm_memory.specs.Tabulated.{length-tabulated}
use Rattle.cpm_memory.proofs.Bytes.{byte_at-table, place_of-cases, IsAlone-from}
use Rattle.cpm_memory.proofs.Copies.{boot-lt, written-place, place-written, place-boot}
use Rattle.cpm_memory.proofs.Places.{boot-bytes, page_within, table_within}
use Rattle.cpm_memory.specs.Memories.{is_some-memory}
use Rattle.cpm_machine.specs.MachineState.{MachineState}
use Rattle.cpm_slots.specs.declared.slots.Slot.{Slot}
use Rattle.cpm_slots.specs.Host.{slot_at}
use Rattle.cpm_slots.specs.HostWithStore.{HostWithStore, table_of, IsInTable, IsInSomeTable, IsHostWithStore}
use Rattle.cpm_slots.specs.Slots.{contents_at, host_with_store, HaveTables}
use Rattle.cpm_slots.proofs.FreeFrames.{free-frames}
use Rattle.cpm_slots.proofs.SlotTables.{Sits, sits, no-table, tables-apart}
use Rattle.cpm_slots.proofs.TableLaws.{taken-within}
use Rattle.cpm_slots.proofs.ViewLaws.{contents-of}

weaker : (o : Option MachineState) (P Q : MachineState → Type 0) → ((s : MachineState) → P s → Q s) → IfSome o P → IfSome o Q
weaker None P Q f h = tt
weaker (Some s) P Q f h = f s h

pub in_table-in : (h : HostWithStore) (id : ℕ) (s : MachineState) (table : ℕ) → IsStoreSound h.store → table_of id h.tables ≡ Some table → IsTableTaken h.store table → contents_at (memories h.store) table ≡ s.memory → IsInTable h id s table
in_table-in h id s table ok named taken is =
    let below : table < 64 = subst (λ n. table < n) (length-tabulated 64 (memory_at h.store)) (taken-within (memories h.store) table taken) in
    let memory : memory_of h.store table ≡ s.memory = sym (contents-of h.store table taken) ∙ is in
    record {
      named = named;
      taken = taken;
      memory = memory;
      bytes = λ address l. ap (λ m. byte_at m address) (sym memory) ∙ byte_at-table h.store table address l;
      private = λ page l w. place-written h.store table page ok (sym (written-place h.store table page ok below l) ∙ ap (λ m. is_written m page) memory ∙ w);
      boot = λ page l w. place-boot h.store table page (sym (written-place h.store table page ok below l) ∙ ap (λ m. is_written m page) memory ∙ w);
    }

pub in_table : (h : HostWithStore) (id : ℕ) → IsStoreSound h.store → IfSome (slot_at id h.host.slots) (Sits (memories h.store) (table_of id h.tables)) → IfSome (slot_at id h.host.slots) (IsInSomeTable h id)
in_table h id ok k = weaker (slot_at id h.host.slots) _ _ (λ s there. (there.0, in_table-in h id s there.0 ok there.1 there.2 there.3)) k

-- the slot of a number is in the number's table
pub in_table-there : (h : HostWithStore) (id table : ℕ) → IsStoreSound h.store → table_of id h.tables ≡ Some table → IfSome (slot_at id h.host.slots) (Sits (memories h.store) (table_of id h.tables)) → IfSome (slot_at id h.host.slots) (λ s. IsInTable h id s table)
in_table-there h id table ok named k =
    weaker (slot_at id h.host.slots) _ _
    (λ s there.
    let other : table_of id h.tables ≡ Some there.0 = there.1 in
    let same : there.0 ≡ table = cc in
    subst (IsInTable h id s) same (in_table-in h id s there.0 ok there.1 there.2 there.3))
    k

single-frame : (s : Frames) (frame t page t' page' : ℕ) → frame < s.private → owners_of s frame ≡ 1 → frame_of_page s t page ≡ frame → frame_of_page s t' page' ≡ frame → (t ≡ t') × (page ≡ page')
single-frame s frame t page t' page' private one e f =
    let alone = IsAlone-from s t' page' frame private (omega (arith, one)) (place_of-cases s t' page' frame private f) in
    alone.alone t page (e ∙ sym f)

-- a table of which a page has a private frame is taken
named-taken : (s : Frames) (frame t page : ℕ) → IsStoreSound s → frame < s.private → frame_of_page s t page ≡ frame → IsTableTaken s t
named-taken s frame t page ok private e = is_some-memory s t within ∙ held (table_at s t).reservation refl
  where
    at : private_at s t page ≡ Some frame
    at = place_of-cases s t page frame private e

    within : t < 64
    within = omega (arith, table_within s t page frame at, ok.tables)

    used : 1 ≤ used_by (table_at s t)
    used = omega (arith, get_or-le-sum_by (λ x. cond {A = ℕ} (is_some x) 1 0) (table_at s t).places page None (page_within s t page frame at), ap (λ o. cond {A = ℕ} (is_some o) 1 0) at)

    held : (o : Option ℕ) → (table_at s t).reservation ≡ o → is_some o ≡ true
    held None q = absurd (omega (arith, used, ok.blank t q))
    held (Some n) q = refl

module _ (system : Disk) (frames openings : ℕ) (store : Frames) (slots : List Slot) (ok : IsStoreSound store) (k : HaveTables (memories store) slots) (bound : store.private ≡ frames) where
  abbrev now : HostWithStore
  now = host_with_store system frames openings store slots

  pub is-with_store : IsHostWithStore now
  is-with_store = record {
    frames = bound;
    open_slots = λ id. in_table now id ok (sits (memories store) slots id k.all);
    others = λ id none. no-table (memories store) slots id none;
    apart = λ id other table e f. tables-apart (memories store) slots id other table k.all e f;
    boot_frames = λ page l. boot-bytes store page ok l (boot-lt page);
    taken = λ frame t page l e. named-taken store frame t page ok l e;
    single = λ frame t page t' page' l one e f. single-frame store frame t page t' page' l one e f;
    free = free-frames store slots ok k.all;
  }
