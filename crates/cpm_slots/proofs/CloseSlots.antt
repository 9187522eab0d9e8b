-- A session less in the store.
use Rattle.std.proofs.Common.{◌≡◌, ◌≢◌, ℕ, zero, suc, ◌+◌, ◌≤◌, true, false, ◌==◌, List, [], ◌∷◌, length, get_or, set, sum_by, cond, Option, None, Some, is_some, unwrap_or, refl, sym, ap, ◌∙◌, subst, arith}
use Rattle.std.specs.Prelude.{slice_get, remove}
use Rattle.std.proofs.lemmas.Bool.Decides.{nat_tests}
use Rattle.std.proofs.lemmas.Bool.{eq-eqb, false≢true}
use Rattle.std.proofs.lemmas.List.Sums.{sum_by-cons, sum_by-set}
use Rattle.cpm_geom.specs.Disk.{Disk}
use Rattle.cpm_memory.specs.Contents.{Contents}
use Rattle.cpm_memory.specs.Opening.{opening}
use Rattle.cpm_memory.specs.Reserved.{limit_at, taken_in, reserved_in}
use Rattle.cpm_machine.specs.Runner.{state_of, IsRunnerSound}
use Rattle.cpm_slots.specs.declared.event.Reply.TheVariants as reply
use Rattle.cpm_slots.specs.declared.slots.Slot.{Slot}
use Rattle.cpm_slots.specs.Host.{SlotState, slot_at, with_slot, IsOrdered}
use Rattle.cpm_slots.specs.Index.{IsAtIndex}
use Rattle.cpm_slots.specs.Serving.{Closes, serve_slot}
use Rattle.cpm_slots.specs.Slots.{contents_at, slot_of, slots_of, NoneAt, AllSound, HaveTables}
use Rattle.cpm_slots.proofs.SlotLaws.{with_slot-below}
use Rattle.cpm_slots.proofs.OpenSlots.{quota_of, kept-set, slots-kept, AllSound-kept, taken-within}

-- what holds of a slot at its place
pub record IsSlotAt (m : List (Option Contents)) (s : Slot) : Type 0 where
  pub taken : is_some (get_or m s.table None) ≡ true
  pub sound : IsRunnerSound (state_of s.runner (contents_at m s.table))

pub slot-at : (m : List (Option Contents)) (slots : List Slot) (i : ℕ) (s : Slot) → AllSound m slots → slice_get slots i ≡ Some s → IsSlotAt m s
slot-at m [] i s k h = cc
slot-at m (x ∷ xs) zero s k h =
    let at : IsSlotAt m x = record { taken = k.0; sound = k.1 } in
    let same : x ≡ s = cc in
    subst (IsSlotAt m) same at
slot-at m (x ∷ xs) (suc i) s k h = slot-at m xs i s k.3 h

NoneAt-removed : (table : ℕ) (slots : List Slot) (i : ℕ) → NoneAt table slots → NoneAt table (remove slots i)
NoneAt-removed table [] zero k = tt
NoneAt-removed table [] (suc i) k = tt
NoneAt-removed table (x ∷ xs) zero k = k.1
NoneAt-removed table (x ∷ xs) (suc i) k = (k.0, NoneAt-removed table xs i k.1)

NoneAt-other : (table : ℕ) (slots : List Slot) (i : ℕ) (s : Slot) → NoneAt table slots → slice_get slots i ≡ Some s → s.table ≢ table
NoneAt-other table [] i s k h = cc
NoneAt-other table (x ∷ xs) zero s k h =
    let e : x ≡ s = cc in
    let P : Slot → Type 0 = λ t. t.table ≢ table in
    subst P e k.0
NoneAt-other table (x ∷ xs) (suc i) s k h = NoneAt-other table xs i s k.1 h

-- no other slot has the table of the one at a place
pub NoneAt-rest : (m : List (Option Contents)) (slots : List Slot) (i : ℕ) (s : Slot) → AllSound m slots → slice_get slots i ≡ Some s → NoneAt s.table (remove slots i)
NoneAt-rest m [] i s k h = cc
NoneAt-rest m (x ∷ xs) zero s k h =
    let e : x ≡ s = cc in
    let P : Slot → Type 0 = λ t. NoneAt t.table xs in
    subst P e k.2
NoneAt-rest m (x ∷ xs) (suc i) s k h =
    ((λ e. NoneAt-other x.table xs i s k.2 h (sym e)), NoneAt-rest m xs i s k.3 h)

AllSound-removed : (m : List (Option Contents)) (slots : List Slot) (i : ℕ) → AllSound m slots → AllSound m (remove slots i)
AllSound-removed m [] zero k = tt
AllSound-removed m [] (suc i) k = tt
AllSound-removed m (x ∷ xs) zero k = k.3
AllSound-removed m (x ∷ xs) (suc i) k = (k.0, k.1, NoneAt-removed x.table xs i k.2, AllSound-removed m xs i k.3)

slots-removed : (m : List (Option Contents)) (slots : List Slot) (i : ℕ) → slots_of m (remove slots i) ≡ remove (slots_of m slots) i
slots-removed m [] zero = refl
slots-removed m [] (suc i) = refl
slots-removed m (x ∷ xs) zero = refl
slots-removed m (x ∷ xs) (suc i) = ap (λ t. slot_of m x ∷ t) (slots-removed m xs i)

length-less : (slots : List Slot) (i : ℕ) (s : Slot) → slice_get slots i ≡ Some s → length (remove slots i) + 1 ≡ length slots
length-less [] i s h = cc
length-less (x ∷ xs) zero s h = omega arith
length-less (x ∷ xs) (suc i) s h = let e = length-less xs i s h in omega arith

quotas-less : (slots : List Slot) (i : ℕ) (s : Slot) → slice_get slots i ≡ Some s → sum_by quota_of (remove slots i) + s.runner.quota ≡ sum_by quota_of slots
quotas-less [] i s h = cc
quotas-less (x ∷ xs) zero s h =
    let e : x ≡ s = cc in
    let quota : x.runner.quota ≡ s.runner.quota = ap quota_of e in
    let whole = sum_by-cons quota_of x xs in
    omega arith
quotas-less (x ∷ xs) (suc i) s h =
    let whole = sum_by-cons quota_of x xs in
    let less = sum_by-cons quota_of x (remove xs i) in
    let rest = quotas-less xs i s h in
    omega arith

taken-less : (m : List (Option Contents)) (t : ℕ) → is_some (get_or m t None) ≡ true → taken_in (set m t None) + 1 ≡ taken_in m
taken-less m t h =
    let before : cond {A = ℕ} (is_some (get_or m t None)) 1 0 ≡ 1 = ap (λ b. cond {A = ℕ} b 1 0) h in
    let e = sum_by-set (λ (o : Option Contents). cond {A = ℕ} (is_some o) 1 0) m t None None (taken-within m t h) in
    omega (arith, e, before)

some-contents : (m : List (Option Contents)) (t : ℕ) → is_some (get_or m t None) ≡ true → get_or m t None ≡ Some (contents_at m t)
some-contents m t h = by_case (get_or m t None) h
  where
    by_case : (o : Option Contents) → is_some o ≡ true → o ≡ Some (unwrap_or o (opening 0))
    by_case None q = absurd (false≢true q)
    by_case (Some c) q = refl

reserved-less : (m : List (Option Contents)) (t quota : ℕ) → is_some (get_or m t None) ≡ true → (contents_at m t).limit ≡ quota → reserved_in (set m t None) + quota ≡ reserved_in m
reserved-less m t quota h limit =
    let before : limit_at (get_or m t None) ≡ (contents_at m t).limit = ap limit_at (some-contents m t h) in
    let e = sum_by-set limit_at m t None None (taken-within m t h) in
    omega (arith, e, before, limit)

-- the session at a place was closed, and its table given up
module _ (old new : List (Option Contents)) (slots : List Slot) (i : ℕ) (s : Slot) (k : HaveTables old slots) (at : slice_get slots i ≡ Some s) (is : new ≡ set old s.table None) where
  abbrev less : List (Option Contents)
  less = set old s.table None

  rest : NoneAt s.table (remove slots i)
  rest = NoneAt-rest old slots i s k.all at

  have_tables-less : HaveTables less (remove slots i)
  have_tables-less =
      let slot = slot-at old slots i s k.all at in
      let taken = taken-less old s.table slot.taken in
      let reserved = reserved-less old s.table s.runner.quota slot.taken slot.sound.limit in
      let count = length-less slots i s at in
      let quotas = quotas-less slots i s at in
      let was_taken = k.taken in
      let was_reserved = k.reserved in
      record {
        all = AllSound-kept s.table old less (remove slots i) (kept-set s.table old None) rest (AllSound-removed old slots i k.all);
        taken = omega arith;
        reserved = omega arith;
      }

  pub HaveTables-closed : HaveTables new (remove slots i)
  HaveTables-closed = subst (λ m. HaveTables m (remove slots i)) (sym is) have_tables-less

  pub slots-closed : slots_of new (remove slots i) ≡ remove (slots_of old slots) i
  slots-closed =
      ap (λ m. slots_of m (remove slots i)) is
      ∙ slots-kept s.table old less (remove slots i) (kept-set s.table old None) rest
      ∙ slots-removed old slots i

-- ---- the slot of a number is the one at its place

numbers-from : (n : ℕ) (slots : List SlotState) (i : ℕ) (e : SlotState) → IsOrdered n slots → slice_get slots i ≡ Some e → n ≤ e.id
numbers-from n [] i e k h = cc
numbers-from n (x ∷ xs) zero e k h =
    let first : n ≤ x.id = k.0 in
    let at : x ≡ e = cc in
    let same : x.id ≡ e.id = ap (λ (t : SlotState). t.id) at in omega arith
numbers-from n (x ∷ xs) (suc i) e k h =
    let first : n ≤ x.id = k.0 in
    let rest : x.id + 1 ≤ e.id = numbers-from (x.id + 1) xs i e k.1 h in omega arith

with_slot-removed : (id n : ℕ) (slots : List SlotState) (i : ℕ) (e : SlotState) → IsOrdered n slots → slice_get slots i ≡ Some e → e.id ≡ id → with_slot id None slots ≡ remove slots i
with_slot-removed id n [] i e k h same = cc
with_slot-removed id n (x ∷ xs) zero e k h same =
    let at : x ≡ e = cc in
    let number : x.id ≡ id = ap (λ (t : SlotState). t.id) at ∙ same in
    rw (eq-eqb x.id id number) (with_slot-below id (x.id + 1) None xs k.1 (omega arith))
with_slot-removed id n (x ∷ xs) (suc i) e k h same =
    let rest : x.id + 1 ≤ e.id = numbers-from (x.id + 1) xs i e k.1 h in
    let other : (x.id == id) ≡ false = grind (arith, nat_tests) in
    rw other (ap (λ t. x ∷ t) (with_slot-removed id (x.id + 1) xs i e k.1 h same))

serve-closes : (system : Disk) (id index : ℕ) (slots : List SlotState) (l : IsAtIndex id slots index) → serve_slot system Closes (slot_at id slots) ≡ record { reply = reply.Done; slot = None }
unfolding serve_slot
serve-closes system id index slots l = rw l.slot refl

pub closed-reply : (system : Disk) (id index : ℕ) (slots : List SlotState) → IsAtIndex id slots index → reply.Done ≡ (serve_slot system Closes (slot_at id slots)).reply
closed-reply system id index slots l = sym (ap (λ r. r.reply) (serve-closes system id index slots l))

pub closed-slots : (system : Disk) (id index : ℕ) (slots : List SlotState) → IsOrdered 0 slots → IsAtIndex id slots index → remove slots index ≡ with_slot id (serve_slot system Closes (slot_at id slots)).slot slots
closed-slots system id index slots o l =
    rw (serve-closes system id index slots l) (sym (with_slot-removed id 0 slots index l.found o l.at l.id_is))
