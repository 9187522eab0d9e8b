-- A journal of a host's savings is written, and done again.
use Rattle.std.proofs.Common.{◌≡◌, ◌∙◌, ◌≤◌, ◌+◌, ◌==◌, ℕ, add-one, zero, suc, true, List, [], ◌∷◌, ◌++◌, length, map, take, Option, Some, None, refl, sym, ap, subst, arith, append_assoc, append-nil, cond}
use Rattle.std.specs.Prelude.{Result, Ok, Err, IfSome, OnOk, option_and_then, option_map, slice_get}
use Rattle.std.specs.Io.KnownBytes.{Appends}
use Rattle.std.specs.List.{AllByRecursion}
use Rattle.std.proofs.KnownBytes.{Appends-trans}
use Rattle.std.proofs.lemmas.Bool.{eq-eqb, le-leb}
use Rattle.serde_json.specs.Data.{depth}
use Rattle.serde_json.specs.Read.{max_depth}
use Rattle.cpm_machine.specs.Saving.{restored}
use Rattle.cpm_slots.specs.Host.{AllBelow, Host, IsHost, IsOrdered, SlotState, quotas_of, restore_fault, saving_of, slot_at, with_slot_restored}
use Rattle.cpm_slots.specs.Remaking.{ArePartsOf, HostPart, NextNumber, SavedSlot, id_at_place}
use Rattle.cpm_slots.proofs.IndexLaws.{first-other}
use Rattle.cpm_slots.proofs.RemakingLaws.{IsNext, half, none-refused}
use Rattle.cpm_journal.specs.Entries.{AreLinesOf, IsKeepable, IsLineOf, KeptNumber, KeptSaving, entries_read}
use Rattle.cpm_journal.specs.Heads.{head_json, value_fault}
use Rattle.cpm_journal.specs.Laws.{ReadsBack}
use Rattle.cpm_journal.specs.Lines.{lines_text}
use Rattle.cpm_journal.proofs.EntryLaws.{heads-back, journals-back}
use Rattle.cpm_serve.specs.Compact.{AreSlotsWritten, CompactJournalsRemake, IsCompact, IsEntryWritten, IsHeadWritten, IsSlotWritten, entry_of_part}
use Rattle.cpm_serve.specs.Redone.{redone, redone_all, restored_unless}
use Rattle.cpm_serve.specs.Resumed.{IsHeadTaken, host_head}

-- ---- done again

-- a slot's number is behind those that were given
number-redone : (h : Host) (at next : ℕ) (done : List SlotState) → at ≤ next → redone (half h at done) (KeptNumber next) ≡ Some (half h next done)
number-redone h at next done l = ap (λ b. cond b (Some (half h next done)) None) (le-leb at next l)

-- and its saving is restored
saving-redone : (h : Host) (done behind : List SlotState) (x : SlotState) (bytes : List ℕ) → IsNext h done x behind → restored bytes ≡ Ok (saving_of h x.state) →
    redone (half h x.id done) (KeptSaving bytes) ≡ Some (half h (x.id + 1) (done ++ x ∷ []))
saving-redone h done behind x bytes k is =
    let now = half h x.id done in
    ap (λ r. restored_unless (restore_fault now r) (with_slot_restored now r)) is
    ∙ ap (λ o. restored_unless o (with_slot_restored now (Ok (saving_of h x.state)))) (none-refused h done behind x k)

parts-redone : (h : Host) (rest done : List SlotState) (at : ℕ) (parts : List HostPart) → IsOrdered at rest → AllBelow h.openings rest → at ≤ h.openings →
    length (done ++ rest) ≤ 64 → quotas_of (done ++ rest) ≤ h.frames → h.openings ≤ 18446744073709551615 → ArePartsOf h rest parts →
    redone_all (half h at done) (map entry_of_part parts) ≡ Some (half h h.openings (done ++ rest))
parts-redone h [] done at parts ordered below within few quotas last are =
    ap (λ ps. redone_all (half h at done) (map entry_of_part ps)) are
    ∙ ap (option_and_then (λ g. redone_all g [])) (number-redone h at h.openings done within)
    ∙ ap (λ ys. Some (half h h.openings ys)) (sym (append-nil done))
parts-redone h (x ∷ xs) done at parts ordered below within few quotas last (rest, slot, more) =
    let next : IsNext h done x xs = record { few = few; quotas = quotas; below = below.0; last = last } in
    let joined : (done ++ x ∷ []) ++ xs ≡ done ++ x ∷ xs = append_assoc done (x ∷ []) xs in
    let entries = map entry_of_part rest in
    ap (λ ps. redone_all (half h at done) (map entry_of_part ps)) slot.are
    ∙ ap (option_and_then (λ g. redone_all g (KeptSaving slot.bytes ∷ entries))) (number-redone h at x.id done ordered.0)
    ∙ ap (option_and_then (λ g. redone_all g entries)) (saving-redone h done xs x slot.bytes next slot.saved.restores)
    ∙ parts-redone h xs (done ++ x ∷ []) (x.id + 1) rest ordered.1 below.1 (let b = below.0 in omega (arith, b))
    (subst (λ ys. length ys ≤ 64) (sym joined) few) (subst (λ ys. quotas_of ys ≤ h.frames) (sym joined) quotas) last more
    ∙ ap (λ ys. Some (half h h.openings ys)) joined

shallow : (h : Host) → depth (head_json (host_head h)) ≤ max_depth
shallow h = omega arith

-- the head of a host's journal is taken as that
pub head-taken : (h : Host) (text behind line : List ℕ) → IsLineOf (head_json (host_head h)) line → text ≡ line ++ 0x0A ∷ behind → IsHeadTaken (host_head h) (Some behind) text
head-taken h text behind line of whole = record {
  first = line;
  behind = behind;
  free = of.one_line;
  whole = whole;
  left = refl;
  head = ap (value_fault (host_head h)) (of.back (shallow h)) ∙ heads-back (host_head h);
}

pub compact-remakes : CompactJournalsRemake
compact-remakes h text k last c =
    let back : ReadsBack (map entry_of_part c.parts) c.lines = journals-back (map entry_of_part c.parts) c.lines c.keepable c.of in
    record {
      behind = lines_text c.lines;
      head = head-taken h text (lines_text c.lines) c.first c.head c.added;
      rest = record {
        entries = map entry_of_part c.parts;
        read = ap entries_read back.whole ∙ back.read;
        done = parts-redone h h.slots [] 0 c.parts k.ordered k.below (omega arith) k.few k.quotas last c.are;
        left = sym (ap length back.none_torn);
      };
    }

-- ---- written

-- the slot at a place is the one of its number
at-place : (n place : ℕ) (xs : List SlotState) (x : SlotState) → IsOrdered n xs → slice_get xs place ≡ Some x → slot_at x.id xs ≡ Some x.state
at-place n place [] x k e = cc
at-place n zero (y ∷ ys) x k e =
    let same : y ≡ x = cc in
    let own : (y.id == x.id) ≡ true = eq-eqb y.id x.id (ap (λ (t : SlotState). t.id) same) in
    rw own (ap (λ (t : SlotState). Some t.state) same)
at-place n (suc place) (y ∷ ys) x k e = rw (first-other n y x ys place x.id k e refl) (at-place (y.id + 1) place ys x k.1 e)

some-slot : (o : Option SlotState) (id : ℕ) → option_map (λ x. x.id) o ≡ Some id → (x : SlotState) × (o ≡ Some x) × (x.id ≡ id)
some-slot None id e = cc
some-slot (Some x) id e = (x, refl, cc)

slot-added : (h : Host) (place : ℕ) (xs : List SlotState) (x : SlotState) (old between new : Option (List ℕ)) → slice_get xs place ≡ Some x →
    AreSlotsWritten h (take place xs) old between → IsSlotWritten h x between new → AreSlotsWritten h (take (suc place) xs) old new
slot-added h place [] x old between new e begun slot = cc
slot-added h zero (y ∷ ys) x old between new e begun slot =
    let same : x ≡ y = cc in
    (new, subst (λ o. IsSlotWritten h y o new) begun (subst (λ z. IsSlotWritten h z between new) same slot), refl)
slot-added h (suc place) (y ∷ ys) x old between new e (first, one, rest) slot = (first, one, slot-added h place ys x first between new e rest slot)

-- the slots at the first places were written, and then the one at the next
pub slots-more : (h : Host) (place id : ℕ) (old between new : Option (List ℕ)) → IsHost h → Some id ≡ id_at_place place h.slots →
    AreSlotsWritten h (take place h.slots) old between → IfSome (slot_at id h.slots) (λ s. IsSlotWritten h (record { id = id; state = s }) between new) →
    AreSlotsWritten h (take (place + 1) h.slots) old new
slots-more h place id old between new k named begun slot =
    let at = some-slot (slice_get h.slots place) id (sym named) in
    let x = at.0 in
    let there : slot_at id h.slots ≡ Some x.state = subst (λ n. slot_at n h.slots ≡ Some x.state) at.2 (at-place 0 place h.slots x k.ordered at.1) in
    let under : IsSlotWritten h (record { id = id; state = x.state }) between new =
    subst (λ o. IfSome o (λ s. IsSlotWritten h (record { id = id; state = s }) between new)) there slot in
    subst (λ n. AreSlotsWritten h (take n h.slots) old new) (sym (add-one place))
    (slot-added h place h.slots x old between new at.1 begun (subst (λ n. IsSlotWritten h (record { id = n; state = x.state }) between new) (sym at.2) under))

-- ---- the whole journal

line-more : (old between new : Option (List ℕ)) (line rest : List ℕ) → Appends old between (line ++ 0x0A ∷ []) → Appends between new rest → Appends old new (line ++ 0x0A ∷ rest)
line-more old between new line rest one more = subst (Appends old new) (append_assoc line (0x0A ∷ []) rest) (Appends-trans old between new (line ++ 0x0A ∷ []) rest one more)

-- the entries of these slots were written, and that of the next number
record AreAllWritten (h : Host) (xs : List SlotState) (old new : Option (List ℕ)) : Type 0 where
  parts : List HostPart
  are : ArePartsOf h xs parts
  lines : List (List ℕ)
  of : AreLinesOf (map entry_of_part parts) lines
  keepable : AllByRecursion IsKeepable (map entry_of_part parts)
  added : Appends old new (lines_text lines)

all-written : (h : Host) (xs : List SlotState) (old between new : Option (List ℕ)) → AreSlotsWritten h xs old between → IsEntryWritten (KeptNumber h.openings) between new →
    AreAllWritten h xs old new
all-written h [] old between new same last = record {
  parts = NextNumber h.openings ∷ [];
  are = refl;
  lines = last.line ∷ [];
  of = (last.of, tt);
  keepable = (last.keepable, tt);
  added = subst (λ o. Appends o new (last.line ++ 0x0A ∷ [])) same last.added;
}
all-written h (x ∷ xs) old between new (first, slot, more) last =
    let rest : AreAllWritten h xs first new = all-written h xs first between new more last in
    let saving : Appends slot.between new (slot.saving.line ++ 0x0A ∷ lines_text rest.lines) = line-more slot.between first new slot.saving.line (lines_text rest.lines) slot.saving.added rest.added in
    record {
      parts = NextNumber x.id ∷ SavedSlot slot.bytes ∷ rest.parts;
      are = (rest.parts, record { bytes = slot.bytes; saved = slot.saved; are = refl }, rest.are);
      lines = slot.number.line ∷ slot.saving.line ∷ rest.lines;
      of = (slot.number.of, (slot.saving.of, rest.of));
      keepable = (slot.number.keepable, (slot.saving.keepable, rest.keepable));
      added = line-more old slot.between new slot.number.line (slot.saving.line ++ 0x0A ∷ lines_text rest.lines) slot.number.added saving;
    }

pub journal-written : (h : Host) (old first between new : Option (List ℕ)) → IsHeadWritten h old first → AreSlotsWritten h h.slots first between →
    IsEntryWritten (KeptNumber h.openings) between new → IsCompact h old new
journal-written h old first between new head slots last =
    let all : AreAllWritten h h.slots first new = all-written h h.slots first between new slots last in
    record {
      first = head.line;
      head = head.of;
      parts = all.parts;
      are = all.are;
      lines = all.lines;
      of = all.of;
      keepable = all.keepable;
      added = line-more old first new head.line (lines_text all.lines) head.added all.added;
    }

pub on-ok : {A E P Q : Type 0} (r : Result A E) → OnOk r P → (P → Q) → OnOk r Q
on-ok (Ok x) p f = f p
on-ok (Err e) p f = tt
