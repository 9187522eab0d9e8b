-- A host that is made again of its parts.
use Rattle.std.proofs.Common.{◌≡◌, ◌<◌, ◌≤◌, ℕ, ◌+◌, ◌==◌, ◌||◌, Bool, true, false, not, cond, List, [], ◌∷◌, ◌++◌, length, sum_by, Option, Some, None, Ok, refl, sym, ap, ap₂, ◌∙◌, subst, arith, append_assoc, append-nil, length-append, if◌then◌else◌}
use Rattle.std.specs.Prelude.{nat_le, nat_lt, slice_get}
use Rattle.std.proofs.lemmas.Bool.{le-leb, ne_eqb}
use Rattle.std.proofs.lemmas.Bool.Decides.{nat_tests}
use Rattle.std.proofs.lemmas.Cmp.{nat_list_eq_equiv}
use Rattle.std.proofs.lemmas.List.Sums.{sum_by-append, sum_by-cons}
use Rattle.cpm_geom.specs.Disk.{Disk}
use Rattle.cpm_machine.specs.MachineState.{MachineState}
use Rattle.cpm_machine.specs.Saving.{restored}
use Rattle.cpm_machine.specs.SystemDigest.{system_digest}
use Rattle.cpm_slots.specs.declared.event.HostRestoreError.{HostRestoreError}
use Rattle.cpm_slots.specs.declared.event.HostRestoreError.TheVariants as restore
use Rattle.cpm_slots.specs.Host.{Host, Restores, SlotState, after_one, are_same, lacks_frames, lacks_slot, quotas_of, restore_fault, restored_if, saving_of, with_added, with_slot_restored, AllBelow, IsHost, IsOrdered}
use Rattle.cpm_slots.specs.Remaking.{ArePartsOf, AreSlotParts, HostPart, NextNumber, Remaking, SavedSlot, numbered_if, with_parts}
use Rattle.cpm_slots.specs.Slots.{slot_of, slots_of}
use Rattle.cpm_slots.specs.declared.slots.Slot.{Slot}

-- a host of these slots, so many of whose openings were made
abbrev pub half : Host → ℕ → List SlotState → Host
half h openings slots = record { system = h.system; frames = h.frames; openings = openings; slots = slots }

-- where nothing is lacking, nothing is refused
no-fault : (same slot frames : Bool) → same ≡ true → slot ≡ false → frames ≡ false →
    (if not same then Some restore.OtherSystem else if slot then Some restore.NoSlot else if frames then Some restore.NoFrames else None) ≡ None
no-fault false slot frames a b c = cc
no-fault true true frames a b c = cc
no-fault true false true a b c = cc
no-fault true false false a b c = refl

-- the slots made so far, one more of the host's, and those behind it
pub record IsNext (h : Host) (done : List SlotState) (x : SlotState) (behind : List SlotState) : Type 0 where
  pub few : length (done ++ x ∷ behind) ≤ 64
  pub quotas : quotas_of (done ++ x ∷ behind) ≤ h.frames
  pub below : x.id < h.openings
  pub last : h.openings ≤ 18446744073709551615

slot-free : (h : Host) (done behind : List SlotState) (x : SlotState) → IsNext h done x behind → lacks_slot (half h x.id done) ≡ false
slot-free h done behind x k =
    let few : length done < 64 = let n = k.few in omega (arith, n, length-append done (x ∷ behind)) in
    let other : (x.id == 18446744073709551615) ≡ false = ne_eqb x.id 18446744073709551615 (λ e. let b = k.below in let l = k.last in omega (arith, e, b, l)) in
    let room : nat_le 64 (length done) ≡ false = grind (arith, nat_tests) in
    ap₂ (λ a b. a || b) room other

frames-free : (h : Host) (done behind : List SlotState) (x : SlotState) → IsNext h done x behind → lacks_frames (half h x.id done) x.state.quota ≡ false
frames-free h done behind x k =
    let all = sum_by-append (λ (y : SlotState). y.state.quota) done (x ∷ behind) in
    let one = sum_by-cons (λ (y : SlotState). y.state.quota) x behind in
    let q = k.quotas in
    let fit : quotas_of done + x.state.quota ≤ h.frames = omega (arith, all, one, q) in
    grind (arith, nat_tests)

-- a slot is restored under its number: nothing refuses it
pub none-refused : (h : Host) (done behind : List SlotState) (x : SlotState) → IsNext h done x behind → restore_fault (half h x.id done) (Ok (saving_of h x.state)) ≡ None
none-refused h done behind x k =
    let now = half h x.id done in
    let digest = system_digest h.system in
    let same : are_same digest digest ≡ true = nat_list_eq_equiv.refl digest in
    no-fault (are_same digest digest) (lacks_slot now) (lacks_frames now x.state.quota) same (slot-free h done behind x k) (frames-free h done behind x k)

one-more : (h : Host) (done behind : List SlotState) (x : SlotState) (bytes : List ℕ) → IsNext h done x behind → restored bytes ≡ Ok (saving_of h x.state) →
    after_one (half h x.id done) (Restores bytes) ≡ half h (x.id + 1) (done ++ x ∷ [])
one-more h done behind x bytes k is =
    let now = half h x.id done in
    ap (λ r. restored_if (restore_fault now r) now r) is ∙ ap (λ o. restored_if o now (Ok (saving_of h x.state))) (none-refused h done behind x k)

-- and is numbered before
numbered : (h : Host) (at next : ℕ) (done : List SlotState) → at ≤ next → numbered_if next (half h at done) ≡ half h next done
numbered h at next done l = ap (λ b. cond b (half h next done) (half h at done)) (le-leb at next l)

remade : (h : Host) (rest done : List SlotState) (at : ℕ) (parts : List HostPart) → IsOrdered at rest → AllBelow h.openings rest → at ≤ h.openings →
    length (done ++ rest) ≤ 64 → quotas_of (done ++ rest) ≤ h.frames → h.openings ≤ 18446744073709551615 → ArePartsOf h rest parts →
    with_parts (half h at done) parts ≡ half h h.openings (done ++ rest)
remade h [] done at parts ordered below within few quotas last are =
    ap (with_parts (half h at done)) are ∙ numbered h at h.openings done within ∙ ap (half h h.openings) (sym (append-nil done))
remade h (x ∷ xs) done at parts ordered below within few quotas last (rest, slot, more) =
    let next : IsNext h done x xs = record { few = few; quotas = quotas; below = below.0; last = last } in
    let joined : (done ++ x ∷ []) ++ xs ≡ done ++ x ∷ xs = append_assoc done (x ∷ []) xs in
    ap (with_parts (half h at done)) slot.are
    ∙ ap (λ g. with_parts (after_one g (Restores slot.bytes)) rest) (numbered h at x.id done ordered.0)
    ∙ ap (λ g. with_parts g rest) (one-more h done xs x slot.bytes next slot.saved.restores)
    ∙ remade h xs (done ++ x ∷ []) (x.id + 1) rest ordered.1 below.1 (let b = below.0 in omega (arith, b))
    (subst (λ ys. length ys ≤ 64) (sym joined) few) (subst (λ ys. quotas_of ys ≤ h.frames) (sym joined) quotas) last more
    ∙ ap (half h h.openings) joined

pub remaking : Remaking
remaking h parts k last are = remade h h.slots [] 0 parts k.ordered k.below (omega arith) k.few k.quotas last are

-- ---- what the code does

-- more openings keep a host one
below-more : (n m : ℕ) (xs : List SlotState) → n ≤ m → AllBelow n xs → AllBelow m xs
below-more n m [] l k = tt
below-more n m (x ∷ xs) l k = let b = k.0 in (omega (arith, b, l), below-more n m xs l k.1)

pub numbered-host : (h : Host) (next : ℕ) → h.openings ≤ next → IsHost h → IsHost (half h next h.slots)
numbered-host h next l k = record { ordered = k.ordered; below = below-more h.openings next h.slots l k.below; few = k.few; quotas = k.quotas }
