-- A host stays orderly.
use Rattle.std.proofs.Common.{◌≡◌, ℕ, zero, suc, ◌+◌, ◌<◌, ◌≤◌, Bool, true, false, ◌==◌, ◌||◌, not, List, [], ◌∷◌, length, Option, Some, None, Ok, refl, sym, ap, ◌∙◌, arith, if◌then◌else◌, cond, length-append}
use Rattle.std.specs.Prelude.{nat_lt, nat_le}
use Rattle.std.proofs.lemmas.Bool.Decides.{nat_tests}
use Rattle.std.proofs.lemmas.Bool.{eqb-true}
use Rattle.std.proofs.lemmas.List.Sums.{sum_by-cons, sum_by-append}
use Rattle.cpm_geom.specs.Disk.{Disk}
use Rattle.cpm_machine.specs.declared.opening.OpenError.{OpenError}
use Rattle.cpm_machine.specs.declared.opening.OpenError.TheVariants.{NoSlot, NoFrames}
use Rattle.cpm_machine.specs.declared.opening.Opening.{Opening}
use Rattle.cpm_machine.specs.MachineState.{MachineState}
use Rattle.cpm_machine.specs.Saving.{Saving}
use Rattle.cpm_machine.specs.Opening.{opening_fault, fault_else}
use Rattle.cpm_machine.specs.SystemDigest.{system_digest}
use Rattle.cpm_machine.specs.Step.{step_if, is_running, step, after}
use Rattle.cpm_machine.specs.Serve.{executed, takes_key}
use Rattle.cpm_machine.specs.Until.{executed_until}
use Rattle.cpm_machine.specs.Calls.{Call, Key, Grant, GrantUntil, Take, TakeList, LookAt, Peek, served_key, serve}
use Rattle.cpm_slots.specs.Serving.{Ask, Calls, Closes, serve_slot}
use Rattle.cpm_slots.specs.declared.event.ForkError.TheVariants as fork
use Rattle.cpm_slots.specs.declared.event.HostRestoreError.{HostRestoreError}
use Rattle.cpm_slots.specs.declared.event.HostRestoreError.TheVariants as restore
use Rattle.cpm_slots.specs.Host.{Host, SlotState, Happening, Opens, Forks, Restores, Asks, opened_slot, lacks_slot, lacks_frames, room_fault, refusal_of, opened_if, fork_fault, are_same, restore_fault, system_fault, with_added, slot_at, with_slot, after_ask, after_one, host_after, quotas_of, IsOrdered, IsHost}
use Rattle.cpm_slots.proofs.SlotLaws.{AllBelow-with, AllBelow-added, IsOrdered-with, IsOrdered-added, with_slot-below}
use Rattle.cpm_slots.proofs.EventLaws.{forked-is, restored-is}

-- ---- the quota stays

quota-if : (system : Disk) (b : Bool) (s : MachineState) → (step_if system b s).quota ≡ s.quota
quota-if system true s = refl
quota-if system false s = refl

quota-step : (system : Disk) (s : MachineState) → (step system s).quota ≡ s.quota
unfolding step
quota-step system s = quota-if system (is_running s.ended) s

pub quota-after : (system : Disk) (n : ℕ) (s : MachineState) → (after system n s).quota ≡ s.quota
quota-after system zero s = refl
quota-after system (suc n) s = quota-step system (after system n s) ∙ quota-after system n s

quota-key : (b : Bool) (key : ℕ) (s : MachineState) → (served_key b key s).state.quota ≡ s.quota
quota-key true key s = refl
quota-key false key s = refl

pub quota-serve : (system : Disk) (call : Call) (s : MachineState) → (serve system call s).state.quota ≡ s.quota
unfolding serve
quota-serve system (Key key) s = quota-key (takes_key s) key s
quota-serve system (Grant steps) s = quota-after system (executed system steps s) s
quota-serve system (GrantUntil steps pc) s = quota-after system (executed_until system pc steps s) s
quota-serve system (Take room) s = refl
quota-serve system (TakeList room) s = refl
quota-serve system LookAt s = refl
quota-serve system (Peek address) s = refl

-- ---- the quotas of all

abbrev quota_of : SlotState → ℕ
quota_of x = x.state.quota

quotas-closed : (id : ℕ) (xs : List SlotState) → quotas_of (with_slot id None xs) ≤ quotas_of xs
quotas-closed id [] = omega arith
quotas-closed id (x ∷ xs) =
    let rest = quotas-closed id xs in
    let whole = sum_by-cons quota_of x xs in
    let kept = sum_by-cons quota_of x (with_slot id None xs) in
    elim (x.id == id) as (λ t. quotas_of (cond (not t) (x ∷ with_slot id None xs) (with_slot id None xs)) ≤ quotas_of (x ∷ xs))
    [ true ↦ omega arith | false ↦ omega arith ]

pub quotas-set : (id n : ℕ) (s t : MachineState) (xs : List SlotState) → IsOrdered n xs → slot_at id xs ≡ Some t → s.quota ≡ t.quota → quotas_of (with_slot id (Some s) xs) ≡ quotas_of xs
quotas-set id n s t [] k h e = refl
quotas-set id n s t (x ∷ xs) k h e = by_test (x.id == id) refl h (λ g. quotas-set id (x.id + 1) s t xs k.1 g e)
  where
    by_test : (b : Bool) → (x.id == id) ≡ b → (if b then Some x.state else slot_at id xs) ≡ Some t → (slot_at id xs ≡ Some t → quotas_of (with_slot id (Some s) xs) ≡ quotas_of xs) → quotas_of ((if b then record { id = id; state = s } else x) ∷ with_slot id (Some s) xs) ≡ quotas_of (x ∷ xs)
    by_test true f g more =
        let same : x.state ≡ t = cc in
        let number = eqb-true x.id id f in
        let rest = ap quotas_of (with_slot-below id (x.id + 1) (Some s) xs k.1 (omega arith)) in
        let quota : s.quota ≡ x.state.quota = e ∙ sym (ap (λ (m : MachineState). m.quota) same) in
        let new = sum_by-cons quota_of (record { id = id; state = s }) (with_slot id (Some s) xs) in
        let old = sum_by-cons quota_of x xs in
        omega arith
    by_test false f g more =
        let rest = more g in
        let new = sum_by-cons quota_of x (with_slot id (Some s) xs) in
        let old = sum_by-cons quota_of x xs in
        omega arith

quotas-open : (system : Disk) (id : ℕ) (ask : Ask) (t : MachineState) (xs : List SlotState) → IsOrdered 0 xs → slot_at id xs ≡ Some t → quotas_of (with_slot id (serve_slot system ask (Some t)).slot xs) ≤ quotas_of xs
unfolding serve_slot
quotas-open system id (Calls call) t xs k h = let e = quotas-set id 0 (serve system call t).state t xs k h (quota-serve system call t) in omega arith
quotas-open system id Closes t xs k h = quotas-closed id xs

quotas-asked : (system : Disk) (id : ℕ) (ask : Ask) (o : Option MachineState) (xs : List SlotState) → IsOrdered 0 xs → slot_at id xs ≡ o → quotas_of (with_slot id (serve_slot system ask o).slot xs) ≤ quotas_of xs
unfolding serve_slot
quotas-asked system id ask None xs k h = quotas-closed id xs
quotas-asked system id ask (Some t) xs k h = quotas-open system id ask t xs k h

length-with : (id : ℕ) (o : Option MachineState) (xs : List SlotState) → length (with_slot id o xs) ≤ length xs
length-with id None [] = omega arith
length-with id None (x ∷ xs) = grind (arith, nat_tests, length-with id None xs)
length-with id (Some s) [] = omega arith
length-with id (Some s) (x ∷ xs) = grind (arith, length-with id (Some s) xs)

-- ---- a host stays one

pub IsHost-ask : (h : Host) (id : ℕ) (ask : Ask) → IsHost h → IsHost (after_ask h id ask)
IsHost-ask h id ask k =
    let o = (serve_slot h.system ask (slot_at id h.slots)).slot in
    let few = k.few in
    let quotas = k.quotas in
    record {
      ordered = IsOrdered-with 0 id o h.slots k.ordered;
      below = AllBelow-with h.openings id o h.slots k.below;
      few = omega (arith, length-with id o h.slots);
      quotas = omega (arith, quotas-asked h.system id ask (slot_at id h.slots) h.slots k.ordered refl);
    }

-- what a slot that is added finds, by its quota
pub record HasPlace (h : Host) (quota : ℕ) : Type 0 where
  pub room : length h.slots < 64
  pub number : h.openings ≡ 18446744073709551615 → ⊥
  pub frames : quotas_of h.slots + quota ≤ h.frames

second-none : (a b : Option OpenError) → fault_else a b ≡ None → b ≡ None
second-none None b h = h
second-none (Some fault) b h = cc

-- where neither is lacking
none-lacks : {A : Type 0} (a b : A) (slot frames : Bool) → (if slot then Some a else if frames then Some b else None) ≡ None → (slot ≡ false) × (frames ≡ false)
none-lacks a b true frames k = cc
none-lacks a b false true k = cc
none-lacks a b false false k = (refl, refl)

place-tests : (h : Host) (quota : ℕ) (full last : Bool) → nat_le 64 (length h.slots) ≡ full → (h.openings == 18446744073709551615) ≡ last → (full || last) ≡ false → nat_lt h.frames (quotas_of h.slots + quota) ≡ false → HasPlace h quota
place-tests h quota true last e f g k = cc
place-tests h quota false true e f g k = cc
place-tests h quota false false e f g k = record { room = grind (arith, nat_tests); number = λ at. grind (arith, nat_tests); frames = grind (arith, nat_tests) }

has-place : (h : Host) (quota : ℕ) → (lacks_slot h ≡ false) × (lacks_frames h quota ≡ false) → HasPlace h quota
has-place h quota k = place-tests h quota (nat_le 64 (length h.slots)) (h.openings == 18446744073709551615) refl refl k.0 k.1

pub has-index : (h : Host) (o : Opening) → refusal_of h o ≡ None → HasPlace h o.quota
has-index h o k = has-place h o.quota (none-lacks NoSlot NoFrames (lacks_slot h) (lacks_frames h o.quota) (second-none (opening_fault o) (room_fault h o.quota) k))

pub has-fork : (h : Host) (s : MachineState) → fork_fault h (Some s) ≡ None → HasPlace h s.quota
has-fork h s k = has-place h s.quota (none-lacks fork.NoSlot fork.NoFrames (lacks_slot h) (lacks_frames h s.quota) k)

-- where the digest is the host's, the rest of the tests are those of any slot
same-none : (same : Bool) (fault : HostRestoreError) (rest : Option HostRestoreError) → (if not same then Some fault else rest) ≡ None → rest ≡ None
same-none true fault rest k = k
same-none false fault rest k = cc

pub has-system : (h : Host) (digest : List ℕ) (quota : ℕ) → system_fault h digest quota ≡ None → HasPlace h quota
has-system h digest quota k =
    let rest = same-none (are_same digest (system_digest h.system)) restore.OtherSystem (if lacks_slot h then Some restore.NoSlot else if lacks_frames h quota then Some restore.NoFrames else None) k in
    has-place h quota (none-lacks restore.NoSlot restore.NoFrames (lacks_slot h) (lacks_frames h quota) rest)

pub has-restored : (h : Host) (x : Saving) → restore_fault h (Ok x) ≡ None → HasPlace h x.state.quota
has-restored h x k = has-system h x.system_digest x.state.quota k

pub IsHost-added : (h : Host) (s : MachineState) → HasPlace h s.quota → IsHost h → IsHost (with_added h s)
IsHost-added h s place k =
    let room = place.room in
    let frames = place.frames in
    let new : SlotState = record { id = h.openings; state = s } in
    let all = sum_by-append quota_of h.slots (new ∷ []) in
    let one = sum_by-cons quota_of new [] in
    record {
      ordered = IsOrdered-added 0 h.openings s h.slots (omega arith) k.ordered k.below;
      below = AllBelow-added h.openings s h.slots k.below;
      few = omega (arith, length-append h.slots (new ∷ []));
      quotas = omega arith;
    }

IsHost-open : (h : Host) (o : Opening) (r : Option OpenError) → refusal_of h o ≡ r → IsHost h → IsHost (opened_if r h o)
IsHost-open h o None e k = IsHost-added h (opened_slot o) (has-index h o e) k
IsHost-open h o (Some fault) e k = k

IsHost-one : (h : Host) (x : Happening) → IsHost h → IsHost (after_one h x)
IsHost-one h (Opens o) k = IsHost-open h o (refusal_of h o) refl k
IsHost-one h (Forks id) k = forked-is h id IsHost k (λ s at e. IsHost-added h s (has-fork h s e) k)
IsHost-one h (Restores bytes) k = restored-is h bytes IsHost k (λ x at e. IsHost-added h x.state (has-restored h x e) k)
IsHost-one h (Asks id ask) k = IsHost-ask h id ask k

pub IsHost-after : (events : List Happening) (h : Host) → IsHost h → IsHost (host_after events h)
IsHost-after [] h k = k
IsHost-after (x ∷ xs) h k = IsHost-after xs (after_one h x) (IsHost-one h x k)
