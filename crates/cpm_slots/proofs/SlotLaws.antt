-- The slots of a host, by their numbers.
use Rattle.std.proofs.Common.{◌≡◌, ℕ, ◌+◌, ◌<◌, ◌≤◌, true, false, ◌==◌, not, List, [], ◌∷◌, ◌++◌, Option, Some, None, refl, arith, ⊎_elim, if◌then◌else◌, cond}
use Rattle.std.proofs.lemmas.Bool.Decides.{nat_tests}
use Rattle.std.proofs.lemmas.Bool.{cases_lt, eqb-true}
use Rattle.cpm_geom.specs.Disk.{Disk}
use Rattle.cpm_machine.specs.MachineState.{MachineState}
use Rattle.cpm_slots.specs.Serving.{Ask, serve_slot}
use Rattle.cpm_slots.specs.Host.{SlotState, slot_at, with_slot, AllBelow, IsOrdered}

slot_at-closed : (id : ℕ) (xs : List SlotState) → slot_at id (with_slot id None xs) ≡ None
slot_at-closed id [] = refl
slot_at-closed id (x ∷ xs) = grind (arith, nat_tests, slot_at-closed id xs)

slot_at-set : (id : ℕ) (s t : MachineState) (xs : List SlotState) → slot_at id xs ≡ Some t → slot_at id (with_slot id (Some s) xs) ≡ Some s
slot_at-set id s t [] h = cc
slot_at-set id s t (x ∷ xs) h = grind (arith, nat_tests, slot_at-set id s t xs)

slot_at-other_closed : (id other : ℕ) (xs : List SlotState) → (other == id) ≡ false → slot_at id (with_slot other None xs) ≡ slot_at id xs
slot_at-other_closed id other [] h = refl
slot_at-other_closed id other (x ∷ xs) h = grind (arith, nat_tests, slot_at-other_closed id other xs h)

slot_at-other_set : (id other : ℕ) (s : MachineState) (xs : List SlotState) → (other == id) ≡ false → slot_at id (with_slot other (Some s) xs) ≡ slot_at id xs
slot_at-other_set id other s [] h = refl
slot_at-other_set id other s (x ∷ xs) h = grind (arith, nat_tests, slot_at-other_set id other s xs h)

-- what is done to one slot leaves the others
pub slot_at-other : (id other : ℕ) (o : Option MachineState) (xs : List SlotState) → (other == id) ≡ false → slot_at id (with_slot other o xs) ≡ slot_at id xs
slot_at-other id other None xs h = slot_at-other_closed id other xs h
slot_at-other id other (Some s) xs h = slot_at-other_set id other s xs h

-- the slot that was asked is as it was served
pub slot_at-same : (id : ℕ) (ask : Ask) (system : Disk) (xs : List SlotState) (o : Option MachineState) → slot_at id xs ≡ o → slot_at id (with_slot id (serve_slot system ask o).slot xs) ≡ (serve_slot system ask o).slot
unfolding serve_slot
slot_at-same id ask system xs None h = slot_at-closed id xs
slot_at-same id ask system xs (Some t) h =
    let go : (now : Option MachineState) → slot_at id (with_slot id now xs) ≡ now = elim [ None ↦ slot_at-closed id xs | Some s ↦ slot_at-set id s t xs h ] in
    go (serve_slot system ask (Some t)).slot

-- a slot that is added
pub slot_at-added : (id : ℕ) (new : SlotState) (xs : List SlotState) → id < new.id → slot_at id (xs ++ new ∷ []) ≡ slot_at id xs
slot_at-added id new [] h = grind (arith, nat_tests)
slot_at-added id new (x ∷ xs) h = grind (arith, nat_tests, slot_at-added id new xs h)

pub slot_at-new : (n : ℕ) (s : MachineState) (xs : List SlotState) → AllBelow n xs → slot_at n (xs ++ record { id = n; state = s } ∷ []) ≡ Some s
slot_at-new n s [] b = grind (arith, nat_tests)
slot_at-new n s (x ∷ xs) b = let first : x.id < n = b.0 in grind (arith, nat_tests, slot_at-new n s xs b.1)

-- a number that was not given has no slot
pub slot_at-past : (n id : ℕ) (xs : List SlotState) → AllBelow n xs → n ≤ id → slot_at id xs ≡ None
slot_at-past n id [] b h = refl
slot_at-past n id (x ∷ xs) b h = let first : x.id < n = b.0 in grind (arith, nat_tests, slot_at-past n id xs b.1 h)

-- so one that is open has a number that was given
pub open-below : (n id : ℕ) (s : MachineState) (xs : List SlotState) → AllBelow n xs → slot_at id xs ≡ Some s → id < n
open-below n id s xs b at =
    ⊎_elim (λ (g : id < n). g) (λ g. let none = slot_at-past n id xs b g in absurd cc) (cases_lt id n)

pub AllBelow-added : (n : ℕ) (s : MachineState) (xs : List SlotState) → AllBelow n xs → AllBelow (n + 1) (xs ++ record { id = n; state = s } ∷ [])
AllBelow-added n s [] b = (omega arith, tt)
AllBelow-added n s (x ∷ xs) b = let first = b.0 in (omega arith, AllBelow-added n s xs b.1)

AllBelow-closed : (n id : ℕ) (xs : List SlotState) → AllBelow n xs → AllBelow n (with_slot id None xs)
AllBelow-closed n id [] b = tt
AllBelow-closed n id (x ∷ xs) b =
    elim (x.id == id) as (λ t. AllBelow n (cond (not t) (x ∷ with_slot id None xs) (with_slot id None xs)))
    [ true ↦ AllBelow-closed n id xs b.1 | false ↦ (b.0, AllBelow-closed n id xs b.1) ]

AllBelow-set : (n id : ℕ) (s : MachineState) (xs : List SlotState) → AllBelow n xs → AllBelow n (with_slot id (Some s) xs)
AllBelow-set n id s [] b = tt
AllBelow-set n id s (x ∷ xs) b = (
  elim (x.id == id) as (λ t. (x.id == id) ≡ t → (let new : SlotState = if t then record { id = id; state = s } else x in new.id < n))
      [ true ↦ (λ h. let same = eqb-true x.id id h in let first = b.0 in omega arith) | false ↦ (λ h. b.0) ] refl,
  AllBelow-set n id s xs b.1,
)

pub AllBelow-with : (n id : ℕ) (o : Option MachineState) (xs : List SlotState) → AllBelow n xs → AllBelow n (with_slot id o xs)
AllBelow-with n id None xs b = AllBelow-closed n id xs b
AllBelow-with n id (Some s) xs b = AllBelow-set n id s xs b

-- below all numbers there is none
pub with_slot-below : (id n : ℕ) (o : Option MachineState) (xs : List SlotState) → IsOrdered n xs → id < n → with_slot id o xs ≡ xs
with_slot-below id n None [] k h = refl
with_slot-below id n None (x ∷ xs) k h =
    let first : n ≤ x.id = k.0 in
    grind (arith, nat_tests, with_slot-below id (x.id + 1) None xs k.1)
with_slot-below id n (Some s) [] k h = refl
with_slot-below id n (Some s) (x ∷ xs) k h =
    let first : n ≤ x.id = k.0 in
    grind (arith, nat_tests, with_slot-below id (x.id + 1) (Some s) xs k.1)

-- where there is none, nothing is closed
pub with_slot-none : (id : ℕ) (xs : List SlotState) → slot_at id xs ≡ None → with_slot id None xs ≡ xs
with_slot-none id [] h = refl
with_slot-none id (x ∷ xs) h = grind (arith, nat_tests, with_slot-none id xs)

-- numbers stay in order
IsOrdered-less : (m n : ℕ) (xs : List SlotState) → m ≤ n → IsOrdered n xs → IsOrdered m xs
IsOrdered-less m n [] h k = tt
IsOrdered-less m n (x ∷ xs) h k = let first : n ≤ x.id = k.0 in (omega arith, k.1)

IsOrdered-closed : (n id : ℕ) (xs : List SlotState) → IsOrdered n xs → IsOrdered n (with_slot id None xs)
IsOrdered-closed n id [] k = tt
IsOrdered-closed n id (x ∷ xs) k =
    let first : n ≤ x.id = k.0 in
    elim (x.id == id) as (λ t. IsOrdered n (cond (not t) (x ∷ with_slot id None xs) (with_slot id None xs))) [
      | true ↦ IsOrdered-less n (x.id + 1) (with_slot id None xs) (omega arith) (IsOrdered-closed (x.id + 1) id xs k.1)
      | false ↦ (k.0, IsOrdered-closed (x.id + 1) id xs k.1)
    ]

IsOrdered-set : (n id : ℕ) (s : MachineState) (xs : List SlotState) → IsOrdered n xs → IsOrdered n (with_slot id (Some s) xs)
IsOrdered-set n id s [] k = tt
IsOrdered-set n id s (x ∷ xs) k =
    elim (x.id == id) as (λ t. (x.id == id) ≡ t → IsOrdered n ((if t then record { id = id; state = s } else x) ∷ with_slot id (Some s) xs)) [
      | true ↦ (λ h. let at = eqb-true x.id id h in let first : n ≤ x.id = k.0 in
          (omega arith, IsOrdered-less (id + 1) (x.id + 1) (with_slot id (Some s) xs) (omega arith) (IsOrdered-set (x.id + 1) id s xs k.1)))
      | false ↦ (λ h. (k.0, IsOrdered-set (x.id + 1) id s xs k.1))
    ] refl

pub IsOrdered-with : (n id : ℕ) (o : Option MachineState) (xs : List SlotState) → IsOrdered n xs → IsOrdered n (with_slot id o xs)
IsOrdered-with n id None xs k = IsOrdered-closed n id xs k
IsOrdered-with n id (Some s) xs k = IsOrdered-set n id s xs k

pub IsOrdered-added : (n m : ℕ) (s : MachineState) (xs : List SlotState) → n ≤ m → IsOrdered n xs → AllBelow m xs → IsOrdered n (xs ++ record { id = m; state = s } ∷ [])
IsOrdered-added n m s [] h k b = (h, tt)
IsOrdered-added n m s (x ∷ xs) h k b = let below : x.id < m = b.0 in (k.0, IsOrdered-added (x.id + 1) m s xs (omega arith) k.1 b.1)
