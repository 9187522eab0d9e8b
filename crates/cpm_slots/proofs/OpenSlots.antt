-- A session more in the store.
use Rattle.std.proofs.Common.{◌≡◌, ◌≢◌, ℕ, zero, suc, ◌+◌, ◌<◌, ◌≤◌, Bool, true, false, ◌||◌, if◌then◌else◌, List, [], ◌∷◌, ◌++◌, length, get_or, set, sum_by, cond, Option, None, Some, is_some, unwrap_or, refl, sym, ap, ◌∙◌, subst, arith, ⊎_elim, inl, length-append}
use Rattle.std.specs.Prelude.{nat_lt}
use Rattle.std.proofs.lemmas.Bool.Decides.{nat_tests}
use Rattle.std.proofs.lemmas.Bool.{false≢true, cases_lt}
use Rattle.std.proofs.lemmas.List.{get_or_past, get_or-set_same, get_or-set_other, length-set}
use Rattle.std.proofs.lemmas.List.Sums.{sum_by-cons, sum_by-append, sum_by-set}
use Rattle.cpm_memory.specs.Contents.{Contents}
use Rattle.cpm_memory.specs.Opening.{opening}
use Rattle.cpm_memory.specs.Opened.{touched_of-opening}
use Rattle.cpm_memory.specs.Tabulated.{tabulated, length-tabulated, get_or-tabulated}
use Rattle.cpm_memory.specs.Frames.{Frames, memory_at, memories}
use Rattle.cpm_memory.specs.Reserved.{limit_at, taken_in, reserved_in}
use Rattle.cpm_machine.specs.declared.opening.OpenError.{OpenError}
use Rattle.cpm_machine.specs.declared.opening.OpenError.TheVariants.{BadQuota}
use Rattle.cpm_machine.specs.declared.opening.Opening.{Opening}
use Rattle.cpm_machine.specs.MachineState.{MachineState}
use Rattle.cpm_machine.specs.Opening.{drives_fault, opening_fault, fault_else}
use Rattle.cpm_machine.specs.Runner.{state_of, IsRunnerSound}
use Rattle.cpm_slots.specs.declared.slots.Slot.{Slot}
use Rattle.cpm_slots.specs.Host.{Host, opened_slot, room_fault, refusal_of}
use Rattle.cpm_slots.specs.Slots.{contents_at, slot_of, slots_of, NoneAt, AllSound, HaveTables}

-- ---- no session

nothing-limit : sum_by limit_at (tabulated 64 (λ _. None)) ≡ 0
unfolding tabulated
nothing-limit = refl

nothing-taken : taken_in (tabulated 64 (λ _. None)) ≡ 0
unfolding tabulated
nothing-taken = refl

-- in a store of which no table is taken there is no session
pub HaveTables-none : (m : List (Option Contents)) → m ≡ tabulated 64 (λ _. None) → HaveTables m []
HaveTables-none m e = record { all = tt; taken = ap taken_in e ∙ nothing-taken; reserved = ap reserved_in e ∙ nothing-limit }

-- ---- the opening's quota

first-none : (a b : Option OpenError) → fault_else a b ≡ None → a ≡ None
first-none None b h = refl
first-none (Some fault) b h = cc

quota-tests : (o : Opening) (less more : Bool) → nat_lt o.quota 16 ≡ less → nat_lt 256 o.quota ≡ more → (if less || more then Some BadQuota else drives_fault (length o.drives.items)) ≡ None → (16 ≤ o.quota) × (o.quota ≤ 256)
quota-tests o true more e f h = cc
quota-tests o false true e f h = cc
quota-tests o false false e f h = (grind (arith, nat_tests), grind (arith, nat_tests))

-- an opening that is not refused has 16 to 256 pages
pub has-quota : (h : Host) (o : Opening) → refusal_of h o ≡ None → (16 ≤ o.quota) × (o.quota ≤ 256)
has-quota h o k = quota-tests o (nat_lt o.quota 16) (nat_lt 256 o.quota) refl refl (first-none (opening_fault o) (room_fault h o.quota) k)

-- at its opening it is sound
pub IsSound-opened : (o : Opening) → 16 ≤ o.quota → IsRunnerSound (opened_slot o)
IsSound-opened o l = record { limit = refl; count = λ h. omega arith; room = λ h. inl (omega (arith, l, touched_of-opening o.quota)) }

-- ---- the sums over slots and over slots

abbrev pub quota_of : Slot → ℕ
quota_of x = x.runner.quota

-- ---- one more

-- where a table is not taken, there is no memory
pub none-at : (s : Frames) (t : ℕ) → memory_at s t ≡ None → get_or (memories s) t None ≡ None
none-at s t h =
    ⊎_elim (λ (l : t < 64). get_or-tabulated 64 (memory_at s) t None l ∙ h)
    (λ (g : 64 ≤ t). get_or_past (memories s) t None (omega (arith, g, length-tabulated 64 (memory_at s))))
    (cases_lt t 64)

-- the other memories are the same
abbrev pub KeepsOtherMemories : ℕ → List (Option Contents) → List (Option Contents) → Type 0
KeepsOtherMemories table old new = (t : ℕ) → t ≢ table → get_or new t None ≡ get_or old t None

pub kept-set : (table : ℕ) (old : List (Option Contents)) (o : Option Contents) → KeepsOtherMemories table old (set old table o)
kept-set table old o t ne = get_or-set_other old table t o None ne

contents-kept : (table t : ℕ) (old new : List (Option Contents)) → KeepsOtherMemories table old new → t ≢ table → contents_at new t ≡ contents_at old t
contents-kept table t old new same ne = ap (λ o. unwrap_or o (opening 0)) (same t ne)

pub slots-kept : (table : ℕ) (old new : List (Option Contents)) (slots : List Slot) → KeepsOtherMemories table old new → NoneAt table slots → slots_of new slots ≡ slots_of old slots
slots-kept table old new [] same k = refl
slots-kept table old new (x ∷ xs) same k =
    rw (contents-kept table x.table old new same k.0) (ap (λ t. slot_of old x ∷ t) (slots-kept table old new xs same k.1))

pub AllSound-kept : (table : ℕ) (old new : List (Option Contents)) (slots : List Slot) → KeepsOtherMemories table old new → NoneAt table slots → AllSound old slots → AllSound new slots
AllSound-kept table old new [] same k a = tt
AllSound-kept table old new (x ∷ xs) same k a =
    (rw (same x.table k.0) a.0, rw (contents-kept table x.table old new same k.0) a.1, a.2, AllSound-kept table old new xs same k.1 a.3)

-- a table that is not taken is no slot's
pub NoneAt-free : (m : List (Option Contents)) (table : ℕ) (slots : List Slot) → get_or m table None ≡ None → AllSound m slots → NoneAt table slots
NoneAt-free m table [] h k = tt
NoneAt-free m table (x ∷ xs) h k =
    ((λ (e : x.table ≡ table). false≢true (ap is_some (sym h) ∙ ap (λ i. is_some (get_or m i None)) (sym e) ∙ k.0)), NoneAt-free m table xs h k.3)

NoneAt-added : (table : ℕ) (slots : List Slot) (s : Slot) → s.table ≢ table → NoneAt table slots → NoneAt table (slots ++ s ∷ [])
NoneAt-added table [] s ne k = (ne, tt)
NoneAt-added table (x ∷ xs) s ne k = (k.0, NoneAt-added table xs s ne k.1)

AllSound-added : (m : List (Option Contents)) (slots : List Slot) (s : Slot) → NoneAt s.table slots → AllSound m slots → is_some (get_or m s.table None) ≡ true → IsRunnerSound (state_of s.runner (contents_at m s.table)) → AllSound m (slots ++ s ∷ [])
AllSound-added m [] s none k taken sound = (taken, sound, tt, tt)
AllSound-added m (x ∷ xs) s none k taken sound =
    (k.0, k.1, NoneAt-added x.table xs s (λ e. none.0 (sym e)) k.2, AllSound-added m xs s none.1 k.3 taken sound)

slots-added : (m : List (Option Contents)) (slots : List Slot) (s : Slot) → slots_of m (slots ++ s ∷ []) ≡ slots_of m slots ++ slot_of m s ∷ []
slots-added m [] s = refl
slots-added m (x ∷ xs) s = ap (λ t. slot_of m x ∷ t) (slots-added m xs s)

pub taken-within : (m : List (Option Contents)) (t : ℕ) → is_some (get_or m t None) ≡ true → t < length m
taken-within [] t h = cc
taken-within (x ∷ xs) zero h = omega arith
taken-within (x ∷ xs) (suc t) h = let l = taken-within xs t h in omega arith

-- a table that was free has a memory
module _ (old : List (Option Contents)) (t : ℕ) (memory : Contents) (free : get_or old t None ≡ None) (taken : is_some (get_or (set old t (Some memory)) t None) ≡ true) where
  within : t < length old
  within = let l = taken-within (set old t (Some memory)) t taken in omega (arith, l, length-set old t (Some memory))

  pub contents-added : contents_at (set old t (Some memory)) t ≡ memory
  contents-added = ap (λ o. unwrap_or o (opening 0)) (get_or-set_same old t (Some memory) None within)

  taken-added : taken_in (set old t (Some memory)) ≡ taken_in old + 1
  taken-added =
      let before : cond {A = ℕ} (is_some (get_or old t None)) 1 0 ≡ 0 = ap (λ (o : Option Contents). cond {A = ℕ} (is_some o) 1 0) free in
      let e = sum_by-set (λ (o : Option Contents). cond {A = ℕ} (is_some o) 1 0) old t (Some memory) None within in
      omega (arith, e, before)

  reserved-added : reserved_in (set old t (Some memory)) ≡ reserved_in old + memory.limit
  reserved-added =
      let before : limit_at (get_or old t None) ≡ 0 = ap limit_at free in
      let e = sum_by-set limit_at old t (Some memory) None within in
      omega (arith, e, before)

-- A slot is added in a table that was free and now has a memory, with which its session makes a state.
pub record IsAdded (old new : List (Option Contents)) (s : Slot) (memory : Contents) (made : MachineState) : Type 0 where
  pub free : get_or old s.table None ≡ None
  pub is : new ≡ set old s.table (Some memory)
  pub taken : is_some (get_or new s.table None) ≡ true
  pub state : state_of s.runner memory ≡ made
  pub sound : IsRunnerSound made

module _ (old new : List (Option Contents)) (slots : List Slot) (s : Slot) (memory : Contents) (state : MachineState) (k : HaveTables old slots) (a : IsAdded old new s memory state) where
  abbrev after : List (Option Contents)
  after = set old s.table (Some memory)

  taken-after : is_some (get_or after s.table None) ≡ true
  taken-after = subst (λ m. is_some (get_or m s.table None) ≡ true) a.is a.taken

  contents-after : contents_at after s.table ≡ memory
  contents-after = contents-added old s.table memory a.free taken-after

  none : NoneAt s.table slots
  none = NoneAt-free old s.table slots a.free k.all

  state-after : state_of s.runner (contents_at after s.table) ≡ state
  state-after = ap (state_of s.runner) contents-after ∙ a.state

  have_tables-after : HaveTables after (slots ++ s ∷ [])
  have_tables-after =
      let limit : memory.limit ≡ s.runner.quota = ap (λ (x : MachineState). x.memory.limit) a.state ∙ a.sound.limit ∙ sym (ap (λ (x : MachineState). x.quota) a.state) in
      let all = sum_by-append quota_of slots (s ∷ []) in
      let one = sum_by-cons quota_of s [] in
      let long = length-append slots (s ∷ []) in
      let more = taken-added old s.table memory a.free taken-after in
      let reserved = reserved-added old s.table memory a.free taken-after in
      let was_taken = k.taken in
      let was_reserved = k.reserved in
      record {
        all = AllSound-added after slots s none (AllSound-kept s.table old after slots (kept-set s.table old (Some memory)) none k.all) taken-after (subst IsRunnerSound (sym state-after) a.sound);
        taken = omega arith;
        reserved = omega arith;
      }

  pub HaveTables-added : HaveTables new (slots ++ s ∷ [])
  HaveTables-added = subst (λ m. HaveTables m (slots ++ s ∷ [])) (sym a.is) have_tables-after

  pub slots-more : slots_of new (slots ++ s ∷ []) ≡ slots_of old slots ++ record { id = s.id; state = state } ∷ []
  slots-more =
      ap (λ m. slots_of m (slots ++ s ∷ [])) a.is
      ∙ slots-added after slots s
      ∙ ap (λ xs. xs ++ slot_of after s ∷ []) (slots-kept s.table old after slots (kept-set s.table old (Some memory)) none)
      ∙ ap (λ (x : MachineState). slots_of old slots ++ record { id = s.id; state = x } ∷ []) state-after
