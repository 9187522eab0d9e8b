-- What is done to one slot, as what is done to its slot.
use Rattle.std.proofs.Common.{◌≡◌, ◌≢◌, ℕ, zero, suc, ◌+◌, ◌<◌, true, List, [], ◌∷◌, length, get_or, set, sum_by, cond, Option, None, Some, is_some, unwrap_or, refl, sym, ap, ◌∙◌, subst, arith}
use Rattle.std.specs.Prelude.{slice_get, IfSome}
use Rattle.std.proofs.lemmas.Bool.{false≢true}
use Rattle.std.proofs.lemmas.List.{get_or-set_same, get_or-set_other, length-set}
use Rattle.std.proofs.lemmas.List.Sums.{sum_by-cons, sum_by-set}
use Rattle.cpm_geom.specs.Disk.{Disk}
use Rattle.cpm_memory.specs.Contents.{Contents}
use Rattle.cpm_memory.specs.Opening.{opening}
use Rattle.cpm_memory.specs.Reserved.{limit_at, taken_in, reserved_in}
use Rattle.cpm_machine.specs.declared.steps.Runner.{Runner}
use Rattle.cpm_machine.specs.MachineState.{MachineState}
use Rattle.cpm_machine.specs.Calls.{Call, serve}
use Rattle.cpm_machine.specs.Runner.{state_of, IsRunnerSound}
use Rattle.cpm_slots.specs.declared.slots.Slot.{Slot}
use Rattle.cpm_slots.specs.Host.{SlotState}
use Rattle.cpm_slots.specs.declared.event.Reply.{Reply}
use Rattle.cpm_slots.specs.Serving.{reply_of}
use Rattle.cpm_slots.specs.Index.{with_state_at, Serves, IsServed}
use Rattle.cpm_slots.specs.Slots.{contents_at, slot_of, slots_of, NoneAt, AllSound, HaveTables, ChangesAt}

-- the slot with another runner
abbrev pub have_tables : Slot → Runner → Slot
have_tables s runner = record s { runner = runner }

-- what holds of a slot at its place
pub record IsSlot (m : List (Option Contents)) (s : Slot) : Type 0 where
  pub taken : is_some (get_or m s.table None) ≡ true
  pub sound : IsRunnerSound (state_of s.runner (contents_at m s.table))

pub IsSlot-at : (m : List (Option Contents)) (slots : List Slot) (i : ℕ) (s : Slot) → AllSound m slots → slice_get slots i ≡ Some s → IsSlot m s
IsSlot-at m [] i s k h = cc
IsSlot-at m (x ∷ xs) zero s k h =
    let at : IsSlot m x = record { taken = k.0; sound = k.1 } in
    let same : x ≡ s = cc in subst (IsSlot m) same at
IsSlot-at m (x ∷ xs) (suc i) s k h = IsSlot-at m xs i s k.3 h

-- the other memories are the same
abbrev pub Others : ℕ → List (Option Contents) → List (Option Contents) → Type 0
Others table old new = (t : ℕ) → t ≢ table → get_or new t None ≡ get_or old t None

pub others-at : (table : ℕ) (old new : List (Option Contents)) → ChangesAt table old new → Others table old new
others-at table old new h t ne =
    ap (λ m. get_or m t None) h.memories ∙ get_or-set_other old table t (Some (contents_at new table)) None ne

pub contents-other : (table t : ℕ) (old new : List (Option Contents)) → Others table old new → t ≢ table → contents_at new t ≡ contents_at old t
contents-other table t old new same ne = ap (λ o. unwrap_or o (opening 0)) (same t ne)

slots-kept : (table : ℕ) (old new : List (Option Contents)) (slots : List Slot) → Others table old new → NoneAt table slots → slots_of new slots ≡ slots_of old slots
slots-kept table old new [] same k = refl
slots-kept table old new (x ∷ xs) same k =
    rw (contents-other table x.table old new same k.0) (ap (λ t. slot_of old x ∷ t) (slots-kept table old new xs same k.1))

AllSound-kept : (table : ℕ) (old new : List (Option Contents)) (slots : List Slot) → Others table old new → NoneAt table slots → AllSound old slots → AllSound new slots
AllSound-kept table old new [] same k a = tt
AllSound-kept table old new (x ∷ xs) same k a =
    (rw (same x.table k.0) a.0, rw (contents-other table x.table old new same k.0) a.1, a.2, AllSound-kept table old new xs same k.1 a.3)

pub NoneAt-at : (table : ℕ) (slots : List Slot) (i : ℕ) (s : Slot) → NoneAt table slots → slice_get slots i ≡ Some s → s.table ≢ table
NoneAt-at table [] i s k h = cc
NoneAt-at table (x ∷ xs) zero s k h = let e : x ≡ s = cc in let P : Slot → Type 0 = λ t. t.table ≢ table in subst P e k.0
NoneAt-at table (x ∷ xs) (suc i) s k h = NoneAt-at table xs i s k.1 h

NoneAt-set : (table : ℕ) (slots : List Slot) (i : ℕ) (s : Slot) (runner : Runner) → NoneAt table slots → slice_get slots i ≡ Some s → NoneAt table (set slots i (have_tables s runner))
NoneAt-set table [] i s runner k h = cc
NoneAt-set table (x ∷ xs) zero s runner k h = (NoneAt-at table (x ∷ xs) 0 s k h, k.1)
NoneAt-set table (x ∷ xs) (suc i) s runner k h = (k.0, NoneAt-set table xs i s runner k.1 h)

pub NoneAt-same : (x s : Slot) (slots : List Slot) → x ≡ s → NoneAt x.table slots → NoneAt s.table slots
NoneAt-same x s slots e k = let P : Slot → Type 0 = λ t. NoneAt t.table slots in subst P e k

-- the slots after the session at a place went on, and its memory with it
pub slots-set : (old new : List (Option Contents)) (slots : List Slot) (i : ℕ) (s : Slot) (runner : Runner) (f : MachineState → MachineState) →
    AllSound old slots → slice_get slots i ≡ Some s → Others s.table old new →
    state_of runner (contents_at new s.table) ≡ f (state_of s.runner (contents_at old s.table)) →
    slots_of new (set slots i (have_tables s runner)) ≡ with_state_at i f (slots_of old slots)
slots-set old new [] i s runner f k h same is = cc
slots-set old new (x ∷ xs) zero s runner f k h same is =
    let e : x ≡ s = cc in
    let none = NoneAt-same x s xs e k.2 in
    let P : Slot → Type 0 = λ t. record { id = s.id; state = state_of runner (contents_at new s.table) } ∷ slots_of new xs ≡ record { id = t.id; state = f (state_of t.runner (contents_at old t.table)) } ∷ slots_of old xs in
    subst P (sym e) (rw is (ap (λ t. record { id = s.id; state = f (state_of s.runner (contents_at old s.table)) } ∷ t) (slots-kept s.table old new xs same none)))
slots-set old new (x ∷ xs) (suc i) s runner f k h same is =
    let other = NoneAt-at x.table xs i s k.2 h in
    rw (contents-other s.table x.table old new same (λ e. other (sym e))) (ap (λ t. slot_of old x ∷ t) (slots-set old new xs i s runner f k.3 h same is))

-- the same, where no memory changed
pub slots-set_alone : (m : List (Option Contents)) (slots : List Slot) (i : ℕ) (s : Slot) (runner : Runner) (f : MachineState → MachineState) →
    slice_get slots i ≡ Some s → state_of runner (contents_at m s.table) ≡ f (state_of s.runner (contents_at m s.table)) →
    slots_of m (set slots i (have_tables s runner)) ≡ with_state_at i f (slots_of m slots)
slots-set_alone m [] i s runner f h is = cc
slots-set_alone m (x ∷ xs) zero s runner f h is =
    let e : x ≡ s = cc in
    let P : Slot → Type 0 = λ t. record { id = s.id; state = state_of runner (contents_at m s.table) } ∷ slots_of m xs ≡ record { id = t.id; state = f (state_of t.runner (contents_at m t.table)) } ∷ slots_of m xs in
    subst P (sym e) (ap (λ state. record { id = s.id; state = state } ∷ slots_of m xs) is)
slots-set_alone m (x ∷ xs) (suc i) s runner f h is = ap (λ t. slot_of m x ∷ t) (slots-set_alone m xs i s runner f h is)

AllSound-set : (old new : List (Option Contents)) (slots : List Slot) (i : ℕ) (s : Slot) (runner : Runner) →
    AllSound old slots → slice_get slots i ≡ Some s → Others s.table old new →
    IsSlot new (have_tables s runner) → AllSound new (set slots i (have_tables s runner))
AllSound-set old new [] i s runner k h same now = cc
AllSound-set old new (x ∷ xs) zero s runner k h same now =
    let e : x ≡ s = cc in
    let none = NoneAt-same x s xs e k.2 in
    (now.taken, now.sound, none, AllSound-kept s.table old new xs same none k.3)
AllSound-set old new (x ∷ xs) (suc i) s runner k h same now =
    let other = NoneAt-at x.table xs i s k.2 h in
    let apart : x.table ≢ s.table = λ e. other (sym e) in
    (rw (same x.table apart) k.0, rw (contents-other s.table x.table old new same apart) k.1, NoneAt-set x.table xs i s runner k.2 h, AllSound-set old new xs i s runner k.3 h same now)

abbrev pub quota_of : Slot → ℕ
quota_of x = x.runner.quota

quotas-set : (slots : List Slot) (i : ℕ) (s : Slot) (runner : Runner) → slice_get slots i ≡ Some s → runner.quota ≡ s.runner.quota → sum_by quota_of (set slots i (have_tables s runner)) ≡ sum_by quota_of slots
quotas-set [] i s runner h e = cc
quotas-set (x ∷ xs) zero s runner h e =
    let same : x ≡ s = cc in
    sum_by-cons quota_of (have_tables s runner) xs ∙ ap (λ n. n + sum_by quota_of xs) (e ∙ sym (ap quota_of same)) ∙ sym (sum_by-cons quota_of x xs)
quotas-set (x ∷ xs) (suc i) s runner h e =
    sum_by-cons quota_of x (set xs i (have_tables s runner)) ∙ ap (λ n. x.runner.quota + n) (quotas-set xs i s runner h e) ∙ sym (sum_by-cons quota_of x xs)

-- a session went on in its own memory
pub HaveTables-alone : (m : List (Option Contents)) (slots : List Slot) (i : ℕ) (s : Slot) (runner : Runner) →
    HaveTables m slots → slice_get slots i ≡ Some s → IsRunnerSound (state_of runner (contents_at m s.table)) → runner.quota ≡ s.runner.quota →
    HaveTables m (set slots i (have_tables s runner))
HaveTables-alone m slots i s runner k h sound quota = record {
  all = AllSound-set m m slots i s runner k.all h (λ t ne. refl) (record { taken = (IsSlot-at m slots i s k.all h).taken; sound = sound });
  taken = k.taken ∙ sym (length-set slots i (have_tables s runner));
  reserved = k.reserved ∙ sym (quotas-set slots i s runner h quota);
}

-- ---- a memory that goes on

pub taken-within : (m : List (Option Contents)) (t : ℕ) → is_some (get_or m t None) ≡ true → t < length m
taken-within [] t h = cc
taken-within (x ∷ xs) zero h = omega arith
taken-within (x ∷ xs) (suc t) h = let l = taken-within xs t h in omega arith

-- the memory at a table that is taken
pub some-contents : (m : List (Option Contents)) (t : ℕ) → is_some (get_or m t None) ≡ true → get_or m t None ≡ Some (contents_at m t)
some-contents m t h = by_case (get_or m t None) h
  where
    by_case : (o : Option Contents) → is_some o ≡ true → o ≡ Some (unwrap_or o (opening 0))
    by_case None q = absurd (false≢true q)
    by_case (Some c) q = refl

pub contents-set : (m : List (Option Contents)) (t : ℕ) (c : Contents) → is_some (get_or m t None) ≡ true → contents_at (set m t (Some c)) t ≡ c
contents-set m t c h = ap (λ o. unwrap_or o (opening 0)) (get_or-set_same m t (Some c) None (taken-within m t h))

still-taken : (t : ℕ) (old new : List (Option Contents)) → ChangesAt t old new → is_some (get_or old t None) ≡ true → is_some (get_or new t None) ≡ true
still-taken t old new change h =
    ap (λ m. is_some (get_or m t None)) change.memories ∙ ap is_some (get_or-set_same old t (Some (contents_at new t)) None (taken-within old t h))

-- as many tables are taken, and as much is reserved
taken-same : (t : ℕ) (old new : List (Option Contents)) → ChangesAt t old new → is_some (get_or old t None) ≡ true → taken_in new ≡ taken_in old
taken-same t old new change h =
    let before : cond {A = ℕ} (is_some (get_or old t None)) 1 0 ≡ 1 = ap (λ b. cond {A = ℕ} b 1 0) h in
    let e = sum_by-set (λ (o : Option Contents). cond {A = ℕ} (is_some o) 1 0) old t (Some (contents_at new t)) None (taken-within old t h) in
    ap taken_in change.memories ∙ omega (arith, e, before)

reserved-same : (t : ℕ) (old new : List (Option Contents)) → ChangesAt t old new → is_some (get_or old t None) ≡ true → (contents_at new t).limit ≡ (contents_at old t).limit → reserved_in new ≡ reserved_in old
reserved-same t old new change h same =
    let before : limit_at (get_or old t None) ≡ (contents_at old t).limit = ap limit_at (some-contents old t h) in
    let e = sum_by-set limit_at old t (Some (contents_at new t)) None (taken-within old t h) in
    ap reserved_in change.memories ∙ omega (arith, e, before, same)

-- a session went on, and its memory with it
pub HaveTables-on : (old new : List (Option Contents)) (slots : List Slot) (i : ℕ) (s : Slot) (runner : Runner) →
    HaveTables old slots → slice_get slots i ≡ Some s → ChangesAt s.table old new → IsRunnerSound (state_of runner (contents_at new s.table)) → runner.quota ≡ s.runner.quota →
    HaveTables new (set slots i (have_tables s runner))
HaveTables-on old new slots i s runner k h change sound quota =
    let slot = IsSlot-at old slots i s k.all h in
    record {
      all = AllSound-set old new slots i s runner k.all h (others-at s.table old new change) (record { taken = still-taken s.table old new change slot.taken; sound = sound });
      taken = taken-same s.table old new change slot.taken ∙ k.taken ∙ sym (length-set slots i (have_tables s runner));
      reserved = reserved-same s.table old new change slot.taken (sound.limit ∙ quota ∙ sym slot.sound.limit) ∙ k.reserved ∙ sym (quotas-set slots i s runner h quota);
    }

-- the slot at a place
pub slot-at : (m : List (Option Contents)) (slots : List Slot) (i : ℕ) (s : Slot) → slice_get slots i ≡ Some s → slice_get (slots_of m slots) i ≡ Some (slot_of m s)
slot-at m [] i s h = cc
slot-at m (x ∷ xs) zero s h = let same : x ≡ s = cc in ap (λ t. Some (slot_of m t)) same
slot-at m (x ∷ xs) (suc i) s h = slot-at m xs i s h

pub IfSlot-at : (m : List (Option Contents)) (slots : List Slot) (i : ℕ) (s : Slot) (P : SlotState → Type 0) → slice_get slots i ≡ Some s → P (slot_of m s) → IfSome (slice_get (slots_of m slots) i) P
IfSlot-at m slots i s P h p = rw (slot-at m slots i s h) p

-- a call to the session at a place
pub served-alone : (system : Disk) (call : Call) (r : Reply) (m : List (Option Contents)) (slots : List Slot) (i : ℕ) (s : Slot) (runner : Runner) →
    slice_get slots i ≡ Some s → Serves system call r (state_of s.runner (contents_at m s.table)) (state_of runner (contents_at m s.table)) →
    IsServed system call i r (slots_of m slots) (slots_of m (set slots i (have_tables s runner)))
served-alone system call r m slots i s runner h k = record {
  replied = IfSlot-at m slots i s (λ x. r ≡ reply_of (serve system call x.state).answer) h k.replied;
  slots = slots-set_alone m slots i s runner (λ t. (serve system call t).state) h k.state;
}

-- one by which its memory goes on
pub served-on : (system : Disk) (call : Call) (r : Reply) (old new : List (Option Contents)) (slots : List Slot) (i : ℕ) (s : Slot) (runner : Runner) →
    HaveTables old slots → slice_get slots i ≡ Some s → ChangesAt s.table old new → Serves system call r (state_of s.runner (contents_at old s.table)) (state_of runner (contents_at new s.table)) →
    IsServed system call i r (slots_of old slots) (slots_of new (set slots i (have_tables s runner)))
served-on system call r old new slots i s runner owned h change k = record {
  replied = IfSlot-at old slots i s (λ x. r ≡ reply_of (serve system call x.state).answer) h k.replied;
  slots = slots-set old new slots i s runner (λ t. (serve system call t).state) owned.all h (others-at s.table old new change) k.state;
}
