-- The frames that no table names are enough for what the slots may still write.
use Rattle.std.proofs.Common.{◌≡◌, ◌≢◌, ℕ, zero, suc, ◌+◌, ◌≤◌, Bool, true, false, ◌==◌, cond, List, [], ◌∷◌, get_or, set, sum, sum_by, count_by, Option, None, Some, is_some, refl, ap, ◌∙◌, arith, ⊎_elim}
use Rattle.std.proofs.lemmas.Bool.Decides.{nat_tests}
use Rattle.std.proofs.lemmas.Bool.{cases_eq}
use Rattle.std.proofs.lemmas.List.Sums.{sum_by-cons, sum_by-append, sum_by-set}
use Rattle.cpm_memory.specs.Contents.{Contents, room_of}
use Rattle.cpm_memory.specs.Frames.{Frames, Table, IsStoreSound, is_frame, pages_on, owners_of, used_by, used_of, memories}
use Rattle.cpm_memory.specs.Reserved.{room_at, unused_in}
use Rattle.cpm_memory.specs.Tabulated.{tabulated, tabulated_none, tabulated_more}
use Rattle.cpm_memory.proofs.Owners.{positives-le}
use Rattle.cpm_memory.proofs.Totals.{unused_in-tables}
use Rattle.cpm_slots.specs.declared.slots.Slot.{Slot}
use Rattle.cpm_slots.specs.Host.{SlotState}
use Rattle.cpm_slots.specs.HostWithStore.{unused_of}
use Rattle.cpm_slots.specs.Slots.{contents_at, slot_of, slots_of, AllSound}
use Rattle.cpm_slots.proofs.OpenSlots.{kept-set, slots-kept, AllSound-kept}
use Rattle.cpm_slots.proofs.TableLaws.{taken-within, some-contents}

-- ---- sums over numbers

-- the sum of f k for each k below n
abbrev total : ℕ → (ℕ → ℕ) → ℕ
total zero f = 0
total (suc n) f = total n f + f n

sum-tabulated : (n : ℕ) (f : ℕ → ℕ) → sum (tabulated n f) ≡ total n f
sum-tabulated zero f = ap sum (tabulated_none f)
sum-tabulated (suc n) f =
    let up : suc n ≡ n + 1 = omega arith in
    ap (λ k. sum (tabulated k f)) up ∙ ap sum (tabulated_more n f) ∙ sum_by-append (λ (x : ℕ). x) (tabulated n f) (f n ∷ []) ∙ omega (arith, sum-tabulated n f, sum_by-cons (λ (x : ℕ). x) (f n) [])

total-same : (n : ℕ) (f g : ℕ → ℕ) → ((k : ℕ) → f k ≡ g k) → total n f ≡ total n g
total-same zero f g h = refl
total-same (suc n) f g h = omega (arith, total-same n f g h, h n)

total-add : (n : ℕ) (f g : ℕ → ℕ) → total n (λ k. f k + g k) ≡ total n f + total n g
total-add zero f g = refl
total-add (suc n) f g = omega (arith, total-add n f g)

total-none : (n : ℕ) → total n (λ _. 0) ≡ 0
total-none zero = refl
total-none (suc n) = omega (arith, total-none n)

-- ---- the frames that tables name

abbrev bit : ℕ → Option ℕ → ℕ
bit g place = cond {A = ℕ} (is_frame g place) 1 0

one-bit : (b : Bool) → cond {A = ℕ} b 1 0 ≤ 1
one-bit true = omega arith
one-bit false = omega arith

no-bit : (f n : ℕ) → f ≢ n → bit n (Some f) ≡ 0
no-bit f n ne = let e : (f == n) ≡ false = grind (arith, nat_tests) in ap (λ b. cond {A = ℕ} b 1 0) e

-- a page names one frame at most
one-frame : (n f : ℕ) → (total n (λ g. bit g (Some f)) ≤ 1) × (n ≤ f → total n (λ g. bit g (Some f)) ≡ 0)
one-frame zero f = (omega arith, λ _. refl)
one-frame (suc n) f =
    let rest = one-frame n f in
    let most = rest.0 in
    ⊎_elim
    (λ (q : f ≡ n).
    let none = rest.1 (omega arith) in
    let one = one-bit (is_frame n (Some f)) in
    (omega (arith, none, one), λ l. omega arith))
    (λ (q : f ≢ n).
    let none = no-bit f n q in
    (omega (arith, most, none), λ l. let before = rest.1 (omega arith) in omega (arith, before, none)))
    (cases_eq f n)

frames-of_page : (n : ℕ) (place : Option ℕ) → total n (λ g. bit g place) ≤ cond {A = ℕ} (is_some place) 1 0
frames-of_page n None = omega (arith, total-none n)
frames-of_page n (Some f) = (one-frame n f).0

frames-of_table : (n : ℕ) (places : List (Option ℕ)) → total n (λ g. count_by (is_frame g) places) ≤ count_by is_some places
frames-of_table n [] = omega (arith, total-none n)
frames-of_table n (p ∷ ps) = omega (
  arith,
  total-same n (λ g. count_by (is_frame g) (p ∷ ps)) (λ g. bit g p + count_by (is_frame g) ps) (λ g. sum_by-cons (λ (x : Option ℕ). cond {A = ℕ} (is_frame g x) 1 0) p ps),
  total-add n (λ g. bit g p) (λ g. count_by (is_frame g) ps),
  sum_by-cons (λ (x : Option ℕ). cond {A = ℕ} (is_some x) 1 0) p ps,
  frames-of_page n p,
  frames-of_table n ps,
)

frames-of_tables : (n : ℕ) (tables : List Table) → total n (λ g. sum_by (pages_on g) tables) ≤ sum_by used_by tables
frames-of_tables n [] = omega (arith, total-none n)
frames-of_tables n (t ∷ ts) = omega (
  arith,
  total-same n (λ g. sum_by (pages_on g) (t ∷ ts)) (λ g. pages_on g t + sum_by (pages_on g) ts) (λ g. sum_by-cons (pages_on g) t ts),
  total-add n (λ g. pages_on g t) (λ g. sum_by (pages_on g) ts),
  sum_by-cons used_by t ts,
  frames-of_table n t.places,
  frames-of_tables n ts,
)

-- no more frames are named than pages are made of private ones
used-le : (s : Frames) → used_of s ≤ sum_by used_by s.tables
used-le s = omega (arith, positives-le (tabulated s.private (owners_of s)), sum-tabulated s.private (owners_of s), frames-of_tables s.private s.tables)

-- ---- what the slots may still write

abbrev room_in : SlotState → ℕ
room_in x = room_of x.state.memory

unused-slots : (m : List (Option Contents)) (slots : List Slot) → AllSound m slots → unused_of (slots_of m slots) ≤ unused_in m
unused-slots m [] k = let none : unused_of (slots_of m []) ≡ 0 = refl in omega arith
unused-slots m (x ∷ xs) k =
    let rest = set m x.table None in
    let kept = kept-set x.table m None in
    let same : unused_of (slots_of rest xs) ≡ unused_of (slots_of m xs) = ap unused_of (slots-kept x.table m rest xs kept k.2) in
    let fewer : unused_of (slots_of rest xs) ≤ unused_in rest = unused-slots rest xs (AllSound-kept x.table m rest xs kept k.2 k.3) in
    let own : room_at (get_or m x.table None) ≡ room_of (contents_at m x.table) = ap room_at (some-contents m x.table k.0) in
    let all = sum_by-set room_at m x.table None None (taken-within m x.table k.0) in
    let slots = sum_by-cons room_in (slot_of m x) (slots_of m xs) in
    omega (arith, same, fewer, own, all, slots)

pub free-frames : (s : Frames) (slots : List Slot) → IsStoreSound s → AllSound (memories s) slots → used_of s + unused_of (slots_of (memories s) slots) ≤ s.private
free-frames s slots ok k = omega (arith, used-le s, unused_in-tables s ok, ok.reserved, unused-slots (memories s) slots k)
