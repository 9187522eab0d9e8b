-- A new store is in order.
use Rattle.std.proofs.Common.{◌≡◌, ◌≢◌, ℕ, suc, ◌+◌, ◌<◌, ◌≤◌, Bool, true, false, cond, List, [], ◌∷◌, ◌++◌, length, get_or, sum, sum_by, replicate, refl, arith, ap, sym, ◌∙◌, Option, Some, None, is_some, unwrap_or, option_map, ⊎_elim, eqb}
use Rattle.std.proofs.lemmas.List.{get_or_push, get_or_append_left, length_push, get_or-replicate, length-replicate, get_or_past}
use Rattle.std.proofs.lemmas.List.Sums.{sum_by-cons, sum_by-le-sum_by}
use Rattle.std.proofs.lemmas.List.Folds.{sum_by-replicate}
use Rattle.std.proofs.lemmas.Bool.{cases_lt, cases_eq}
use Rattle.std.specs.Prelude.{◌==◌}
use Rattle.std.proofs.lemmas.Bool.Decides.{nat_tests}
use Rattle.cpm_memory.specs.Opening.{opening_byte, base_byte, jumps_byte}
use Rattle.cpm_memory.specs.DiskTables.{disk_table_byte}
use Rattle.cpm_memory.specs.Tabulated.{tabulated, length-tabulated, get_or-tabulated, same_as_tabulated, same_tabulated}
use Rattle.cpm_memory.specs.Frames.{Frames, Table, IsStoreSound, IsBlank, AreTablesStamps, AreNewFrames, blank_table, table_at, frame_of, boot_of, is_frame, pages_on, owners_of, used_by, reserved_by, reserved_of, memory_of, memory_at, memories}
use Rattle.cpm_memory.specs.Kept.{IsKept}
use Rattle.cpm_memory.proofs.Places.{owners_of-at}

-- a sum of zeros
zero_sum : {X : Type 0} (f : X → ℕ) (xs : List X) (d : X) → ((k : ℕ) → k < length xs → f (get_or xs k d) ≡ 0) → sum_by f xs ≡ 0
zero_sum f [] d h = refl
zero_sum f (x ∷ xs) d h = sum_by-cons f x xs ∙ omega (arith, h 0 (omega arith), zero_sum f xs d (λ k l. h (suc k) (omega arith)))

-- no frame has more pages than all have
named-le : (g : ℕ) (o : Option ℕ) → cond {A = ℕ} (is_frame g o) 1 0 ≤ cond (is_some o) 1 0
named-le g None = omega arith
named-le g (Some f) = bit-le (eqb f g)
  where
    bit-le : (b : Bool) → cond {A = ℕ} b 1 0 ≤ 1
    bit-le true = omega arith
    bit-le false = omega arith

pub owners_of-le : (s : Frames) (g : ℕ) → owners_of s g ≤ sum_by used_by s.tables
owners_of-le s g = sum_by-le-sum_by (pages_on g) used_by s.tables (λ t. sum_by-le-sum_by (λ o. cond {A = ℕ} (is_frame g o) 1 0) (λ o. cond {A = ℕ} (is_some o) 1 0) t.places (named-le g))

module _ (n : ℕ) (z b j d : List ℕ) (ez : z ≡ tabulated 256 (opening_byte 1)) (eb : b ≡ tabulated 256 (opening_byte 0)) (ej : j ≡ tabulated 256 (opening_byte 250)) (ed : d ≡ tabulated 256 (opening_byte 252)) where
  abbrev l0 : List (List ℕ)
  l0 = tabulated n (λ _. z)

  abbrev l1 : List (List ℕ)
  l1 = l0 ++ z ∷ []

  abbrev l2 : List (List ℕ)
  l2 = l1 ++ b ∷ []

  abbrev l3 : List (List ℕ)
  l3 = l2 ++ j ∷ []

  abbrev l4 : List (List ℕ)
  l4 = l3 ++ d ∷ []

  n0 : length l0 ≡ n
  n0 = length-tabulated n (λ _. z)

  n1 : length l1 ≡ n + 1
  n1 = omega (arith, length_push l0 z, n0)

  n2 : length l2 ≡ n + 2
  n2 = omega (arith, length_push l1 b, n1)

  n3 : length l3 ≡ n + 3
  n3 = omega (arith, length_push l2 j, n2)

  at0 : get_or l4 n [] ≡ z
  at0 = get_or_append_left l3 (d ∷ []) [] n (omega (arith, n3)) ∙ get_or_append_left l2 (j ∷ []) [] n (omega (arith, n2)) ∙ get_or_append_left l1 (b ∷ []) [] n (omega (arith, n1)) ∙ get_or_push l0 z [] n n0

  at1 : get_or l4 (n + 1) [] ≡ b
  at1 = get_or_append_left l3 (d ∷ []) [] (n + 1) (omega (arith, n3)) ∙ get_or_append_left l2 (j ∷ []) [] (n + 1) (omega (arith, n2)) ∙ get_or_push l1 b [] (n + 1) n1

  at2 : get_or l4 (n + 2) [] ≡ j
  at2 = get_or_append_left l3 (d ∷ []) [] (n + 2) (omega (arith, n3)) ∙ get_or_push l2 j [] (n + 2) n2

  at3 : get_or l4 (n + 3) [] ≡ d
  at3 = get_or_push l3 d [] (n + 3) n3

  before : (f : ℕ) → f < n → get_or l4 f [] ≡ z
  before f l = get_or_append_left l3 (d ∷ []) [] f (omega (arith, n3)) ∙ get_or_append_left l2 (j ∷ []) [] f (omega (arith, n2)) ∙ get_or_append_left l1 (b ∷ []) [] f (omega (arith, n1)) ∙ get_or_append_left l0 (z ∷ []) [] f (omega (arith, n0)) ∙ get_or-tabulated n (λ _. z) f [] l

  page-size : (xs : List ℕ) (page : ℕ) → xs ≡ tabulated 256 (opening_byte page) → length xs ≡ 256
  page-size xs page e = ap length e ∙ length-tabulated 256 (opening_byte page)

  sizes-new : (f : ℕ) → f < n + 4 → length (get_or l4 f []) ≡ 256
  sizes-new f l =
      ⊎_elim (λ (q : f < n). ap length (before f q) ∙ page-size z 1 ez)
      (λ (q : n ≤ f). ⊎_elim (λ (r : f ≡ n). ap (λ k. length (get_or l4 k [])) r ∙ ap length at0 ∙ page-size z 1 ez)
      (λ (r : f ≢ n). ⊎_elim (λ (u : f ≡ n + 1). ap (λ k. length (get_or l4 k [])) u ∙ ap length at1 ∙ page-size b 0 eb)
      (λ (u : f ≢ n + 1). ⊎_elim (λ (v : f ≡ n + 2). ap (λ k. length (get_or l4 k [])) v ∙ ap length at2 ∙ page-size j 250 ej)
      (λ (v : f ≢ n + 2). ap (λ k. length (get_or l4 k [])) (last f l q r u v) ∙ ap length at3 ∙ page-size d 252 ed)
      (cases_eq f (n + 2)))
      (cases_eq f (n + 1)))
      (cases_eq f n))
      (cases_lt f n)
    where
      last : (f : ℕ) → f < n + 4 → n ≤ f → f ≢ n → f ≢ n + 1 → f ≢ n + 2 → f ≡ n + 3
      last f l q r u v = omega arith

  pub AreNewFrames-from : AreNewFrames l4 n
  AreNewFrames-from = record {
    count = omega (arith, length_push l3 d, n3);
    sizes = sizes-new;
    zeros = at0 ∙ ez;
    base = at1 ∙ eb;
    jumps = at2 ∙ ej;
    disks = at3 ∙ ed;
  }

plus-zero : (n : ℕ) → n + 0 ≡ n
plus-zero n = omega arith

boot-others : (page : ℕ) → page ≢ 0 → page ≢ 250 → page ≢ 252 → boot_of page ≡ 0
boot-others page a b c = grind arith

no_page : (p q r : Bool) (x y z : ℕ) → p ≡ false → q ≡ false → r ≡ false → cond p x (cond q y (cond r z 0)) ≡ 0
no_page p q r x y z a b c = rw (a, b, c) refl

-- the other pages are zeros at opening
pub blank-page : (page k : ℕ) → page ≢ 0 → page ≢ 250 → page ≢ 252 → opening_byte 1 k ≡ opening_byte page k
unfolding opening_byte
blank-page page k a b c =
    sym (no_page (page == 0) (page == 250) (page == 252) (base_byte k) (jumps_byte k) (disk_table_byte k) (grind (arith, nat_tests)) (grind (arith, nat_tests)) (grind (arith, nat_tests)))

module _ (s : Frames) (most : s.private ≤ 16384) (new : AreNewFrames s.frames s.private) (count : length s.tables ≡ 64) (blank : (k : ℕ) → k < 64 → IsBlank (table_at s k)) (stamped : AreTablesStamps s.stamps) where
  none_used : sum_by used_by s.tables ≡ 0
  none_used = zero_sum used_by s.tables blank_table (λ k l. (blank k (omega (arith, count, l))).used)

  none_reserved : reserved_of s ≡ 0
  none_reserved = zero_sum reserved_by s.tables blank_table (λ k l. ap (λ o. unwrap_or o 0) (blank k (omega (arith, count, l))).reservation)

  no_owner : (g : ℕ) → owners_of s g ≡ 0
  no_owner g = omega (arith, owners_of-le s g, none_used)

  no_reservation : (t : ℕ) → (table_at s t).reservation ≡ None
  no_reservation t =
      ⊎_elim (λ (q : t < 64). (blank t q).reservation)
      (λ (q : 64 ≤ t). ap (λ (x : Table). x.reservation) (get_or_past s.tables t blank_table (omega (arith, count))))
      (cases_lt t 64)

  no_pages : (t : ℕ) → used_by (table_at s t) ≡ 0
  no_pages t =
      ⊎_elim (λ (q : t < 64). (blank t q).used)
      (λ (q : 64 ≤ t). ap used_by (get_or_past s.tables t blank_table (omega (arith, count))))
      (cases_lt t 64)

  at : (p f k : ℕ) → k < 256 → frame_of s f ≡ tabulated 256 (opening_byte p) → get_or (frame_of s f) k 0 ≡ opening_byte p k
  at p f k l e = ap (λ xs. get_or xs k 0) e ∙ get_or-tabulated 256 (opening_byte p) k 0 l

  -- a page's boot frame, where it is known which
  boot-at : (page k p b : ℕ) → k < 256 → boot_of page ≡ b → frame_of s (s.private + b) ≡ tabulated 256 (opening_byte p) → opening_byte p k ≡ opening_byte page k → get_or (frame_of s (s.private + boot_of page)) k 0 ≡ opening_byte page k
  boot-at page k p b l e bytes same = ap (λ n. get_or (frame_of s (s.private + n)) k 0) e ∙ at p (s.private + b) k l bytes ∙ same

  boots : (page k : ℕ) → k < 256 → get_or (frame_of s (s.private + boot_of page)) k 0 ≡ opening_byte page k
  boots page k l =
      ⊎_elim (λ (q : page ≡ 0). boot-at page k 0 1 l (ap boot_of q) new.base (ap (λ p. opening_byte p k) (sym q)))
      (λ (q : page ≢ 0). ⊎_elim (λ (r : page ≡ 250). boot-at page k 250 2 l (ap boot_of r) new.jumps (ap (λ p. opening_byte p k) (sym r)))
      (λ (r : page ≢ 250). ⊎_elim (λ (u : page ≡ 252). boot-at page k 252 3 l (ap boot_of u) new.disks (ap (λ p. opening_byte p k) (sym u)))
      (λ (u : page ≢ 252). boot-at page k 1 0 l (boot-others page q r u) (ap (frame_of s) (plus-zero s.private) ∙ new.zeros) (blank-page page k q r u))
      (cases_eq page 252))
      (cases_eq page 250))
      (cases_eq page 0)

  pub IsSound-new : IsStoreSound s
  IsSound-new = record {
    bound = most;
    tables = count;
    frames = new.count;
    sizes = new.sizes;
    boot = λ page k _ l. boots page k l;
    pages = λ t l. (blank t l).pages;
    numbers = λ t page f e. absurd (omega (arith, owners_of-at s t page f e, no_owner f));
    blank = λ t _. no_pages t;
    within = λ t. omega (arith, no_pages t);
    limits = λ t. omega (arith, ap (λ o. unwrap_or o 0) (no_reservation t));
    stamped = stamped;
    reserved = omega (arith, none_reserved);
  }

  pub IsKept-new : (counts : List ℕ) → counts ≡ replicate s.private 0 → IsKept s counts 0
  IsKept-new counts e = record {
    sound = IsSound-new;
    owners = same_as_tabulated s.private (owners_of s) counts 0 (ap length e ∙ length-replicate s.private 0) (λ k l. ap (λ xs. get_or xs k 0) e ∙ get_or-replicate s.private k 0 0 l ∙ sym (no_owner k));
    total = ap sum e ∙ omega (arith, sum_by-replicate (λ (x : ℕ). x) s.private 0, none_used);
    reserved = sym none_reserved;
  }

  pub memories-new : memories s ≡ tabulated 64 (λ _. None)
  memories-new = same_tabulated 64 (memory_at s) (λ _. None) None (λ k l. ap (λ o. option_map (λ _. memory_of s k) o) (no_reservation k))
