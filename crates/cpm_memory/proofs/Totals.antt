-- What tables have reserved and used, counted over their memories.
use Rattle.std.proofs.Common.{◌≡◌, ℕ, suc, ◌+◌, ◌-◌, ◌<◌, ◌≤◌, cond, List, [], ◌∷◌, length, get_or, sum_by, count_by, refl, arith, ap, sym, ◌∙◌, Option, Some, None, is_some, unwrap_or, option_map}
use Rattle.std.proofs.lemmas.List.Sums.{sum_by-cons}
use Rattle.cpm_memory.specs.Contents.{Contents, touched_of}
use Rattle.cpm_memory.specs.Tabulated.{length-tabulated, get_or-tabulated}
use Rattle.cpm_memory.specs.Frames.{Frames, Table, IsStoreSound, blank_table, table_at, memory_of, memory_at, memories, is_table_taken, used_by, reserved_by, reserved_of}
use Rattle.cpm_memory.specs.Memories.{touched_of-table}
use Rattle.cpm_memory.specs.Reserved.{limit_at, touched_at, room_at, taken_in, reserved_in, touched_in, unused_in}

-- two sums are equal where their terms are
pub same_sum : {X Y : Type 0} (f : X → ℕ) (h : Y → ℕ) (xs : List X) (ys : List Y) (d : X) (e : Y) → length xs ≡ length ys → ((k : ℕ) → k < length xs → f (get_or xs k d) ≡ h (get_or ys k e)) → sum_by f xs ≡ sum_by h ys
same_sum f h [] [] d e l same = refl
same_sum f h [] (y ∷ ys) d e l same = absurd (omega (arith, l))
same_sum f h (x ∷ xs) [] d e l same = absurd (omega (arith, l))
same_sum f h (x ∷ xs) (y ∷ ys) d e l same =
    omega (arith, sum_by-cons f x xs, sum_by-cons h y ys, same 0 (omega arith), same_sum f h xs ys d e (omega (arith, l)) (λ k m. same (suc k) (omega (arith, m))))

module _ (s : Frames) (ok : IsStoreSound s) where
  -- a sum over the memories is one over the tables
  over_tables : (f : Option Contents → ℕ) (h : Table → ℕ) → ((k : ℕ) → k < 64 → f (memory_at s k) ≡ h (table_at s k)) → sum_by f (memories s) ≡ sum_by h s.tables
  over_tables f h same =
      same_sum f h (memories s) s.tables None blank_table (length-tabulated 64 (memory_at s) ∙ sym ok.tables)
      (λ k l. ap f (get_or-tabulated 64 (memory_at s) k None (omega (arith, l, length-tabulated 64 (memory_at s)))) ∙ same k (omega (arith, l, length-tabulated 64 (memory_at s))))

  taken-at : (c : Contents) (o : Option ℕ) → cond {A = ℕ} (is_some (option_map (λ _. c) o)) 1 0 ≡ cond {A = ℕ} (is_some o) 1 0
  taken-at c None = refl
  taken-at c (Some n) = refl

  pub taken_in-tables : taken_in (memories s) ≡ count_by is_table_taken s.tables
  taken_in-tables =
      over_tables (λ m. cond {A = ℕ} (is_some m) 1 0) (λ t. cond {A = ℕ} (is_table_taken t) 1 0) (λ k _. taken-at (memory_of s k) (table_at s k).reservation)

  limit-at : (c : Contents) (o : Option ℕ) → c.limit ≡ unwrap_or o 0 → limit_at (option_map (λ _. c) o) ≡ unwrap_or o 0
  limit-at c None e = refl
  limit-at c (Some n) e = e

  pub reserved_in-tables : reserved_in (memories s) ≡ reserved_of s
  reserved_in-tables = over_tables limit_at reserved_by (λ k _. limit-at (memory_of s k) (table_at s k).reservation refl)

  touched-at : (c : Contents) (o : Option ℕ) (n : ℕ) → touched_of c ≡ n → (o ≡ None → n ≡ 0) → touched_at (option_map (λ _. c) o) ≡ n
  touched-at c None n e blank = sym (blank refl)
  touched-at c (Some m) n e blank = e

  pub touched_in-tables : touched_in (memories s) ≡ sum_by used_by s.tables
  touched_in-tables = over_tables touched_at used_by (λ k _. touched-at (memory_of s k) (table_at s k).reservation (used_by (table_at s k)) (touched_of-table s k) (ok.blank k))

  room-at : (c : Contents) (o : Option ℕ) (n : ℕ) → c.limit ≡ unwrap_or o 0 → touched_of c ≡ n → room_at (option_map (λ _. c) o) ≡ unwrap_or o 0 - n
  room-at c None n l e = omega arith
  room-at c (Some m) n l e = omega (arith, l, e)

  -- what is used and what is left make what is reserved
  pub unused_in-tables : unused_in (memories s) + sum_by used_by s.tables ≡ reserved_of s
  unused_in-tables = omega (
    arith,
    over_tables room_at (λ t. reserved_by t - used_by t) (λ k _. room-at (memory_of s k) (table_at s k).reservation (used_by (table_at s k)) refl (touched_of-table s k)),
    both,
  )
    where
      pairs : (xs : List Table) → ((k : ℕ) → used_by (get_or xs k blank_table) ≤ reserved_by (get_or xs k blank_table)) → sum_by (λ t. reserved_by t - used_by t) xs + sum_by used_by xs ≡ sum_by reserved_by xs
      pairs [] h = refl
      pairs (x ∷ xs) h = omega (arith, sum_by-cons (λ (t : Table). reserved_by t - used_by t) x xs, sum_by-cons used_by x xs, sum_by-cons reserved_by x xs, h 0, pairs xs (λ k. h (suc k)))

      both : sum_by (λ t. reserved_by t - used_by t) s.tables + sum_by used_by s.tables ≡ sum_by reserved_by s.tables
      both = pairs s.tables ok.within
