-- The keys that come to a session that goes on from where another one stands, and what the keys that don't come change.
use Rattle.std.proofs.Common.{◌≡◌, ◌∙◌, ◌+◌, ◌-◌, ◌<◌, ◌≤◌, ◌&&◌, ◌++◌, nat_lt, ℕ, Bool, true, false, ◌⊎◌, inl, inr, List, [], ◌∷◌, refl, sym, ap, ap₂, arith, append-nil, append_assoc, if◌then◌else◌}
use Rattle.std.proofs.lemmas.Bool.Decides.{nat_tests}
use Rattle.cpm_geom.specs.Disk.{Disk}
use Rattle.cpm_machine.specs.Alone.{alone}
use Rattle.cpm_machine.specs.Calls.{state_behind}
use Rattle.cpm_machine.specs.MachineState.{MachineState}
use Rattle.cpm_play.specs.Live.{AreBy}
use Rattle.cpm_play.specs.Pacing.{HaveComeAfter}
use Rattle.cpm_play.specs.Playing.{IsInOrder, alone_by, coming_after, coming_keys, presses_of, runs_at, state_left}
use Rattle.cpm_play.proofs.AloneLemmas.{alone-ended, alone-taken, keyless, keyless-ended, none-due, presses-append}
use Rattle.cpm_run.specs.Laws.{later_keys}
use Rattle.cpm_run.proofs.LaterLemmas.{less-later, left_on, runs_on}
use Rattle.cpm_script.specs.declared.script.Key.{Key}

-- ---- keys that come behind others that have come

come-first : (system : Disk) (start : MachineState) (steps : ℕ) (given early rest : List Key) → HaveComeAfter system start steps given early →
    coming_after system start steps given (early ++ rest) ≡ early ++ coming_after system start steps (given ++ early) rest
come-first system start steps given [] rest come = ap (λ ks. coming_after system start steps ks rest) (sym (append-nil given))
come-first system start steps given (k ∷ early) rest come =
    let soon : nat_lt k.count steps ≡ true = let low = come.0 in grind (arith, nat_tests) in
    rw (soon, come.1)
    (ap (λ ks. k ∷ ks) (come-first system start steps (given ++ k ∷ []) early rest come.2 ∙ ap (λ ks. early ++ coming_after system start steps ks rest) (append_assoc given (k ∷ []) early)))

pub later-more : (n : ℕ) (given : List Key) (k : Key) → later_keys n (given ++ k ∷ []) ≡ later_keys n given ++ record { count = n + k.count; byte = k.byte } ∷ []
later-more n [] k = refl
later-more n (x ∷ given) k = ap (λ (ks : List Key). record { count = n + x.count; byte = x.byte } ∷ ks) (later-more n given k)

module _ (system : Disk) (early : List Key) (n : ℕ) (console list : List ℕ) (start saved : MachineState) (by : AreBy n early)
    (same : state_behind console list saved ≡ alone_by system early n start) where
  -- those that come behind the saving are the same, so many steps later
  come-later : (m : ℕ) (given keys : List Key) →
      coming_after system start (n + m) (early ++ later_keys n given) (later_keys n keys) ≡ later_keys n (coming_after system saved m given keys)
  come-later m given [] = refl
  come-later m given (k ∷ keys) =
      let late : Key = record { count = n + k.count; byte = k.byte } in
      let in_time : nat_lt (n + k.count) (n + m) ≡ nat_lt k.count m = less-later n k.count m in
      let runs : runs_at system start (early ++ later_keys n given) (n + k.count) ≡ runs_at system saved given k.count =
      runs_on system early n console list start saved by same given k.count in
      let next : (early ++ later_keys n given) ++ late ∷ [] ≡ early ++ later_keys n (given ++ k ∷ []) =
      append_assoc early (later_keys n given) (late ∷ []) ∙ ap (λ ks. early ++ ks) (sym (later-more n given k)) in
      let rest : coming_after system start (n + m) ((early ++ later_keys n given) ++ late ∷ []) (later_keys n keys) ≡ later_keys n (coming_after system saved m (given ++ k ∷ []) keys) =
      ap (λ ks. coming_after system start (n + m) ks (later_keys n keys)) next ∙ come-later m (given ++ k ∷ []) keys in
      by_test (nat_lt k.count m && runs_at system saved given k.count)
      (nat_lt (n + k.count) (n + m) && runs_at system start (early ++ later_keys n given) (n + k.count)) (ap₂ (λ (a b : Bool). a && b) in_time runs)
      (coming_after system start (n + m) ((early ++ later_keys n given) ++ late ∷ []) (later_keys n keys)) (coming_after system saved m (given ++ k ∷ []) keys) rest
    where
      by_test : (b c : Bool) → c ≡ b → (xs ys : List Key) → xs ≡ later_keys n ys →
          (if c then record { count = n + k.count; byte = k.byte } ∷ xs else []) ≡ later_keys n (if b then k ∷ ys else [])
      by_test b c is xs ys rest = rw is (go b)
        where
          go : (b : Bool) → (if b then record { count = n + k.count; byte = k.byte } ∷ xs else []) ≡ later_keys n (if b then k ∷ ys else [])
          go true = ap (λ (ks : List Key). record { count = n + k.count; byte = k.byte } ∷ ks) rest
          go false = refl

  pub coming_on : (m : ℕ) (later : List Key) → HaveComeAfter system start (n + m) [] early →
      coming_keys system start (n + m) (early ++ later_keys n later) ≡ early ++ later_keys n (coming_keys system saved m later)
  coming_on m later come =
      come-first system start (n + m) [] early (later_keys n later) come
      ∙ ap (λ ks. early ++ coming_after system start (n + m) ks (later_keys n later)) (sym (append-nil early))
      ∙ ap (λ ks. early ++ ks) (come-later m [] later)

  -- what is left by the keys that come
  pub left_by_coming : (m : ℕ) (later : List Key) → HaveComeAfter system start (n + m) [] early →
      state_left system (coming_keys system start (n + m) (early ++ later_keys n later)) (n + m) start ≡ state_left system (coming_keys system saved m later) m saved
  left_by_coming m later come =
      ap (λ ks. state_left system ks (n + m) start) (coming_on m later come)
      ∙ left_on system early n console list start saved by same (coming_keys system saved m later) m

-- ---- keys that don't come

-- those that come do so within the steps
pub coming_by : (system : Disk) (start : MachineState) (steps : ℕ) (given keys : List Key) → AreBy steps (coming_after system start steps given keys)
coming_by system start steps given [] = tt
coming_by system start steps given (k ∷ keys) =
    by_test (nat_lt k.count steps) (runs_at system start given k.count) refl (coming_by system start steps (given ++ k ∷ []) keys)
  where
    by_test : (a b : Bool) → nat_lt k.count steps ≡ a → AreBy steps (coming_after system start steps (given ++ k ∷ []) keys) →
        AreBy steps (if a && b then k ∷ coming_after system start steps (given ++ k ∷ []) keys else [])
    by_test true true e rest = (let less : k.count < steps = grind (arith, nat_tests) in omega arith, rest)
    by_test true false e rest = tt
    by_test false b e rest = tt

module _ (system : Disk) (start : MachineState) (steps : ℕ) where
  -- keys behind a count make no difference so far, but that they may be pending
  keys_later : (n : ℕ) (given keys : List Key) → IsInOrder n keys → keyless (alone_by system (given ++ keys) n start) ≡ keyless (alone_by system given n start)
  keys_later n given keys order =
      ap (λ ps. keyless (alone system ps n start)) (presses-append given keys)
      ∙ alone-taken system (presses_of given) (presses_of keys) n start (λ i less. none-due n i keys order less)

  -- after its end a machine takes no key
  ended_before : (given : List Key) (k : Key) (keys : List Key) (d : ℕ) → k.count + d ≡ steps → IsInOrder k.count keys → runs_at system start given k.count ≡ false →
      keyless (alone_by system (given ++ k ∷ keys) steps start) ≡ keyless (alone_by system given steps start)
  ended_before given k keys d is order ended =
      let there : keyless (alone_by system (given ++ k ∷ keys) k.count start) ≡ keyless (alone_by system given k.count start) = keys_later k.count given (k ∷ keys) (omega arith, order) in
      ap (λ m. keyless (alone_by system (given ++ k ∷ keys) m start)) (sym is)
      ∙ alone-ended system (presses_of (given ++ k ∷ keys)) k.count d start (keyless-ended (alone_by system (given ++ k ∷ keys) k.count start) (alone_by system given k.count start) there ended)
      ∙ there ∙ sym (alone-ended system (presses_of given) k.count d start ended)
      ∙ ap (λ m. keyless (alone_by system given m start)) is

  -- one that doesn't come, and those behind it
  comes_late : (given : List Key) (k : Key) (keys : List Key) → IsInOrder k.count keys → steps ≤ k.count →
      keyless (alone_by system (given ++ k ∷ keys) steps start) ≡ keyless (alone_by system given steps start)
  comes_late given k keys order late = keys_later steps given (k ∷ keys) (late, order)

  not_come : (given : List Key) (k : Key) (keys : List Key) → IsInOrder k.count keys → (nat_lt k.count steps ≡ false) ⊎ (runs_at system start given k.count ≡ false) →
      keyless (alone_by system (given ++ k ∷ keys) steps start) ≡ keyless (alone_by system (given ++ []) steps start)
  not_come given k keys order why = by_case why ∙ ap (λ ks. keyless (alone_by system ks steps start)) (sym (append-nil given))
    where
      by_test : (b : Bool) → nat_lt k.count steps ≡ b → runs_at system start given k.count ≡ false → keyless (alone_by system (given ++ k ∷ keys) steps start) ≡ keyless (alone_by system given steps start)
      by_test true e ended = ended_before given k keys (steps - k.count) (let less : k.count < steps = grind (arith, nat_tests) in omega arith) order ended
      by_test false e ended = comes_late given k keys order (grind (arith, nat_tests))

      by_case : (nat_lt k.count steps ≡ false) ⊎ (runs_at system start given k.count ≡ false) → keyless (alone_by system (given ++ k ∷ keys) steps start) ≡ keyless (alone_by system given steps start)
      by_case (inl late) = comes_late given k keys order (grind (arith, nat_tests))
      by_case (inr ended) = by_test (nat_lt k.count steps) refl ended

  coming_same : (low : ℕ) (given keys : List Key) → IsInOrder low keys →
      keyless (alone_by system (given ++ keys) steps start) ≡ keyless (alone_by system (given ++ coming_after system start steps given keys) steps start)
  coming_same low given [] order = refl
  coming_same low given (k ∷ keys) order =
      by_test (nat_lt k.count steps) (runs_at system start given k.count) refl refl
      (ap (λ ks. keyless (alone_by system ks steps start)) (sym (append_assoc given (k ∷ []) keys))
      ∙ coming_same k.count (given ++ k ∷ []) keys order.1
      ∙ ap (λ ks. keyless (alone_by system ks steps start)) (append_assoc given (k ∷ []) (coming_after system start steps (given ++ k ∷ []) keys)))
    where
      by_test : (a b : Bool) → nat_lt k.count steps ≡ a → runs_at system start given k.count ≡ b →
          keyless (alone_by system (given ++ k ∷ keys) steps start) ≡ keyless (alone_by system (given ++ k ∷ coming_after system start steps (given ++ k ∷ []) keys) steps start) →
          keyless (alone_by system (given ++ k ∷ keys) steps start)
          ≡ keyless (alone_by system (given ++ (if a && b then k ∷ coming_after system start steps (given ++ k ∷ []) keys else [])) steps start)
      by_test true true e f more = more
      by_test true false e f more = not_come given k keys order.1 (inr f)
      by_test false b e f more = not_come given k keys order.1 (inl e)

  -- but for pending keys all keys do as those that come
  pub coming_enough : (keys : List Key) → IsInOrder 0 keys → keyless (alone_by system keys steps start) ≡ keyless (alone_by system (coming_keys system start steps keys) steps start)
  coming_enough keys order = coming_same 0 [] keys order
