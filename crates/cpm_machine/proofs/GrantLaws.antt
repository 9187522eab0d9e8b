-- The greatest number of steps.
use Rattle.std.proofs.Common.{◌≡◌, ℕ, zero, suc, ◌+◌, ◌-◌, ◌<◌, Bool, true, false, ◌&&◌, ◌==◌, refl, sym, ap, ◌∙◌, arith, if◌then◌else◌, subst, ⊎_elim, add-zero}
use Rattle.std.proofs.lemmas.Bool.Decides.{nat_tests}
use Rattle.std.proofs.lemmas.Bool.{cases_lt}
use Rattle.std.proofs.Math.Nat.{add-suc}
use Rattle.cpm_geom.specs.Disk.{Disk}
use Rattle.cpm_machine.specs.MachineState.{MachineState}
use Rattle.cpm_machine.specs.Step.{step, after, can_step}
use Rattle.cpm_machine.specs.Serve.{longest, executed}
use Rattle.cpm_machine.specs.Laws.{IsLongest}

longest-more : (test : ℕ → Bool) (n k : ℕ) → IsLongest test n k → (b : Bool) → (k == n) ≡ b → (t : Bool) → test n ≡ t → IsLongest test (suc n) (if b && t then suc n else k)
longest-more test n k h true e true f =
    let same : k ≡ n = grind (arith, nat_tests) in
    let last : (i : ℕ) → i < suc n → test i ≡ true = λ i below. ⊎_elim (λ lt. h.each i (omega arith)) (λ ge. let at : i ≡ n = omega arith in rw at f) (cases_lt i n) in
    record { within = omega arith; each = last; greatest = λ below. absurd (omega arith) }
longest-more test n k h true e false f =
    let same : k ≡ n = grind (arith, nat_tests) in
    let within = h.within in
    record { within = omega arith; each = h.each; greatest = λ below. rw same f }
longest-more test n k h false e t f =
    let other : k ≡ n → ⊥ = λ same. grind (arith, nat_tests) in
    let within = h.within in
    record { within = omega arith; each = h.each; greatest = λ below. h.greatest (omega (arith, other)) }

pub longest-is : (test : ℕ → Bool) (n : ℕ) → IsLongest test n (longest test n)
longest-is test zero = record { within = omega arith; each = λ i h. absurd (omega arith); greatest = λ h. absurd (omega arith) }
longest-is test (suc n) = longest-more test n (longest test n) (longest-is test n) (longest test n == n) refl (test n) refl

-- there is only one such number
pub longest-unique : (test : ℕ → Bool) (n k l : ℕ) → IsLongest test n k → IsLongest test n l → k ≡ l
longest-unique test n k l h g =
    let no : k < l → ⊥ = λ lt. let t : test k ≡ true = g.each k lt in let w = g.within in let f : test k ≡ false = h.greatest (omega arith) in cc in
    let on : l < k → ⊥ = λ lt. let t : test l ≡ true = h.each l lt in let w = h.within in let f : test l ≡ false = g.greatest (omega arith) in cc in
    omega (arith, no, on)

pub after-add : (system : Disk) (k l : ℕ) (s : MachineState) → after system (k + l) s ≡ after system l (after system k s)
after-add system k zero s = ap (λ n. after system n s) (add-zero k)
after-add system k (suc l) s = ap (λ n. after system n s) (add-suc k l) ∙ ap (step system) (after-add system k l s)

-- two runs, the second from where the first ended, are one
longest-add : (p q : ℕ → Bool) (a b k l : ℕ) → ((i : ℕ) → q i ≡ p (k + i)) → IsLongest p a k → IsLongest q b l → IsLongest p (a + b) (k + l)
longest-add p q a b k l shift h g =
    let hw = h.within in
    let gw = g.within in
    record {
      within = omega arith;
      each = λ i below. ⊎_elim (λ lt. h.each i lt)
          (λ ge.
          let at : k + (i - k) ≡ i = omega arith in
          let t : p (k + (i - k)) ≡ true = sym (shift (i - k)) ∙ g.each (i - k) (omega arith) in
          let P : ℕ → Type 0 = λ j. p j ≡ true in subst P at t)
          (cases_lt i k);
      greatest = λ below. ⊎_elim (λ lt. sym (shift l) ∙ g.greatest lt)
          (λ ge.
          let stop : p k ≡ false = h.greatest (omega arith) in
          ⊎_elim (λ some.
          let go : p (k + 0) ≡ true = sym (shift 0) ∙ g.each 0 some in
          let P : ℕ → Type 0 = λ j. p j ≡ true in
          let both : p k ≡ true = subst P (add-zero k) go in cc)
          (λ none. let at : k ≡ k + l = omega arith in let P : ℕ → Type 0 = λ j. p j ≡ false in subst P at stop)
          (cases_lt 0 l))
          (cases_lt l b);
    }

-- cutting a grant changes nothing
pub cut : (system : Disk) (a b : ℕ) (s : MachineState) → executed system (a + b) s ≡ executed system a s + executed system b (after system (executed system a s) s)
unfolding executed
cut system a b s =
    let p : ℕ → Bool = λ k. can_step (after system k s) in
    let k = longest p a in
    let q : ℕ → Bool = λ i. can_step (after system i (after system k s)) in
    longest-unique p (a + b) (longest p (a + b)) (k + longest q b) (longest-is p (a + b))
    (longest-add p q a b k (longest q b) (λ i. ap can_step (sym (after-add system k i s))) (longest-is p a) (longest-is q b))

-- a grant of one step
executed-one : (system : Disk) (s : MachineState) → executed system 1 s ≡ (if can_step s then 1 else 0)
unfolding executed
executed-one system s = refl

by_one : (system : Disk) (b : Bool) (k : ℕ) (s : MachineState) → k ≡ (if b then 1 else 0) → ((k == 1) ≡ b) × (after system k s ≡ (if k == 1 then step system s else s))
by_one system true k s e = rw e (refl, refl)
by_one system false k s e = rw e (refl, refl)

pub one_step : (system : Disk) (k : ℕ) (s : MachineState) → k ≡ executed system 1 s → ((k == 1) ≡ can_step s) × (after system k s ≡ (if k == 1 then step system s else s))
one_step system k s e = by_one system (can_step s) k s (e ∙ executed-one system s)
