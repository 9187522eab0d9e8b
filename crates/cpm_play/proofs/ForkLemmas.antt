-- A session that goes on as the one that it was forked from.
use Rattle.std.proofs.Common.{◌≡◌, ℕ, zero, suc, ◌≤◌, nat_lt, Bool, true, false, List, [], ◌∷◌, ◌++◌, length, take, drop, refl, sym, ap, ◌∙◌, subst, arith, inl, if◌then◌else◌}
use Rattle.std.proofs.lemmas.Bool.Decides.{nat_tests}
use Rattle.cpm_geom.specs.Disk.{Disk}
use Rattle.cpm_script.specs.declared.script.Key.{Key}
use Rattle.cpm_script.specs.Fork.{keys_before}
use Rattle.cpm_machine.specs.Alone.{Press, alone, due}
use Rattle.cpm_machine.specs.MachineState.{MachineState}
use Rattle.cpm_slots.proofs.OrderLaws.{quota-after}
use Rattle.cpm_play.specs.declared.pace.Pace.{Pace}
use Rattle.cpm_play.specs.Pacing.{forked_pace, HaveComeAfter, IsOn}
use Rattle.cpm_play.specs.Playing.{presses_of, IsInOrder}
use Rattle.cpm_play.specs.Players.{AllBefore}

-- ---- the keys before a fork

-- those that were pressed are among them
taken-before : (at n : ℕ) (keys own : List Key) → AllBefore at (take n keys) → n ≤ length keys → take n (keys_before at keys ++ own) ≡ take n keys
taken-before at zero keys own before within = refl
taken-before at (suc n) [] own before within = absurd (let no : ⊥ = omega (arith, within) in no)
taken-before at (suc n) (k ∷ ks) own before within =
    let early : nat_lt k.count at ≡ true = let first = before.0 in grind (arith, nat_tests) in
    rw early (ap (λ xs. k ∷ xs) (taken-before at n ks own before.1 (omega (arith, within))))

within-before : (at n : ℕ) (keys own : List Key) → AllBefore at (take n keys) → n ≤ length keys → n ≤ length (keys_before at keys ++ own)
within-before at zero keys own before within = omega arith
within-before at (suc n) [] own before within = absurd (let no : ⊥ = omega (arith, within) in no)
within-before at (suc n) (k ∷ ks) own before within =
    let early : nat_lt k.count at ≡ true = let first = before.0 in grind (arith, nat_tests) in
    let rest = within-before at n ks own before.1 (omega (arith, within)) in
    rw early (omega (arith, rest))

left-before : (at n : ℕ) (keys own : List Key) → AllBefore at (take n keys) → n ≤ length keys → drop n (keys_before at keys ++ own) ≡ keys_before at (drop n keys) ++ own
left-before at zero keys own before within = refl
left-before at (suc n) [] own before within = absurd (let no : ⊥ = omega (arith, within) in no)
left-before at (suc n) (k ∷ ks) own before within =
    let early : nat_lt k.count at ≡ true = let first = before.0 in grind (arith, nat_tests) in
    rw early (left-before at n ks own before.1 (omega (arith, within)))

pub order-weaker : (m n : ℕ) (keys : List Key) → m ≤ n → IsInOrder n keys → IsInOrder m keys
order-weaker m n [] less order = tt
order-weaker m n (k ∷ ks) less order = let first : n ≤ k.count = order.0 in (omega (arith, less, first), order.1)

-- followed by others that come with the fork or later, they are in order
order-forked : (n at : ℕ) (keys own : List Key) → n ≤ at → IsInOrder n keys → IsInOrder at own → IsInOrder n (keys_before at keys ++ own)
order-forked n at [] own less order later = order-weaker n at own less later
order-forked n at (k ∷ ks) own less order later = by_test (nat_lt k.count at) refl (order-forked k.count at ks own) (order-forked n at ks own)
  where
    by_test : (b : Bool) → nat_lt k.count at ≡ b → (k.count ≤ at → IsInOrder k.count ks → IsInOrder at own → IsInOrder k.count (keys_before at ks ++ own)) → (n ≤ at → IsInOrder n ks → IsInOrder at own → IsInOrder n (keys_before at ks ++ own)) →
        IsInOrder n ((if b then k ∷ keys_before at ks else keys_before at ks) ++ own)
    by_test true e first rest = (order.0, first (grind (arith, nat_tests)) order.1 later)
    by_test false e first rest = let low : n ≤ k.count = order.0 in rest less (order-weaker n k.count ks low order.1) later

-- keys that come, and come before a fork, come in whatever goes on from it
come-before : (system : Disk) (start : MachineState) (steps at all : ℕ) (given keys : List Key) → at ≤ all → AllBefore at keys → HaveComeAfter system start steps given keys → HaveComeAfter system start all given keys
come-before system start steps at all given [] reach before come = tt
come-before system start steps at all given (k ∷ keys) reach before come =
    let early = before.0 in
    (omega (arith, early, reach), come.1, come-before system start steps at all (given ++ k ∷ []) keys reach before.1 come.2)

-- ---- where the fork stands

pub on-fork : (system : Disk) (keys own : List Key) (steps at all : ℕ) (start : MachineState) (pace : Pace) (console list : List ℕ) (now : MachineState) →
    AllBefore at (take pace.pressed keys) → pace.done ≤ at → at ≤ all → IsInOrder at own → IsOn system keys steps start pace console list now →
    IsOn system (keys_before at keys ++ own) all start (forked_pace pace all) console list now
on-fork system keys own steps at all start pace console list now before early reach order on =
    let same = taken-before at pace.pressed keys own before on.within in
    record {
      state = on.state ∙ ap (λ (ks : List Key). alone system (presses_of ks) pace.done start) (sym same);
      came = λ i past. ap (λ (ks : List Key). due i (presses_of ks)) same ∙ on.came i past;
      coming = subst (λ (ks : List Key). HaveComeAfter system start all [] ks) (sym same)
          (come-before system start steps at all [] (take pace.pressed keys) reach before on.coming);
      later = subst (λ (ks : List Key). IsInOrder pace.done ks) (sym (left-before at pace.pressed keys own before on.within)) (order-forked pace.done at (drop pace.pressed keys) own early on.later order);
      within = within-before at pace.pressed keys own before on.within;
      all = record { within = omega (arith, early, reach); most = omega arith; all = inl refl };
    }

-- the quota stays
pub alone-quota : (system : Disk) (presses : List Press) (n : ℕ) (s : MachineState) → (alone system presses n s).quota ≡ s.quota
alone-quota system presses zero s = refl
alone-quota system presses (suc n) s = quota-after system 1 (alone system presses n s) ∙ alone-quota system presses n s

pub on-quota : (system : Disk) (keys : List Key) (steps : ℕ) (start : MachineState) (pace : Pace) (console list : List ℕ) (now : MachineState) → IsOn system keys steps start pace console list now → now.quota ≡ start.quota
on-quota system keys steps start pace console list now on =
    ap (λ (s : MachineState). s.quota) on.state ∙ alone-quota system (presses_of (take pace.pressed keys)) pace.done start
