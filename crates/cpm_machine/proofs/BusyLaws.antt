-- Steps of which none waits for a key.
use Rattle.std.proofs.Common.{◌≡◌, ℕ, ◌+◌, ◌-◌, Bool, true, false, ◌&&◌, ◌==◌, not, nat_le, is_some, Some, None, if◌then◌else◌, refl, sym, ap, ◌∙◌, arith, subst, ⊎_elim}
use Rattle.std.proofs.lemmas.Bool.Decides.{nat_tests}
use Rattle.std.proofs.lemmas.Bool.{cases_lt}
use Rattle.cpm_geom.specs.Disk.{Disk}
use Rattle.cpm_memory.specs.Contents.{Contents}
use Rattle.cpm_bdos.specs.Function.{function_of}
use Rattle.cpm_bdos.specs.Keys.{first_key}
use Rattle.cpm_bdos.specs.Waiting.{function_needs_key, needs_key, is_waiting}
use Rattle.cpm_bdos.specs.declared.session.Session.{Session}
use Rattle.cpm_bdos.specs.declared.session.Mode.{Mode}
use Rattle.cpm_bdos.specs.declared.session.Mode.TheVariants.{Program}
use Rattle.cpm_machine.specs.declared.trap.Trap.TheVariants.{CommandProcessor, Bdos, Bios}
use Rattle.cpm_machine.specs.MachineState.{MachineState}
use Rattle.cpm_machine.specs.Trap.{trap_at}
use Rattle.cpm_machine.specs.Step.{after}
use Rattle.cpm_machine.specs.Runner.{IsBusy}
use Rattle.cpm_machine.proofs.GrantLaws.{after-add}

by_tests : (pc : ℕ) (needs a b c d : Bool) → (pc == 58374) ≡ a → (pc == 60422) ≡ b → (nat_le 64256 pc && nat_le pc 64272) ≡ c → (pc == 64259) ≡ d → (if a then Some CommandProcessor else if b then Some Bdos else if c then Some (Bios (pc - 64256)) else None) ≡ None → (if b then needs else d) ≡ false
by_tests pc needs true b c d ea eb ec ed h = absurd cc
by_tests pc needs false true c d ea eb ec ed h = absurd cc
by_tests pc needs false false true d ea eb ec ed h = absurd cc
by_tests pc needs false false false true ea eb ec ed h =
    let at : pc ≡ 64259 = grind (arith, nat_tests) in
    let inside : (nat_le 64256 pc && nat_le pc 64272) ≡ true = ap (λ n. nat_le 64256 n && nat_le n 64272) at in
    absurd cc
by_tests pc needs false false false false ea eb ec ed h = refl

-- what needs a key in a program lies at a trap
needs-none : (s : Session) (m : Contents) → trap_at s.regs.pc ≡ None → needs_key Program s m ≡ false
unfolding trap_at
needs-none s m h =
    by_tests s.regs.pc (function_needs_key (function_of s.regs.c) s m) (s.regs.pc == 58374) (s.regs.pc == 60422) (nat_le 64256 s.regs.pc && nat_le s.regs.pc 64272) (s.regs.pc == 64259) refl refl refl refl h

-- so an instruction waits for none
pub instruction-busy : (s : Session) (m : Contents) → s.mode ≡ Program → trap_at s.regs.pc ≡ None → is_waiting s m ≡ false
instruction-busy s m mode apart =
    ap (λ b. b && not (is_some (first_key s))) (ap (λ (at : Mode). needs_key at s m) mode ∙ needs-none s m apart)

-- such steps, and from where they lead others
pub IsBusy-on : (system : Disk) (k l : ℕ) (a b : MachineState) → IsBusy system k a → b ≡ after system k a → IsBusy system l b → IsBusy system (k + l) a
IsBusy-on system k l a b h at g i below =
    ⊎_elim (λ lt. h i lt)
    (λ ge.
    let same : k + (i - k) ≡ i = omega arith in
    let is : after system (i - k) b ≡ after system (k + (i - k)) a = ap (after system (i - k)) at ∙ sym (after-add system k (i - k) a) in
    let here : is_waiting (after system (k + (i - k)) a).session (after system (k + (i - k)) a).memory ≡ false = subst (λ (t : MachineState). is_waiting t.session t.memory ≡ false) is (g (i - k) (omega arith)) in
    subst (λ j. is_waiting (after system j a).session (after system j a).memory ≡ false) same here)
    (cases_lt i k)
