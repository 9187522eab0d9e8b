-- A session waits exactly where its next step is a call that does.
use Rattle.std.proofs.Common.{◌≡◌, ◌-◌, Bool, true, false, ◌&&◌, ◌==◌, not, Option, Some, None, is_some, refl, ap, sym, ◌∙◌, arith, if◌then◌else◌, ◌⊎◌, inl, inr}
use Rattle.std.specs.Prelude.{nat_le}
use Rattle.std.proofs.lemmas.Bool.Decides.{nat_tests}
use Rattle.cpm_flags.specs.declared.regs.Cpu.{Cpu}
use Rattle.cpm_geom.specs.Disk.{Disk}
use Rattle.cpm_memory.specs.Contents.{Contents}
use Rattle.cpm_bdos.specs.StepResult.{StepResult, did}
use Rattle.cpm_bdos.specs.Step.{bdos, bios}
use Rattle.cpm_bdos.specs.Function.{function_of}
use Rattle.cpm_bdos.specs.Keys.{first_key}
use Rattle.cpm_bdos.specs.Waiting.{function_needs_key, needs_key, is_waiting, call_now, call_in, is_command}
use Rattle.cpm_bdos.proofs.WaitLaws.{IsWaiting-now}
use Rattle.cpm_ccp.specs.Step.{ccp}
use Rattle.cpm_ccp.proofs.WaitLaws.{WaitsForKeys-now}
use Rattle.cpm_bdos.specs.declared.session.Session.{Session}
use Rattle.cpm_bdos.specs.declared.session.Mode.{Mode}
use Rattle.cpm_bdos.specs.declared.session.Mode.TheVariants.{Program, Text, Line, Hold, Fault, Command}
use Rattle.cpm_bdos.specs.declared.session.Went.{Went}
use Rattle.cpm_bdos.specs.declared.session.Went.TheVariants.{Returned, Waits, GoesOn, Reboot}
use Rattle.cpm_machine.specs.declared.steps.Outcome.TheVariants as outcome
use Rattle.cpm_machine.specs.declared.trap.Trap.{Trap}
use Rattle.cpm_machine.specs.declared.trap.Trap.TheVariants.{CommandProcessor, Bdos, Bios}
use Rattle.cpm_machine.specs.Trap.{trap_at}
use Rattle.cpm_machine.specs.MachineState.{MachineState}
use Rattle.cpm_machine.specs.Serve.{look_of}
use Rattle.cpm_machine.specs.Step.{PartResult, part, part_in, at_trap, instruction, by_call, part_made, after_part, step_if, is_running, step}
use Rattle.cpm_machine.specs.Waits.{call_at, call_of, is_wait, is_waiting_call, WaitsWhereItSays}

went-waits : (w : Went) → (w ≡ Waits → ⊥) → false ≡ is_wait w
went-waits Waits never = absurd (never refl)
went-waits Returned never = refl
went-waits GoesOn never = refl
went-waits Reboot never = refl

-- a call waits where it does nothing but wait, and else not
wait-same : (waits : Bool) (s : Session) (m : Contents) (d : StepResult) → (waits ≡ true → d ≡ did s m Waits) → (waits ≡ false → d.went ≡ Waits → ⊥) → waits ≡ is_wait d.went
wait-same true s m d still never = sym (ap (λ (x : StepResult). is_wait x.went) (still refl))
wait-same false s m d still never = went-waits d.went (never refl)

-- a step of a call of the BDOS or the BIOS
call-waits : (system : Disk) (s : Session) (m : Contents) (d : StepResult) → is_command s.mode ≡ false → call_now system s m ≡ Some d → is_waiting s m ≡ is_wait d.went
call-waits system s m d plain h =
    wait-same (is_waiting s m) s m d
    (λ waits. let e : Some d ≡ Some (did s m Waits) = sym h ∙ (IsWaiting-now s m).changes_nothing waits plain system in cc)
    (λ goes. (IsWaiting-now s m).elsewhere goes system d h)

-- a part of the command processor
part-waits : (system : Disk) (s : Session) (m : Contents) → is_command s.mode ≡ true → is_waiting s m ≡ is_wait (ccp system s m).went
part-waits system s m command =
    wait-same (is_waiting s m) s m (ccp system s m)
    (λ waits. (WaitsForKeys-now system s m).changes_nothing command waits)
    (λ goes. (WaitsForKeys-now system s m).elsewhere command goes)

-- neither the prompt nor an instruction is a wait
never-waits : (s : Session) (m : Contents) → s.mode ≡ Program → (s.regs.pc == 60422) ≡ false → (s.regs.pc == 64259) ≡ false → is_waiting s m ≡ false
never-waits s m mode a b =
    ap (λ (x : Mode). needs_key x s m && not (is_some (first_key s))) mode
    ∙ ap (λ t. (if t then function_needs_key (function_of s.regs.c) s m else s.regs.pc == 64259) && not (is_some (first_key s))) a
    ∙ ap (λ t. t && not (is_some (first_key s))) b

prompt-waits : (system : Disk) (with_program : Bool) (s : Session) (m : Contents) → s.mode ≡ Program → false ≡ is_waiting_call (call_at system with_program (Some CommandProcessor) s m)
prompt-waits system true s m mode = refl
prompt-waits system false s m mode = went-waits (ccp system s m).went ((WaitsForKeys-now system s m).prompt mode)

program-waits : (system : Disk) (with_program : Bool) (s : Session) (m : Contents) → s.mode ≡ Program → is_waiting s m ≡ is_waiting_call (call_at system with_program (trap_at s.regs.pc) s m)
unfolding trap_at
program-waits system with_program s m mode = by_tests (s.regs.pc == 58374) (s.regs.pc == 60422) (nat_le 64256 s.regs.pc && nat_le s.regs.pc 64272) refl refl refl
  where
    plain : is_command s.mode ≡ false
    plain = ap is_command mode

    now : call_now system s m ≡ call_in Program system s m
    now = ap (λ (x : Mode). call_in x system s m) mode

    called : (b c : Bool) → (s.regs.pc == 60422) ≡ b → (nat_le 64256 s.regs.pc && nat_le s.regs.pc 64272) ≡ c → call_now system s m ≡ (if b then Some (bdos system s m) else if c then Some (bios (s.regs.pc - 64256) system s m) else None)
    called b c eb ec =
        now
        ∙ ap (λ t. if t then Some (bdos system s m) else if nat_le 64256 s.regs.pc && nat_le s.regs.pc 64272 then Some (bios (s.regs.pc - 64256) system s m) else None) eb
        ∙ ap (λ t. if b then Some (bdos system s m) else if t then Some (bios (s.regs.pc - 64256) system s m) else None) ec

    by_tests : (a b c : Bool) → (s.regs.pc == 58374) ≡ a → (s.regs.pc == 60422) ≡ b → (nat_le 64256 s.regs.pc && nat_le s.regs.pc 64272) ≡ c → is_waiting s m ≡ is_waiting_call (call_at system with_program (if a then Some CommandProcessor else if b then Some Bdos else if c then Some (Bios (s.regs.pc - 64256)) else None) s m)
    by_tests true b c ea eb ec =
        let elsewhere : (s.regs.pc == 60422) ≡ false = grind (arith, nat_tests) in
        let apart : (s.regs.pc == 64259) ≡ false = grind (arith, nat_tests) in
        never-waits s m mode elsewhere apart ∙ prompt-waits system with_program s m mode
    by_tests false true c ea eb ec = call-waits system s m (bdos system s m) plain (called true c eb ec)
    by_tests false false true ea eb ec = call-waits system s m (bios (s.regs.pc - 64256) system s m) plain (called false true eb ec)
    by_tests false false false ea eb ec =
        let apart : (s.regs.pc == 64259) ≡ false = grind (arith, nat_tests) in
        never-waits s m mode eb apart

call-waits_in : (system : Disk) (with_program : Bool) (mode : Mode) (s : Session) (m : Contents) → s.mode ≡ mode → is_waiting s m ≡ is_waiting_call (call_of system with_program mode s m)
call-waits_in system with_program Program s m e = program-waits system with_program s m e
call-waits_in system with_program (Command part) s m e = part-waits system s m (ap is_command e)
call-waits_in system with_program (Text next) s m e = call-waits system s m (bdos system s m) (ap is_command e) (ap (λ (x : Mode). call_in x system s m) e)
call-waits_in system with_program Line s m e = call-waits system s m (bdos system s m) (ap is_command e) (ap (λ (x : Mode). call_in x system s m) e)
call-waits_in system with_program (Hold held) s m e = call-waits system s m (bdos system s m) (ap is_command e) (ap (λ (x : Mode). call_in x system s m) e)
call-waits_in system with_program Fault s m e = call-waits system s m (bdos system s m) (ap is_command e) (ap (λ (x : Mode). call_in x system s m) e)

-- ---- the step is that call

trap-part : (system : Disk) (cpu : Cpu) (with_program : Bool) (t : Option Trap) (s : Session) (m : Contents) (d : StepResult) → call_at system with_program t s m ≡ Some d → at_trap system cpu with_program t s m ≡ by_call d
trap-part system cpu with_program None s m d h = absurd cc
trap-part system cpu true (Some CommandProcessor) s m d h = absurd cc
trap-part system cpu false (Some CommandProcessor) s m d h = let same : ccp system s m ≡ d = cc in ap by_call same
trap-part system cpu with_program (Some Bdos) s m d h = let same : bdos system s m ≡ d = cc in ap by_call same
trap-part system cpu with_program (Some (Bios number)) s m d h = let same : bios number system s m ≡ d = cc in ap by_call same

call-part : (system : Disk) (cpu : Cpu) (with_program : Bool) (mode : Mode) (s : Session) (m : Contents) (d : StepResult) → call_of system with_program mode s m ≡ Some d → part_in system cpu with_program mode s m ≡ by_call d
call-part system cpu with_program Program s m d h = trap-part system cpu with_program (trap_at s.regs.pc) s m d h
call-part system cpu with_program (Command part) s m d h = let same : ccp system s m ≡ d = cc in ap by_call same
call-part system cpu with_program (Text next) s m d h = let same : bdos system s m ≡ d = cc in ap by_call same
call-part system cpu with_program Line s m d h = let same : bdos system s m ≡ d = cc in ap by_call same
call-part system cpu with_program (Hold held) s m d h = let same : bdos system s m ≡ d = cc in ap by_call same
call-part system cpu with_program Fault s m d h = let same : bdos system s m ≡ d = cc in ap by_call same

trap-other : (system : Disk) (cpu : Cpu) (with_program : Bool) (t : Option Trap) (s : Session) (m : Contents) → call_at system with_program t s m ≡ None → (at_trap system cpu with_program t s m ≡ instruction cpu s m) ⊎ (at_trap system cpu with_program t s m ≡ part_made s m outcome.Exits)
trap-other system cpu with_program None s m h = inl refl
trap-other system cpu true (Some CommandProcessor) s m h = inr refl
trap-other system cpu false (Some CommandProcessor) s m h = absurd cc
trap-other system cpu with_program (Some Bdos) s m h = absurd cc
trap-other system cpu with_program (Some (Bios number)) s m h = absurd cc

call-other : (system : Disk) (cpu : Cpu) (with_program : Bool) (mode : Mode) (s : Session) (m : Contents) → call_of system with_program mode s m ≡ None → (part_in system cpu with_program mode s m ≡ instruction cpu s m) ⊎ (part_in system cpu with_program mode s m ≡ part_made s m outcome.Exits)
call-other system cpu with_program Program s m h = trap-other system cpu with_program (trap_at s.regs.pc) s m h
call-other system cpu with_program (Command part) s m h = absurd cc
call-other system cpu with_program (Text next) s m h = absurd cc
call-other system cpu with_program Line s m h = absurd cc
call-other system cpu with_program (Hold held) s m h = absurd cc
call-other system cpu with_program Fault s m h = absurd cc

-- ---- the machine

step-is : (system : Disk) (s : MachineState) (p : PartResult) → is_running s.ended ≡ true → part_in system s.cpu s.with_program s.session.mode s.session s.memory ≡ p → step system s ≡ after_part s p
unfolding step part
step-is system s p runs e = ap (λ b. step_if system b s) runs ∙ ap (after_part s) e

step-ended : (system : Disk) (s : MachineState) → is_running s.ended ≡ false → step system s ≡ s
unfolding step
step-ended system s ended = ap (λ b. step_if system b s) ended

look-waits : (s : MachineState) (runs : Bool) → is_running s.ended ≡ runs → (look_of s).waiting ≡ (runs && is_waiting s.session s.memory)
unfolding look_of
look-waits s runs e = ap (λ b. b && is_waiting s.session s.memory) e

either-step : (system : Disk) (s : MachineState) (p q : PartResult) (x : PartResult) → (step system s ≡ after_part s x) → (x ≡ p) ⊎ (x ≡ q) → (step system s ≡ after_part s p) ⊎ (step system s ≡ after_part s q)
either-step system s p q x e (inl h) = inl (e ∙ ap (after_part s) h)
either-step system s p q x e (inr h) = inr (e ∙ ap (after_part s) h)

pub waits-exactly : (system : Disk) (s : MachineState) → WaitsWhereItSays system s
waits-exactly system s = record {
  waiting = λ runs. look-waits s true runs ∙ call-waits_in system s.with_program s.session.mode s.session s.memory refl;
  ended = λ ended. (look-waits s false ended, step-ended system s ended);
  call = λ d runs h. step-is system s (by_call d) runs (call-part system s.cpu s.with_program s.session.mode s.session s.memory d h);
  other = λ runs h.
      let now = part_in system s.cpu s.with_program s.session.mode s.session s.memory in
      either-step system s (instruction s.cpu s.session s.memory) (part_made s.session s.memory outcome.Exits) now (step-is system s now runs refl)
      (call-other system s.cpu s.with_program s.session.mode s.session s.memory h);
}
