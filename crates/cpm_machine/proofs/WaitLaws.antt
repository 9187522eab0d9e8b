-- A step that is a wait.
use Rattle.std.proofs.Common.{◌≡◌, ℕ, zero, suc, ◌+◌, ◌-◌, ◌<◌, ◌≤◌, Bool, true, false, ◌&&◌, ◌==◌, Some, None, refl, ap, sym, ◌∙◌, arith, nat_lt, if◌then◌else◌, subst, ⊎_elim, add-zero}
use Rattle.std.specs.Prelude.{nat_le}
use Rattle.std.proofs.lemmas.Bool.Decides.{nat_tests}
use Rattle.std.proofs.lemmas.Bool.{cases_lt}
use Rattle.cpm_machine.proofs.StepLaws.{and-left, and-right, running-is, runs}
use Rattle.cpm_flags.specs.declared.regs.Cpu.{Cpu}
use Rattle.cpm_geom.specs.Disk.{Disk}
use Rattle.cpm_memory.specs.Contents.{Contents, touched_of}
use Rattle.cpm_memory.specs.Room.{HasRoom}
use Rattle.cpm_console.specs.Terminal.{has_room}
use Rattle.cpm_bdos.specs.StepResult.{StepResult, did}
use Rattle.cpm_bdos.specs.Step.{bdos, bios}
use Rattle.cpm_bdos.specs.Waiting.{is_waiting, call_in, is_command}
use Rattle.cpm_bdos.proofs.WaitLaws.{IsWaiting-now}
use Rattle.cpm_ccp.proofs.WaitLaws.{WaitsForKeys-now}
use Rattle.cpm_bdos.specs.declared.session.Session.{Session}
use Rattle.cpm_bdos.specs.declared.session.Mode.{Mode}
use Rattle.cpm_bdos.specs.declared.session.Mode.TheVariants.{Program, Text, Line, Hold, Fault, Command}
use Rattle.cpm_bdos.specs.declared.session.Went.TheVariants.{Waits}
use Rattle.cpm_machine.specs.declared.reply.End.{End}
use Rattle.cpm_machine.specs.declared.reply.End.TheVariants.{Running, Quota, CountEnd}
use Rattle.cpm_machine.specs.declared.steps.Outcome.TheVariants as outcome
use Rattle.cpm_machine.specs.declared.trap.Trap.TheVariants.{CommandProcessor, Bdos, Bios}
use Rattle.cpm_machine.specs.Trap.{trap_at}
use Rattle.cpm_machine.specs.MachineState.{MachineState}
use Rattle.cpm_machine.specs.Serve.{look_of}
use Rattle.cpm_machine.specs.Runner.{IsRunnerSound, IsRun}
use Rattle.cpm_machine.specs.Step.{part, part_in, at_trap, by_call, part_made, end_of, after_part, step_if, is_running, step, after, can_step}

-- the call that PC names is that of the trap there
call-at_trap : (system : Disk) (cpu : Cpu) (with_program : Bool) (s : Session) (m : Contents) (d : StepResult) → call_in Program system s m ≡ Some d → at_trap system cpu with_program (trap_at s.regs.pc) s m ≡ by_call d
unfolding trap_at
call-at_trap system cpu with_program s m d = by_tests s.regs.pc (s.regs.pc == 58374) (s.regs.pc == 60422) (nat_le 64256 s.regs.pc && nat_le s.regs.pc 64272) refl refl refl
  where
    by_tests : (pc : ℕ) (a b c : Bool) → (pc == 58374) ≡ a → (pc == 60422) ≡ b → (nat_le 64256 pc && nat_le pc 64272) ≡ c → (if b then Some (bdos system s m) else if c then Some (bios (pc - 64256) system s m) else None) ≡ Some d → at_trap system cpu with_program (if a then Some CommandProcessor else if b then Some Bdos else if c then Some (Bios (pc - 64256)) else None) s m ≡ by_call d
    by_tests pc true true c ea eb ec h = absurd (grind (arith, nat_tests))
    by_tests pc true false true ea eb ec h =
        let low : nat_le 64256 pc ≡ true = and-left (nat_le 64256 pc) (nat_le pc 64272) ec in
        absurd (grind (arith, nat_tests))
    by_tests pc true false false ea eb ec h = absurd cc
    by_tests pc false true c ea eb ec h = let same : bdos system s m ≡ d = cc in ap by_call same
    by_tests pc false false true ea eb ec h = let same : bios (pc - 64256) system s m ≡ d = cc in ap by_call same
    by_tests pc false false false ea eb ec h = absurd cc

-- and in the other modes it is the BDOS's
call-part_in : (system : Disk) (cpu : Cpu) (with_program : Bool) (mode : Mode) (s : Session) (m : Contents) (d : StepResult) → call_in mode system s m ≡ Some d → part_in system cpu with_program mode s m ≡ by_call d
call-part_in system cpu with_program Program s m d h = call-at_trap system cpu with_program s m d h
call-part_in system cpu with_program (Text next) s m d h = let same : bdos system s m ≡ d = cc in ap by_call same
call-part_in system cpu with_program Line s m d h = let same : bdos system s m ≡ d = cc in ap by_call same
call-part_in system cpu with_program (Hold held) s m d h = let same : bdos system s m ≡ d = cc in ap by_call same
call-part_in system cpu with_program Fault s m d h = let same : bdos system s m ≡ d = cc in ap by_call same
call-part_in system cpu with_program (Command part) s m d h = absurd cc

-- a call that waits changes nothing
by_call-waits : (system : Disk) (cpu : Cpu) (with_program : Bool) (mode : Mode) (s : Session) (m : Contents) → s.mode ≡ mode → is_command mode ≡ false → is_waiting s m ≡ true → part_in system cpu with_program mode s m ≡ part_made s m outcome.GoesOn
by_call-waits system cpu with_program mode s m e plain h =
    call-part_in system cpu with_program mode s m (did s m Waits) (ap (λ mode. call_in mode system s m) (sym e) ∙ (IsWaiting-now s m).changes_nothing h (ap is_command e ∙ plain) system)

-- and neither does a part of the command processor
part-waits_in : (system : Disk) (cpu : Cpu) (with_program : Bool) (mode : Mode) (s : Session) (m : Contents) → s.mode ≡ mode → is_waiting s m ≡ true → part_in system cpu with_program mode s m ≡ part_made s m outcome.GoesOn
part-waits_in system cpu with_program (Command part) s m e h = ap by_call ((WaitsForKeys-now system s m).changes_nothing (ap is_command e) h)
part-waits_in system cpu with_program Program s m e h = by_call-waits system cpu with_program Program s m e refl h
part-waits_in system cpu with_program (Text next) s m e h = by_call-waits system cpu with_program (Text next) s m e refl h
part-waits_in system cpu with_program Line s m e h = by_call-waits system cpu with_program Line s m e refl h
part-waits_in system cpu with_program (Hold held) s m e h = by_call-waits system cpu with_program (Hold held) s m e refl h
part-waits_in system cpu with_program Fault s m e h = by_call-waits system cpu with_program Fault s m e refl h

part-waits : (system : Disk) (cpu : Cpu) (with_program : Bool) (s : Session) (m : Contents) → is_waiting s m ≡ true → part system cpu with_program s m ≡ part_made s m outcome.GoesOn
unfolding part
part-waits system cpu with_program s m h = part-waits_in system cpu with_program s.mode s m refl h

pub step-waits : (system : Disk) (s : MachineState) → (look_of s).waiting ≡ true → step system s ≡ after_part s (part_made s.session s.memory outcome.GoesOn)
unfolding look_of step
step-waits system s h =
    let runs : is_running s.ended ≡ true = and-left (is_running s.ended) (is_waiting s.session s.memory) h in
    let waits : is_waiting s.session s.memory ≡ true = and-right (is_running s.ended) (is_waiting s.session s.memory) h in
    ap (λ b. step_if system b s) runs ∙ ap (after_part s) (part-waits system s.cpu s.with_program s.session s.memory waits)

-- ---- waits in one stroke

-- the state after so many waits
abbrev pub waited : MachineState → ℕ → MachineState
waited s k = record s { count = s.count + k; ended = end_of outcome.GoesOn (s.count + k) (touched_of s.memory) s.quota }

goes-by_tests : (last short : Bool) (n : ℕ) (m : Contents) → n < 18446744073709551615 → HasRoom m → (n == 18446744073709551615) ≡ last → (nat_lt m.limit 256 && nat_lt m.limit (touched_of m + 8)) ≡ short → (if last then CountEnd else if short then Quota else Running) ≡ Running
goes-by_tests true short n m below room e f = absurd (grind (arith, nat_tests))
goes-by_tests false true n m below room e f =
    let few : nat_lt m.limit 256 ≡ true = and-left (nat_lt m.limit 256) (nat_lt m.limit (touched_of m + 8)) f in
    let full : nat_lt m.limit (touched_of m + 8) ≡ true = and-right (nat_lt m.limit 256) (nat_lt m.limit (touched_of m + 8)) f in
    ⊎_elim (λ (left : touched_of m + 8 ≤ m.limit). absurd (grind (arith, nat_tests))) (λ (all : m.limit ≡ 256). absurd (grind (arith, nat_tests))) room
goes-by_tests false false n m below room e f = refl

-- a part that writes nothing leaves the room for a step, and so ends a session by its count alone
goes_on : (n : ℕ) (s : MachineState) → IsRunnerSound s → is_running s.ended ≡ true → n < 18446744073709551615 → end_of outcome.GoesOn n (touched_of s.memory) s.quota ≡ Running
goes_on n s sound h below =
    subst (λ q. end_of outcome.GoesOn n (touched_of s.memory) q ≡ Running) sound.limit (goes-by_tests (n == 18446744073709551615) (nat_lt s.memory.limit 256 && nat_lt s.memory.limit (touched_of s.memory + 8)) n s.memory below (sound.room h) refl refl)

-- a session that waits does so up to the greatest count
pub after-waits : (system : Disk) (k : ℕ) (s : MachineState) → IsRunnerSound s → is_running s.ended ≡ true → is_waiting s.session s.memory ≡ true → s.count + k ≤ 18446744073709551615 → after system k s ≡ waited s k
unfolding look_of
after-waits system zero s sound h waits most =
    sym (ap (λ (e : End). record s { count = s.count + 0; ended = e }) (goes_on (s.count + 0) s sound h (omega (arith, sound.count h)))
    ∙ ap (λ n. record s { count = n; ended = Running }) (add-zero s.count)
    ∙ ap (λ (e : End). record s { ended = e }) (sym (running-is s.ended h)))
after-waits system (suc k) s sound h waits most =
    let goes : end_of outcome.GoesOn (s.count + k) (touched_of s.memory) s.quota ≡ Running = goes_on (s.count + k) s sound h (omega arith) in
    let next : s.count + k + 1 ≡ s.count + suc k = omega arith in
    ap (step system) (after-waits system k s sound h waits (omega arith))
    ∙ step-waits system (waited s k) (ap (λ (e : End). is_running e && is_waiting s.session s.memory) goes ∙ waits)
    ∙ ap (λ n. record s { count = n; ended = end_of outcome.GoesOn n (touched_of s.memory) s.quota }) next

-- and each of these steps may be made
pub IsRun-waits : (system : Disk) (k : ℕ) (s : MachineState) → IsRunnerSound s → can_step s ≡ true → is_waiting s.session s.memory ≡ true → s.count + k ≤ 18446744073709551615 → IsRun system k s (waited s k)
IsRun-waits system k s sound can waits most = record {
  now_is = sym (after-waits system k s sound (runs s can) waits most);
  each = λ i below. ap can_step (after-waits system i s sound (runs s can) waits (omega arith))
      ∙ ap (λ (e : End). is_running e && has_room s.session.console) (goes_on (s.count + i) s sound (runs s can) (omega arith))
      ∙ and-right (is_running s.ended) (has_room s.session.console) can;
  sound = record {
    limit = sound.limit;
    count = λ h. ⊎_elim (λ (lt : s.count + k < 18446744073709551615). lt)
        (λ ge.
        let last : s.count + k ≡ 18446744073709551615 = omega arith in
        let ended : is_running (end_of outcome.GoesOn (s.count + k) (touched_of s.memory) s.quota) ≡ false = ap (λ n. is_running (end_of outcome.GoesOn n (touched_of s.memory) s.quota)) last in
        absurd cc)
        (cases_lt (s.count + k) 18446744073709551615);
    room = λ h. sound.room (runs s can);
  };
}
