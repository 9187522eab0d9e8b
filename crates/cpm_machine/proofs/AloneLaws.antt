-- A machine does the same whatever output waits, and so is the machine run alone whatever was taken.
use Rattle.std.proofs.Common.{◌≡◌, ℕ, zero, suc, ◌+◌, Bool, true, false, List, [], ◌∷◌, ◌++◌, length, take, drop, min, Option, Some, None, refl, sym, ap, ◌∙◌, if◌then◌else◌}
use Rattle.std.proofs.lemmas.List.{append_assoc, take-append-drop}
use Rattle.cpm_flags.specs.declared.regs.Cpu.{Cpu}
use Rattle.cpm_geom.specs.Disk.{Disk}
use Rattle.cpm_memory.specs.Contents.{Contents}
use Rattle.cpm_bdos.specs.Behind.{session_behind}
use Rattle.cpm_bdos.proofs.Waiting.{bdos-behind, bios-behind}
use Rattle.cpm_ccp.proofs.BehindLaws.{ccp-behind}
use Rattle.cpm_bdos.specs.declared.session.Session.{Session}
use Rattle.cpm_bdos.specs.declared.session.Mode.{Mode}
use Rattle.cpm_bdos.specs.declared.session.Mode.TheVariants.{Program, Text, Line, Hold, Fault, Command}
use Rattle.cpm_machine.specs.declared.trap.Trap.{Trap}
use Rattle.cpm_machine.specs.declared.trap.Trap.TheVariants.{CommandProcessor, Bdos, Bios}
use Rattle.cpm_machine.specs.Trap.{trap_at}
use Rattle.cpm_machine.specs.MachineState.{MachineState}
use Rattle.cpm_machine.specs.Step.{PartResult, part, part_in, at_trap, by_call, after_part, step_if, is_running, can_step, step, after}
use Rattle.cpm_machine.specs.Serve.{executed, taken, taken_list, takes_key, keyed}
use Rattle.cpm_machine.specs.Alone.{alone}
use Rattle.cpm_machine.specs.Calls.{Call, Key, Grant, GrantUntil, Take, TakeList, LookAt, Peek, Account, no_account, served_key, serve, entered, state_after, account_after, state_behind}
use Rattle.cpm_machine.specs.MachineCalls.{MachineCall, SlotCall, OneStep, GrantToWait, state_after_call, account_after_call, state_after_all, account_after_all}
use Rattle.cpm_machine.specs.ToWait.{executed_to_wait}
use Rattle.cpm_machine.specs.Until.{executed_until}
use Rattle.cpm_machine.proofs.PressLaws.{AllCame, with_keys-nil, alone-add, alone-pressed, AllCame-pressed, AllCame-later}

module _ (system : Disk) (p q : List ℕ) where
  part_behind : PartResult → PartResult
  part_behind x = record x { session = session_behind p q x.session }

  at_trap-behind : (cpu : Cpu) (with_program : Bool) (t : Option Trap) (s : Session) (m : Contents) → at_trap system cpu with_program t (session_behind p q s) m ≡ part_behind (at_trap system cpu with_program t s m)
  unfolding part_behind
  at_trap-behind cpu with_program None s m = refl
  at_trap-behind cpu true (Some CommandProcessor) s m = refl
  at_trap-behind cpu false (Some CommandProcessor) s m = ap by_call (ccp-behind p q system s m)
  at_trap-behind cpu with_program (Some Bdos) s m = ap by_call (bdos-behind p q system s m)
  at_trap-behind cpu with_program (Some (Bios number)) s m = ap by_call (bios-behind p q number system s m)

  part_in-behind : (cpu : Cpu) (with_program : Bool) (mode : Mode) (s : Session) (m : Contents) → part_in system cpu with_program mode (session_behind p q s) m ≡ part_behind (part_in system cpu with_program mode s m)
  unfolding part_behind
  part_in-behind cpu with_program Program s m = at_trap-behind cpu with_program (trap_at s.regs.pc) s m
  part_in-behind cpu with_program (Text next) s m = ap by_call (bdos-behind p q system s m)
  part_in-behind cpu with_program Line s m = ap by_call (bdos-behind p q system s m)
  part_in-behind cpu with_program (Hold held) s m = ap by_call (bdos-behind p q system s m)
  part_in-behind cpu with_program Fault s m = ap by_call (bdos-behind p q system s m)
  part_in-behind cpu with_program (Command part) s m = ap by_call (ccp-behind p q system s m)

  part-behind : (cpu : Cpu) (with_program : Bool) (s : Session) (m : Contents) → part system cpu with_program (session_behind p q s) m ≡ part_behind (part system cpu with_program s m)
  unfolding part
  part-behind cpu with_program s m = part_in-behind cpu with_program s.mode s m

  step_if-behind : (b : Bool) (s : MachineState) → step_if system b (state_behind p q s) ≡ state_behind p q (step_if system b s)
  unfolding part_behind
  step_if-behind true s = ap (after_part s) (part-behind s.cpu s.with_program s.session s.memory)
  step_if-behind false s = refl

  pub step-behind : (s : MachineState) → step system (state_behind p q s) ≡ state_behind p q (step system s)
  unfolding step
  step-behind s = step_if-behind (is_running s.ended) s

  pub after-behind : (n : ℕ) (s : MachineState) → after system n (state_behind p q s) ≡ state_behind p q (after system n s)
  after-behind zero s = refl
  after-behind (suc n) s = ap (step system) (after-behind n s) ∙ step-behind (after system n s)

-- bytes that are taken stand in front of those that wait
moved : (p xs : List ℕ) (n : ℕ) → (p ++ take n xs) ++ drop n xs ≡ p ++ xs
moved p xs n = append_assoc p (take n xs) (drop n xs) ∙ ap (λ ys. p ++ ys) (take-append-drop n xs)

pub taken-behind : (p q : List ℕ) (room : ℕ) (s : MachineState) → state_behind (p ++ take (min room (length s.session.console.screen)) s.session.console.screen) q (taken room s) ≡ state_behind p q s
taken-behind p q room s =
    ap (λ xs. record s { session = record s.session { console = record s.session.console { screen = xs; printer = q ++ s.session.console.printer } } }) (moved p s.session.console.screen (min room (length s.session.console.screen)))

pub taken_list-behind : (p q : List ℕ) (room : ℕ) (s : MachineState) → state_behind p (q ++ take (min room (length s.session.console.printer)) s.session.console.printer) (taken_list room s) ≡ state_behind p q s
taken_list-behind p q room s =
    ap (λ xs. record s { session = record s.session { console = record s.session.console { screen = p ++ s.session.console.screen; printer = xs } } }) (moved q s.session.console.printer (min room (length s.session.console.printer)))

-- by this account the state, with the bytes that were taken put back in front, is that of the machine run alone
record IsAlone (system : Disk) (a : Account) (s start : MachineState) : Type 0 where
  state : state_behind a.screen a.printer s ≡ alone system a.presses a.executed start
  came : AllCame a.presses a.executed

-- a key more
after-key : (system : Disk) (b : Bool) (key : ℕ) (a : Account) (s start : MachineState) → IsAlone system a s start → let r = served_key b key s in IsAlone system (entered a (Key key) r.answer) r.state start
after-key system true key a s start h = record {
  state = ap (keyed key) h.state ∙ sym (alone-pressed system a.presses a.executed key start);
  came = AllCame-pressed a.presses a.executed key h.came;
}
after-key system false key a s start h = h

-- some steps more
after-steps : (system : Disk) (k : ℕ) (a : Account) (s start : MachineState) → IsAlone system a s start → IsAlone system (record a { executed = a.executed + k }) (after system k s) start
after-steps system k a s start h = record {
  state = sym (after-behind system a.screen a.printer k s) ∙ ap (after system k) h.state ∙ sym (alone-add system a.presses a.executed k start h.came);
  came = AllCame-later a.presses a.executed k h.came;
}

-- one call more
after-call : (system : Disk) (call : Call) (a : Account) (s start : MachineState) → IsAlone system a s start → IsAlone system (entered a call (serve system call s).answer) (serve system call s).state start
unfolding serve
after-call system (Key key) a s start h = after-key system (takes_key s) key a s start h
after-call system (Grant steps) a s start h = after-steps system (executed system steps s) a s start h
after-call system (GrantUntil steps pc) a s start h = after-steps system (executed_until system pc steps s) a s start h
after-call system (Take room) a s start h = record { state = taken-behind a.screen a.printer room s ∙ h.state; came = h.came }
after-call system (TakeList room) a s start h = record { state = taken_list-behind a.screen a.printer room s ∙ h.state; came = h.came }
after-call system LookAt a s start h = h
after-call system (Peek address) a s start h = h

after-calls : (system : Disk) (calls : List Call) (a : Account) (s start : MachineState) → IsAlone system a s start → IsAlone system (account_after system calls a s) (state_after system calls s) start
after-calls system [] a s start h = h
after-calls system (call ∷ calls) a s start h =
    after-calls system calls (entered a call (serve system call s).answer) (serve system call s).state start (after-call system call a s start h)

pub alone-after : (system : Disk) (calls : List Call) (start : MachineState) → let a = account_after system calls no_account start in state_behind a.screen a.printer (state_after system calls start) ≡ alone system a.presses a.executed start
alone-after system calls start =
    (after-calls system calls no_account start start (record { state = sym (with_keys-nil start); came = λ i past. refl })).state

-- ---- with the calls that only a machine has

step-if : (system : Disk) (can : Bool) (a : Account) (s start : MachineState) → IsAlone system a s start → IsAlone system (record a { executed = a.executed + (if can then 1 else 0) }) (if can then step system s else s) start
step-if system true a s start h = after-steps system 1 a s start h
step-if system false a s start h = after-steps system 0 a s start h

after-any : (system : Disk) (call : MachineCall) (a : Account) (s start : MachineState) → IsAlone system a s start → IsAlone system (account_after_call system call a s) (state_after_call system call s) start
after-any system (SlotCall call) a s start h = after-call system call a s start h
after-any system OneStep a s start h = step-if system (can_step s) a s start h
after-any system (GrantToWait steps) a s start h = after-steps system (executed_to_wait system steps s) a s start h

after-all : (system : Disk) (calls : List MachineCall) (a : Account) (s start : MachineState) → IsAlone system a s start → IsAlone system (account_after_all system calls a s) (state_after_all system calls s) start
after-all system [] a s start h = h
after-all system (call ∷ calls) a s start h =
    after-all system calls (account_after_call system call a s) (state_after_call system call s) start (after-any system call a s start h)

pub alone-after_all : (system : Disk) (calls : List MachineCall) (start : MachineState) → let a = account_after_all system calls no_account start in state_behind a.screen a.printer (state_after_all system calls start) ≡ alone system a.presses a.executed start
alone-after_all system calls start =
    (after-all system calls no_account start start (record { state = sym (with_keys-nil start); came = λ i past. refl })).state
