-- What a reply says of what the library answers. All of it is own: docs/PROTOCOL.md.
use Rattle.std.specs.Prelude.{ℕ, ◌+◌, ◌*◌, Result, Ok, Err}
use Rattle.cpm_flags.specs.declared.regs.Cpu.{Cpu}
use Rattle.cpm_flags.specs.declared.regs.Cpu.TheVariants.{Z80}
use Rattle.cpm_flags.specs.FlagByte.{packed}
use Rattle.cpm_machine.specs.declared.opening.OpenError.{OpenError}
use Rattle.cpm_machine.specs.declared.opening.Opening.{Opening}
use Rattle.cpm_machine.specs.declared.opening.OpenError.TheVariants as opening
use Rattle.cpm_machine.specs.declared.reply.End.{End}
use Rattle.cpm_machine.specs.declared.reply.End.TheVariants as ends
use Rattle.cpm_machine.specs.declared.reply.Granted.{Granted}
use Rattle.cpm_machine.specs.declared.reply.Look.{Look}
use Rattle.cpm_machine.specs.declared.reply.Why.{Why}
use Rattle.cpm_machine.specs.declared.reply.Why.TheVariants as why
use Rattle.cpm_slots.specs.declared.event.ForkError.{ForkError}
use Rattle.cpm_slots.specs.declared.event.ForkError.TheVariants as fork
use Rattle.cpm_slots.specs.declared.event.Refusal.{Refusal}
use Rattle.cpm_slots.specs.declared.event.SaveError.{SaveError}
use Rattle.cpm_slots.specs.declared.event.SaveError.TheVariants as save
use Rattle.cpm_slots.specs.declared.event.SlotId.{SlotId}
use Rattle.cpm_protocol.specs.Replies.{Answered, Granted as GrantReply, Opened, Refused}
use Rattle.cpm_protocol.specs.declared.reply.SessionLook.{SessionLook}
use Rattle.cpm_protocol.specs.declared.word.GrantStop.{GrantStop}
use Rattle.cpm_protocol.specs.declared.word.GrantStop.TheVariants as stop
use Rattle.cpm_protocol.specs.declared.word.WireEnd.{WireEnd}
use Rattle.cpm_protocol.specs.declared.word.WireEnd.TheVariants as ending
use Rattle.cpm_protocol.specs.declared.word.WireRefusal.{WireRefusal}
use Rattle.cpm_protocol.specs.declared.word.WireRefusal.TheVariants as refusal

-- why a grant ended
abbrev pub stop_seen : Why → GrantStop
stop_seen why.All = stop.All
stop_seen why.Stopped = stop.Stopped
stop_seen why.Break = stop.Break
stop_seen why.Blocked = stop.Blocked

-- how a session ended
abbrev pub end_seen : End → WireEnd
end_seen ends.Running = ending.Running
end_seen ends.Halted = ending.Halted
end_seen ends.Illegal = ending.Illegal
end_seen ends.Quota = ending.Quota
end_seen ends.CountEnd = ending.CountEnd
end_seen ends.Exited = ending.Exited

-- a pair of registers as a word
abbrev pub pair_word : (high low : ℕ) → ℕ
pair_word high low = 256 * high + low

-- what is seen of a session of this processor, which packs its flags into the low byte of AF; the alternate registers are the Z80's
abbrev pub look_seen : Cpu → Look → SessionLook
look_seen cpu l = record {
  af = pair_word l.regs.a (packed cpu l.regs.flags);
  bc = pair_word l.regs.b l.regs.c;
  de = pair_word l.regs.d l.regs.e;
  hl = pair_word l.regs.h l.regs.l;
  ix = l.regs.ix;
  iy = l.regs.iy;
  sp = l.regs.sp;
  pc = l.regs.pc;
  alternate_af = pair_word l.regs.alternate.a (packed Z80 l.regs.alternate.flags);
  alternate_bc = pair_word l.regs.alternate.b l.regs.alternate.c;
  alternate_de = pair_word l.regs.alternate.d l.regs.alternate.e;
  alternate_hl = pair_word l.regs.alternate.h l.regs.alternate.l;
  interrupt_page = l.regs.interrupt_page;
  refresh = l.regs.refresh;
  iff1 = l.regs.iff1;
  iff2 = l.regs.iff2;
  count = l.count;
  end = end_seen l.ended;
  pages = l.pages;
  waiting = l.waiting;
  keys = l.keys;
  console = l.console;
  list = l.list;
}

-- why no session is opened; none of the wire has a program
abbrev pub open_refusal : OpenError → WireRefusal
open_refusal opening.BadQuota = refusal.BadQuota
open_refusal opening.BadDrives = refusal.BadDrives
open_refusal opening.ProgramTooLong = refusal.BadQuota
open_refusal opening.NoSlot = refusal.NoSlot
open_refusal opening.NoFrames = refusal.NoFrames
open_refusal opening.OutOfMemory = refusal.OutOfMemory

-- why a session is not forked
abbrev pub fork_refusal : ForkError → WireRefusal
fork_refusal fork.NoSuchSlot = refusal.NoSuchSlot
fork_refusal fork.NoSlot = refusal.NoSlot
fork_refusal fork.NoFrames = refusal.NoFrames
fork_refusal fork.OutOfMemory = refusal.OutOfMemory

-- why a session is not saved
abbrev pub save_refusal : SaveError → WireRefusal
save_refusal save.NoSuchSlot = refusal.NoSuchSlot
save_refusal save.OutOfMemory = refusal.OutOfMemory

-- the reply to a grant that a host made
abbrev pub grant_answer : Granted → Answered
grant_answer g = GrantReply g.executed (stop_seen g.why)

abbrev pub grant_result : Result Granted Refusal → Answered
grant_result (Ok g) = grant_answer g
grant_result (Err fault) = Refused refusal.NoSuchSlot

-- the reply to an opening that a host made, or refused and handed back
abbrev pub open_result : Result SlotId (Opening × OpenError) → Answered
open_result (Ok id) = Opened id.0
open_result (Err e) = Refused (open_refusal e.1)
