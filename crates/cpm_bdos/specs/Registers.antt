-- What calls read from the registers and leave in them.
use Rattle.std.specs.Prelude.{ℕ, ◌+◌, ◌*◌, ◌/◌, ◌%◌, false}
use Rattle.cpm_flags.specs.declared.regs.Flags.{Flags}
use Rattle.cpm_flags.specs.declared.regs.Regs.{Regs}
use Rattle.cpm_memory.specs.Layout.{command_processor_address, stack_address}

abbrev pub no_flags : Flags
no_flags = record { sign = false; zero = false; bit5 = false; half_carry = false; bit3 = false; parity = false; subtract = false; carry = false }

-- own: at opening all is 0 but SP, which is EBFEh, and PC, which is E406h
abbrev pub at_opening : Regs
at_opening = record {
  a = 0;
  flags = no_flags;
  b = 0;
  c = 0;
  d = 0;
  e = 0;
  h = 0;
  l = 0;
  sp = stack_address;
  pc = command_processor_address;
  ix = 0;
  iy = 0;
  interrupt_page = 0;
  refresh = 0;
  alternate = record { a = 0; flags = no_flags; b = 0; c = 0; d = 0; e = 0; h = 0; l = 0 };
  iff1 = false;
  iff2 = false;
}

-- the pair DE
abbrev pub pair_de : Regs → ℕ
pair_de regs = 256 * regs.d + regs.e

-- CP/M 2.2 Operating System Manual, section 5.2, Operating System Call Conventions: a result lies in HL, with its low byte in A and its high byte in B
abbrev pub with_call_result : Regs → ℕ → Regs
with_call_result regs value = record regs { h = value / 256; l = value % 256; a = value % 256; b = value / 256 }

-- the pair BC
abbrev pub pair_bc : Regs → ℕ
pair_bc regs = 256 * regs.b + regs.c

-- a word left in HL
abbrev pub with_hl : Regs → ℕ → Regs
with_hl regs value = record regs { h = value / 256; l = value % 256 }

-- a byte left in A
abbrev pub with_a : Regs → ℕ → Regs
with_a regs value = record regs { a = value }

-- a return to an address that was popped
abbrev pub returned_to : Regs → ℕ → Regs
returned_to regs address = record regs { pc = address; sp = (regs.sp + 2) % 65536 }
