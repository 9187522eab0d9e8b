-- The registers in a saving. All of it is own.
use Rattle.std.specs.Prelude.{false, ◌==◌}
use Rattle.cpm_flags.specs.Arithmetic.{bit}
use Rattle.cpm_flags.specs.FlagByte.{packed, unpacked}
use Rattle.cpm_flags.specs.declared.regs.Alternate.{Alternate}
use Rattle.cpm_flags.specs.declared.regs.Cpu.TheVariants.{Z80}
use Rattle.cpm_flags.specs.declared.regs.Flags.{Flags}
use Rattle.cpm_flags.specs.declared.regs.Regs.{Regs}
use Rattle.cpm_saved.specs.Layout.{Layout, Below, Both, AnyByte, AnyWord, laid_out}
use Rattle.cpm_saved.specs.declared.part.SavingPart.TheVariants as part

-- A, the flags as PUSH AF of the Z80 stores them, C, B, E, D, L, H
abbrev pub bank_layout : Layout
bank_layout =
    Both (AnyByte part.Registers) (Both (AnyByte part.Registers) (Both (AnyByte part.Registers) (Both (AnyByte part.Registers)
    (Both (AnyByte part.Registers) (Both (AnyByte part.Registers) (Both (AnyByte part.Registers) (AnyByte part.Registers)))))))

abbrev pub bank_fields : Alternate → laid_out bank_layout
bank_fields r = (r.a, (packed Z80 r.flags, (r.c, (r.b, (r.e, (r.d, (r.l, r.h)))))))

abbrev pub flags_unset : Flags
flags_unset = record { sign = false; zero = false; bit5 = false; half_carry = false; bit3 = false; parity = false; subtract = false; carry = false }

abbrev pub bank_of_fields : laid_out bank_layout → Alternate
bank_of_fields v =
    record {
      a = v.0;
      flags = unpacked Z80 flags_unset v.1.0;
      c = v.1.1.0;
      b = v.1.1.1.0;
      e = v.1.1.1.1.0;
      d = v.1.1.1.1.1.0;
      l = v.1.1.1.1.1.1.0;
      h = v.1.1.1.1.1.1.1;
    }

-- the bank that is in use
abbrev pub main_bank : Regs → Alternate
main_bank r = record { a = r.a; flags = r.flags; c = r.c; b = r.b; e = r.e; d = r.d; l = r.l; h = r.h }

-- SP, PC, IX and IY; I and R; and the two interrupt flip-flops
abbrev pub pointers_layout : Layout
pointers_layout =
    Both (AnyWord part.Registers) (Both (AnyWord part.Registers) (Both (AnyWord part.Registers) (Both (AnyWord part.Registers)
    (Both (AnyByte part.Registers) (Both (AnyByte part.Registers) (Both (Below part.Registers 2) (Below part.Registers 2)))))))

abbrev pub pointers_fields : Regs → laid_out pointers_layout
pointers_fields r = (r.sp, (r.pc, (r.ix, (r.iy, (r.interrupt_page, (r.refresh, (bit r.iff1, bit r.iff2)))))))

-- the bank that is in use, these, and the other bank
abbrev pub registers_layout : Layout
registers_layout = Both bank_layout (Both pointers_layout bank_layout)

abbrev pub registers_fields : Regs → laid_out registers_layout
registers_fields r = (bank_fields (main_bank r), (pointers_fields r, bank_fields r.alternate))

abbrev pub registers_with : Alternate → laid_out pointers_layout → Alternate → Regs
registers_with main v alternate =
    record {
      a = main.a;
      flags = main.flags;
      c = main.c;
      b = main.b;
      e = main.e;
      d = main.d;
      l = main.l;
      h = main.h;
      sp = v.0;
      pc = v.1.0;
      ix = v.1.1.0;
      iy = v.1.1.1.0;
      interrupt_page = v.1.1.1.1.0;
      refresh = v.1.1.1.1.1.0;
      iff1 = v.1.1.1.1.1.1.0 == 1;
      iff2 = v.1.1.1.1.1.1.1 == 1;
      alternate = alternate;
    }

abbrev pub registers_of_fields : laid_out registers_layout → Regs
registers_of_fields v = registers_with (bank_of_fields v.0) v.1.0 (bank_of_fields v.1.1)
