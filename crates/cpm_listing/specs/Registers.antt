-- Registers on a line (own).
use Rattle.std.specs.Prelude.{ℕ, List, ◌++◌, codes, decimal}
use Rattle.cpm_flags.specs.declared.regs.Cpu.{Cpu}
use Rattle.cpm_flags.specs.declared.regs.Regs.{Regs}
use Rattle.cpm_flags.specs.FlagByte.{packed}
use Rattle.cpm_listing.specs.Digits.{two_digits, four_digits}

-- a pair of registers after its name
unfoldable pub named_pair : List ℕ → ℕ → ℕ → List ℕ
named_pair name high low = name ++ two_digits high ++ two_digits low

-- A, the flag byte as that processor pushes it, the pairs, SP and PC, and the count of executed instructions
unfoldable pub regs_line : Cpu → Regs → ℕ → List ℕ
regs_line cpu r count =
    codes "A=" ++ two_digits r.a ++ codes " F=" ++ two_digits (packed cpu r.flags)
    ++ named_pair (codes " BC=") r.b r.c ++ named_pair (codes " DE=") r.d r.e ++ named_pair (codes " HL=") r.h r.l
    ++ codes " SP=" ++ four_digits r.sp ++ codes " PC=" ++ four_digits r.pc ++ codes " N=" ++ decimal count
