-- How a session ended and where, and what is told of one that ended at bytes that are no instruction. All of it is own.
use Rattle.std.specs.Prelude.{ℕ, ◌+◌, ◌/◌, ◌%◌, nat_lt, if◌then◌else◌, List, [], ◌∷◌, ◌++◌, codes, decimal, slice_index_or, Option, Some, None}
use Rattle.cpm_memory.specs.Contents.{run_at}
use Rattle.cpm_machine.specs.MachineState.{MachineState}
use Rattle.cpm_machine.specs.declared.reply.End.{End}
use Rattle.cpm_machine.specs.declared.reply.End.TheVariants.{Running, Halted, Illegal, Quota, CountEnd, Exited}
use Rattle.cpm_run.specs.declared.ending.Ending.{Ending}
use Rattle.cpm_run.specs.declared.ending.IllegalBytes.{IllegalBytes}

-- the four bytes from the program counter on; 0000h follows FFFFh
abbrev pub bytes_at_pc : MachineState → List ℕ
bytes_at_pc s = run_at s.memory s.session.regs.pc 4

-- its end, its steps, and its program counter with the bytes there
abbrev pub ending_of : MachineState → Ending
ending_of s = record { ended = s.ended; count = s.count; pc = s.session.regs.pc; at_pc = bytes_at_pc s }

-- where it ended so, the program counter and the bytes there
abbrev pub illegal_of : End → ℕ → List ℕ → Option IllegalBytes
illegal_of Illegal pc bytes = Some (record { pc = pc; bytes = bytes })
illegal_of _ pc bytes = None

-- ---- the texts

-- a digit, A to F for 10 to 15
abbrev pub digit_text : ℕ → List ℕ
digit_text n = (if nat_lt n 10 then 0x30 + n else 55 + n) ∷ []

abbrev pub two_digits_text : ℕ → List ℕ
two_digits_text n = digit_text (n / 16) ++ digit_text (n % 16)

abbrev pub four_digits_text : ℕ → List ℕ
four_digits_text n = digit_text (n / 4096) ++ digit_text (n / 256 % 16) ++ digit_text (n / 16 % 16) ++ digit_text (n % 16)

-- how a session ended, or that it still runs
abbrev pub end_word : End → List ℕ
end_word Running = codes "Running"
end_word Halted = codes "Halted"
end_word Illegal = codes "Illegal"
end_word Quota = codes "Quota"
end_word CountEnd = codes "CountEnd"
end_word Exited = codes "Exited"

-- end END count N pc HHHH
abbrev pub ending_text : Ending → List ℕ
ending_text e = codes "end " ++ end_word e.ended ++ codes " count " ++ decimal e.count ++ codes " pc " ++ four_digits_text e.pc

-- the digits of one of these bytes
abbrev pub byte_text : List ℕ → (place : ℕ) → List ℕ
byte_text bytes place = two_digits_text (slice_index_or bytes place 0)

-- illegal at HHHH: HH HH HH HH
abbrev pub illegal_text : IllegalBytes → List ℕ
illegal_text i =
    codes "illegal at " ++ four_digits_text i.pc ++ codes ": " ++ byte_text i.bytes 0 ++ codes " " ++ byte_text i.bytes 1 ++ codes " "
    ++ byte_text i.bytes 2 ++ codes " " ++ byte_text i.bytes 3
