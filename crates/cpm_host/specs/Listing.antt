-- What listing a program shows.
use Rattle.std.specs.Prelude.{◌≢◌, ℕ, zero, suc, ◌-◌, ◌%◌, List, [], ◌∷◌, ◌++◌}
use Rattle.cpm_flags.specs.declared.regs.Cpu.{Cpu}
use Rattle.cpm_listing.specs.Instruction.{instruction_length, instruction_line}
use Rattle.cpm_host.specs.declared.error.HostError.{HostError}
use Rattle.cpm_host.specs.declared.error.HostError.TheVariants.{OutputUnwritable}

-- own: the bytes after the end of a program are 0
abbrev pub four : List ℕ → List ℕ
four [] = 0 ∷ 0 ∷ 0 ∷ 0 ∷ []
four (a ∷ []) = a ∷ 0 ∷ 0 ∷ 0 ∷ []
four (a ∷ b ∷ []) = a ∷ b ∷ 0 ∷ 0 ∷ []
four (a ∷ b ∷ c ∷ []) = a ∷ b ∷ c ∷ 0 ∷ []
four (a ∷ b ∷ c ∷ d ∷ more) = a ∷ b ∷ c ∷ d ∷ []

-- A line for each instruction that begins within the bytes, which lie at a place: after an instruction's first byte
-- the bytes that it still has are passed over. Addresses go on at 0000h after FFFFh.
abbrev pub program_listing : Cpu → ℕ → ℕ → List ℕ → List ℕ
program_listing cpu place left [] = []
program_listing cpu place zero (b ∷ bs) =
    instruction_line cpu (place % 65536) (four (b ∷ bs)) ++ 0x0A ∷ program_listing cpu (suc place) (instruction_length cpu (four (b ∷ bs)) - 1) bs
program_listing cpu place (suc left) (b ∷ bs) = program_listing cpu (suc place) left bs

-- when a listing is refused: the writer refused it, where there was something to write
abbrev pub IsListingRefusal : List ℕ → HostError → Type 0
IsListingRefusal bytes (OutputUnwritable reason) = bytes ≢ []
IsListingRefusal bytes _ = ⊥
