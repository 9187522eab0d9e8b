-- A machine as bytes, and a machine of bytes. All of it is own.
use Rattle.std.specs.Prelude.{◌≡◌, ⊤, ℕ, ◌+◌, Bool, true, false, ◌&&◌, ◌||◌, ◌==◌, not, nat_le, nat_eq, if◌then◌else◌}
use Rattle.std.specs.Prelude.{List, [], ◌∷◌, length, Result, Ok, Err}
use Rattle.std.specs.Cmp.Lexicographic.{pointwise}
use Rattle.cpm_flags.specs.Arithmetic.{bit}
use Rattle.cpm_flags.specs.declared.regs.Cpu.{Cpu}
use Rattle.cpm_flags.specs.declared.regs.Cpu.TheVariants.{I8080, Z80}
use Rattle.cpm_memory.specs.Contents.{IsContents, touched_of}
use Rattle.cpm_memory.specs.Unwritten.{IsBlankUnwritten}
use Rattle.cpm_saved.specs.Layout.{Among, Below, Both, Fixed, Layout, Long, Read, Within, coded, decoded, laid_out, rest_at}
use Rattle.cpm_saved.specs.SavedMemory.{memory_fields, memory_layout, memory_of_fields}
use Rattle.cpm_saved.specs.SavedSession.{IsSessionFit, saved_session_fields, saved_session_layout, saved_session_of_fields}
use Rattle.cpm_saved.specs.declared.part.SavingDamage.{SavingDamage}
use Rattle.cpm_saved.specs.declared.part.SavingPart.TheVariants as part
use Rattle.cpm_saved.specs.declared.reader.RestoreError.{RestoreError}
use Rattle.cpm_saved.specs.declared.reader.RestoreError.TheVariants.{Damaged, OutOfMemory}
use Rattle.cpm_machine.specs.declared.reply.End.{End}
use Rattle.cpm_machine.specs.declared.reply.End.TheVariants.{Running, Halted, Illegal, Quota, CountEnd, Exited}
use Rattle.cpm_machine.specs.MachineState.{MachineState}
use Rattle.cpm_machine.specs.Step.{is_running}

-- what is saved: the digest of the system drive with which the machine ran, and the machine
pub record Saving : Type 0 where
  pub system_digest : List ℕ
  pub state : MachineState

-- `cpmhost` and a byte that ends a text
abbrev pub magic : List ℕ
magic = 0x63 ∷ 0x70 ∷ 0x6D ∷ 0x68 ∷ 0x6F ∷ 0x73 ∷ 0x74 ∷ 0x1A ∷ []

abbrev pub is_magic : List ℕ → Bool
is_magic bytes = pointwise nat_eq bytes magic

-- the number of this format
abbrev pub version : List ℕ
version = 1 ∷ []

abbrev pub is_version : List ℕ → Bool
is_version bytes = pointwise nat_eq bytes version

abbrev pub processor_number : Cpu → ℕ
processor_number I8080 = 0
processor_number Z80 = 1

abbrev pub processor_of_number : ℕ → Cpu
processor_of_number n = if n == 0 then I8080 else Z80

abbrev pub end_number : End → ℕ
end_number Running = 0
end_number Halted = 1
end_number Illegal = 2
end_number Quota = 3
end_number CountEnd = 4
end_number Exited = 5

abbrev pub end_of_number : ℕ → End
end_of_number n =
    if n == 0 then Running
    else if n == 1 then Halted
    else if n == 2 then Illegal
    else if n == 3 then Quota
    else if n == 4 then CountEnd
    else Exited

-- what every saving begins with, the number of the format, and the digest
abbrev pub head_layout : Layout
head_layout = Both (Among part.Magic 8 is_magic) (Both (Among part.Version 1 is_version) (Fixed part.SystemDigest 32))

abbrev pub head_fields : List ℕ → laid_out head_layout
head_fields digest = (magic, (version, digest))

-- the processor, whether the machine was made with a program, the quota of pages, the steps executed, and the end
abbrev pub numbers_layout : Layout
numbers_layout = Both (Below part.Processor 2) (Both (Below part.Program 2) (Both (Within part.Quota 0 256) (Both (Long part.Count) (Below part.End 6))))

abbrev pub numbers_fields : Cpu → Bool → (quota count : ℕ) → End → laid_out numbers_layout
numbers_fields cpu with_program quota count ended = (processor_number cpu, (bit with_program, (quota, (count, end_number ended))))

-- The order of a saving. What is before the memory has 54 bytes.
abbrev pub saving_layout : Layout
saving_layout = Both head_layout (Both numbers_layout (Both memory_layout saved_session_layout))

abbrev pub saving_fields : Saving → laid_out saving_layout
saving_fields x = (
  head_fields x.system_digest,
  (
    numbers_fields x.state.cpu x.state.with_program x.state.quota x.state.count x.state.ended,
    (memory_fields x.state.memory, saved_session_fields x.state.session),
  ),
)

-- the bytes of a saving
unfoldable pub bytes_of_saving : Saving → List ℕ
bytes_of_saving x = coded saving_layout (saving_fields x)

abbrev pub saving_of_fields : laid_out saving_layout → Saving
saving_of_fields v =
    record {
      system_digest = v.0.1.1;
      state = record {
        cpu = processor_of_number v.1.0.0;
        with_program = v.1.0.1.0 == 1;
        quota = v.1.0.1.1.0;
        count = v.1.0.1.1.1.0;
        ended = end_of_number v.1.0.1.1.1.1;
        memory = memory_of_fields v.1.0.1.1.0 v.1.1.0;
        session = saved_session_of_fields v.1.1.1;
      };
    }

-- where these parts of a saving begin
abbrev pub count_place : ℕ
count_place = 45

abbrev pub memory_place : ℕ
memory_place = 54

-- a machine that runs has a count that can grow
abbrev pub can_count : (runs : Bool) → (count : ℕ) → Bool
can_count runs count = not (runs && (count == 18446744073709551615))

-- none wrote more pages than it may, and one that runs has room for one more step
abbrev pub can_write : (runs : Bool) → (pages quota : ℕ) → Bool
can_write runs pages quota = nat_le pages quota && (not runs || quota == 256 || nat_le (pages + 8) quota)

abbrev pub has_count_left : MachineState → Bool
has_count_left s = can_count (is_running s.ended) s.count

abbrev pub has_pages : MachineState → Bool
has_pages s = can_write (is_running s.ended) (touched_of s.memory) s.quota

-- what no machine can be is refused
abbrev pub checked : Saving → Result Saving SavingDamage
checked x =
    if not (has_count_left x.state) then Err (record { field = part.Count; at = count_place })
    else if not (has_pages x.state) then Err (record { field = part.Page; at = memory_place })
    else Ok x

-- nothing may be behind it
abbrev pub whole_read : Read (laid_out saving_layout) → Result Saving SavingDamage
whole_read (Err damage) = Err damage
whole_read (Ok p) = if length p.1.bytes == 0 then checked (saving_of_fields p.0) else Err (record { field = part.Rest; at = p.1.at })

-- the saving of bytes, or the part that makes them none, and where it begins
unfoldable pub restored : List ℕ → Result Saving SavingDamage
restored bytes = whole_read (decoded saving_layout (rest_at 0 bytes))

-- a saving of a machine
abbrev pub saving_with : List ℕ → MachineState → Saving
saving_with digest s = record { system_digest = digest; state = s }

-- what every machine has that is saved: its session fits, its memory is one, of which a page that was not written is as at opening
pub record IsSavable (s : MachineState) : Type 0 where
  pub session : IsSessionFit s.session
  pub memory : IsContents s.memory
  pub blank : IsBlankUnwritten s.memory
  pub limit : s.memory.limit ≡ s.quota

-- a refusal names the part that makes the bytes no saving, unless it is out of memory
abbrev pub IsUnrestored : Result Saving SavingDamage → RestoreError → Type 0
IsUnrestored read (Damaged damage) = read ≡ Err damage
IsUnrestored read OutOfMemory = ⊤
