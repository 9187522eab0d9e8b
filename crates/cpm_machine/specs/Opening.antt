-- Which openings make a machine.
use Rattle.std.specs.Prelude.{◌≡◌, ℕ, List, length, ◌==◌, ◌||◌, not, nat_lt, Option, Some, None, if◌then◌else◌}
use Rattle.cpm_machine.specs.declared.opening.OpenError.{OpenError}
use Rattle.cpm_machine.specs.declared.opening.OpenError.TheVariants.{BadQuota, BadDrives, ProgramTooLong, OutOfMemory}
use Rattle.cpm_machine.specs.declared.opening.Opening.{Opening}

-- own: a session has one to four drives
abbrev pub drives_fault : ℕ → Option OpenError
drives_fault number = if number == 0 || nat_lt 4 number then Some BadDrives else None

-- own: a session may write 16 to 256 pages
abbrev pub opening_fault : Opening → Option OpenError
opening_fault o = if nat_lt o.quota 16 || nat_lt 256 o.quota then Some BadQuota else drives_fault (length o.drives.items)

-- own: the second fault where the first is none
abbrev pub fault_else : Option OpenError → Option OpenError → Option OpenError
fault_else None second = second
fault_else (Some fault) second = Some fault

-- own: a program lies from 0100h to below the command processor at E400h
abbrev pub most_program : ℕ
most_program = 58112

-- own: with a program it may write all pages, and the program must end below the command processor at E400h
abbrev pub program_fault : Opening → List ℕ → Option OpenError
program_fault o program =
    if not (o.quota == 256) then Some BadQuota
    else fault_else (drives_fault (length o.drives.items)) (if nat_lt most_program (length program) then Some ProgramTooLong else None)

-- a refusal names the fault, and where there is none it is out of memory
abbrev pub IsRefusal : Option OpenError → OpenError → Type 0
IsRefusal None error = error ≡ OutOfMemory
IsRefusal (Some fault) error = error ≡ fault
