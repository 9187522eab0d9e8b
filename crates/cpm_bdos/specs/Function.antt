-- The calls by their numbers: a row for each, with the manual's name of the call after it.
use Rattle.std.specs.Prelude.{ℕ, ◌==◌, if◌then◌else◌, List, [], ◌∷◌}
use Rattle.cpm_drives.specs.declared.function.FileFunction.TheVariants as file
use Rattle.cpm_bdos.specs.declared.function.Function.{Function}
use Rattle.cpm_bdos.specs.declared.function.Function.TheVariants.{WarmBoot, ReadKey, WriteByte, ReaderInput, PunchOutput, ListOutput, DirectConsole}
use Rattle.cpm_bdos.specs.declared.function.Function.TheVariants.{GetIoByte, SetIoByte, WriteText, ReadLine, ConsoleStatus, Version, ResetDisks}
use Rattle.cpm_bdos.specs.declared.function.Function.TheVariants.{SelectDisk, File, LoginVector, CurrentDisk, SetBuffer, AllocationVector}
use Rattle.cpm_bdos.specs.declared.function.Function.TheVariants.{ProtectDisk, ReadOnlyVector, DiskParameters, UserCode, ResetDrives, Other}
use Rattle.cpm_bdos.specs.declared.function.BiosCall.{BiosCall}
use Rattle.cpm_bdos.specs.declared.function.BiosCall.TheVariants as entry

-- the first row of a number, or what stands for a number that has none
abbrev pub row_numbered : {A : Type 0} → List (ℕ × A) → A → ℕ → A
row_numbered [] other n = other
row_numbered (row ∷ rows) other n = if n == row.0 then row.1 else row_numbered rows other n

-- CP/M 2.2 Operating System Manual, section 5.2, Operating System Call Conventions: the functions by the number in C
abbrev pub functions : List (ℕ × Function)
functions =
    (0, WarmBoot) ∷  -- SYSTEM RESET
    (1, ReadKey) ∷  -- CONSOLE INPUT
    (2, WriteByte) ∷  -- CONSOLE OUTPUT
    (3, ReaderInput) ∷  -- READER INPUT
    (4, PunchOutput) ∷  -- PUNCH OUTPUT
    (5, ListOutput) ∷  -- LIST OUTPUT
    (6, DirectConsole) ∷  -- DIRECT CONSOLE I/O
    (7, GetIoByte) ∷  -- GET I/O BYTE
    (8, SetIoByte) ∷  -- SET I/O BYTE
    (9, WriteText) ∷  -- PRINT STRING
    (10, ReadLine) ∷  -- READ CONSOLE BUFFER
    (11, ConsoleStatus) ∷  -- GET CONSOLE STATUS
    (12, Version) ∷  -- RETURN VERSION NUMBER
    (13, ResetDisks) ∷  -- RESET DISK SYSTEM
    (14, SelectDisk) ∷  -- SELECT DISK
    (15, File file.OpenFile) ∷  -- OPEN FILE
    (16, File file.CloseFile) ∷  -- CLOSE FILE
    (17, File file.SearchFirst) ∷  -- SEARCH FOR FIRST
    (18, File file.SearchNext) ∷  -- SEARCH FOR NEXT
    (19, File file.EraseFiles) ∷  -- DELETE FILE
    (20, File file.ReadNext) ∷  -- READ SEQUENTIAL
    (21, File file.WriteNext) ∷  -- WRITE SEQUENTIAL
    (22, File file.MakeFile) ∷  -- MAKE FILE
    (23, File file.RenameFiles) ∷  -- RENAME FILE
    (24, LoginVector) ∷  -- RETURN LOG-IN VECTOR
    (25, CurrentDisk) ∷  -- RETURN CURRENT DISK
    (26, SetBuffer) ∷  -- SET DMA ADDRESS
    (27, AllocationVector) ∷  -- GET ADDR(ALLOC)
    (28, ProtectDisk) ∷  -- WRITE PROTECT DISK
    (29, ReadOnlyVector) ∷  -- GET READ-ONLY VECTOR
    (30, File file.SetAttributes) ∷  -- SET FILE ATTRIBUTES
    (31, DiskParameters) ∷  -- GET ADDR(DISK PARMS)
    (32, UserCode) ∷  -- SET/GET USER CODE
    (33, File file.ReadRandom) ∷  -- READ RANDOM
    (34, File file.WriteRandom) ∷  -- WRITE RANDOM
    (35, File file.ComputeSize) ∷  -- COMPUTE FILE SIZE
    (36, File file.SetRandomRecord) ∷  -- SET RANDOM RECORD
    (37, ResetDrives) ∷  -- RESET DRIVE
    (40, File file.WriteRandomCleared) ∷  -- WRITE RANDOM WITH ZERO FILL
    []

unfoldable pub function_of : ℕ → Function
function_of n = row_numbered functions Other n

-- CP/M 2.2 Operating System Manual, section 6.6, The BIOS Entry Points: the calls by their places in the table of jumps
abbrev pub bios_calls : List (ℕ × BiosCall)
bios_calls =
    (0, entry.Boot) ∷  -- BOOT
    (1, entry.WarmBoot) ∷  -- WBOOT
    (2, entry.ConsoleStatus) ∷  -- CONST
    (3, entry.ConsoleInput) ∷  -- CONIN
    (4, entry.ConsoleOutput) ∷  -- CONOUT
    (5, entry.List) ∷  -- LIST
    (6, entry.Punch) ∷  -- PUNCH
    (7, entry.Reader) ∷  -- READER
    (8, entry.Home) ∷  -- HOME
    (9, entry.SelectDrive) ∷  -- SELDSK
    (10, entry.SetTrack) ∷  -- SETTRK
    (11, entry.SetSector) ∷  -- SETSEC
    (12, entry.SetSectorBuffer) ∷  -- SETDMA
    (13, entry.ReadSector) ∷  -- READ
    (14, entry.WriteSector) ∷  -- WRITE
    (15, entry.ListStatus) ∷  -- LISTST
    (16, entry.Translate) ∷  -- SECTRAN
    []

unfoldable pub bios_call_of : ℕ → BiosCall
bios_call_of n = row_numbered bios_calls entry.Other n
