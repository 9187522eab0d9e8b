-- Where the system lies in the memory of a session.
use Rattle.std.specs.Prelude.{ℕ, ◌/◌, ◌%◌, List, [], ◌∷◌}

-- CP/M 2.2 Operating System Manual, section 6.9, Reserved Locations in Page Zero: the I/O byte; the current drive in the low four bits
-- and the user in the high four; the default file control blocks; the default buffer of a record
abbrev pub io_byte_address : ℕ
io_byte_address = 0x0003

abbrev pub user_and_drive_address : ℕ
user_and_drive_address = 0x0004

abbrev pub default_fcbs_address : ℕ
default_fcbs_address = 0x005C

abbrev pub default_buffer_address : ℕ
default_buffer_address = 0x0080

-- CP/M 2.2 Operating System Manual, section 5.1, Introduction to the BDOS: programs are loaded at the base of the transient program area
abbrev pub program_address : ℕ
program_address = 0x0100

-- own: where the command processor is entered, where the last word of a program's stack lies, and where the BDOS is entered
abbrev pub command_processor_address : ℕ
command_processor_address = 0xE406

abbrev pub stack_address : ℕ
stack_address = 0xEBFE

abbrev pub bdos_address : ℕ
bdos_address = 0xEC06

-- own: call k of the BIOS is entered at the first address + k, to which entry k of its table of jumps at FA00h leads; CONIN is call 3
abbrev pub first_bios_address : ℕ
first_bios_address = 0xFB00

abbrev pub console_input_address : ℕ
console_input_address = 0xFB03

abbrev pub last_bios_address : ℕ
last_bios_address = 0xFB10

-- own: the tables of the disks: the sector translation vector, the first of the disk parameter blocks, the first of the disk parameter headers,
-- the directory's buffer, the first of the allocation vectors and the first of the check vectors
abbrev pub skew_address : ℕ
skew_address = 0xFC00

abbrev pub first_parameter_block_address : ℕ
first_parameter_block_address = 0xFC20

abbrev pub first_header_address : ℕ
first_header_address = 0xFC40

abbrev pub directory_buffer_address : ℕ
directory_buffer_address = 0xFD00

abbrev pub first_allocation_vector_address : ℕ
first_allocation_vector_address = 0xFE00

abbrev pub first_check_vector_address : ℕ
first_check_vector_address = 0xFF40

-- Intel 8080 Assembly Language Programming Manual, JMP: at 0000h a jump to the warm boot's entry, which is the second of the table,
-- and at 0005h one to the BDOS
abbrev pub warm_boot_jump : List ℕ
warm_boot_jump = 0xC3 ∷ 0x03 ∷ 0xFA ∷ []

abbrev pub bdos_jump : List ℕ
bdos_jump = 0xC3 ∷ 0x06 ∷ 0xEC ∷ []

-- a word in memory, low byte first
abbrev pub word_bytes : ℕ → List ℕ
word_bytes word = word % 256 ∷ word / 256 ∷ []
