-- A session is that of its fields, fields are those of their session, and what is written of them is bytes.
use Rattle.std.proofs.Common.{◌≡◌, ◌≤◌, arith}
use Rattle.cpm_bdos.specs.declared.session.Session.{Session}
use Rattle.cpm_saved.specs.Layout.{IsByteLayout, IsOf, laid_out}
use Rattle.cpm_saved.specs.SavedConsole.{console_layout, line_layout}
use Rattle.cpm_saved.specs.SavedDisks.{disks_layout, file_layout, marks_layout}
use Rattle.cpm_saved.specs.SavedMemory.{memory_layout}
use Rattle.cpm_saved.specs.SavedRegisters.{bank_layout, pointers_layout}
use Rattle.cpm_saved.specs.SavedSession.{IsSessionFit, place_layout, saved_session_fields, saved_session_layout, saved_session_of_fields}
use Rattle.cpm_saved.proofs.ModeLaws.{modes_back, pointwise_same}
use Rattle.cpm_saved.proofs.PartLaws.{console_back, console_fields_back, disks_back, disks_fields_back, registers_back, registers_fields_back}

pub session_back : (s : Session) → IsSessionFit s → saved_session_of_fields (saved_session_fields s) ≡ s
session_back s fit =
    let registers = registers_back s.regs in
    let mode = modes_back s.mode fit.mode in
    let console = console_back s.console in
    let disks = disks_back s.disks fit.disks in
    λ i. record s { regs = registers i; mode = mode i; console = console i; disks = disks i }

pub session_fields_back : (v : laid_out saved_session_layout) → IsOf saved_session_layout v → saved_session_fields (saved_session_of_fields v) ≡ v
session_fields_back v is =
    let registers = registers_fields_back v.0 is.0 in
    let mode = pointwise_same _ _ is.1.0.1 in
    let console = console_fields_back v.1.1.1.1.1.1.0 is.1.1.1.1.1.1.0 in
    let disks = disks_fields_back v.1.1.1.1.1.1.1 is.1.1.1.1.1.1.1 in
    λ i. (registers i, (mode i, (v.1.1.0, (v.1.1.1.0, (v.1.1.1.1.0, (v.1.1.1.1.1.0, (console i, disks i)))))))

-- ---- each limit is one of bytes

byte : 256 ≤ 256
byte = omega arith

mark : 2 ≤ 256
mark = omega arith

bank : IsByteLayout bank_layout
bank = (byte, (byte, (byte, (byte, (byte, (byte, (byte, byte)))))))

pointers : IsByteLayout pointers_layout
pointers = (tt, (tt, (tt, (tt, (byte, (byte, (mark, mark)))))))

place : IsByteLayout place_layout
place = (byte, (tt, (tt, tt)))

file : IsByteLayout file_layout
file = (byte, (tt, (byte, (byte, (byte, (byte, (tt, (byte, tt))))))))

line : IsByteLayout line_layout
line = (byte, (byte, byte))

console : IsByteLayout console_layout
console = (byte, (byte, (byte, (byte, mark))))

marks : IsByteLayout marks_layout
marks = (mark, (mark, mark))

disks : IsByteLayout disks_layout
disks = ((marks, (tt, tt)), (marks, (byte, (byte, (byte, (mark, (tt, (byte, tt))))))))

pub session_is_byte_layout : IsByteLayout saved_session_layout
session_is_byte_layout = ((bank, (pointers, bank)), (tt, (tt, (place, (file, (line, (console, disks)))))))

pub memory_is_byte_layout : IsByteLayout memory_layout
memory_is_byte_layout = tt
