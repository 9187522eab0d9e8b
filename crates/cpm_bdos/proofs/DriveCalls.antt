-- What the functions on drives and files leave of the memory.
use Rattle.std.proofs.Common.{◌≡◌, ℕ, ◌+◌, ◌≤◌, ◌<◌, List, [], ◌∷◌, length, take, refl, ◌∙◌, arith, Result, Ok, Err}
use Rattle.std.proofs.lemmas.List.{length-take}
use Rattle.cpm_geom.specs.Disk.{Disk}
use Rattle.cpm_volume.specs.declared.answer.Fault.{Fault}
use Rattle.cpm_memory.specs.Contents.{Contents, run_at, touched_of}
use Rattle.cpm_memory.proofs.Runs.{touched_of-run, limit-run, length-run_at}
use Rattle.cpm_drives.specs.declared.function.FileFunction.{FileFunction}
use Rattle.cpm_drives.specs.Functions.{BytesCall, file_function_bytes}
use Rattle.cpm_bdos.specs.Registers.{pair_de}
use Rattle.cpm_bdos.specs.Disks.{by_answer, fcb_size, record_size, record_stored, changed_bytes, fcb_stored, call_stored}
use Rattle.cpm_bdos.specs.declared.session.Session.{Session}
use Rattle.cpm_bdos.proofs.Pages.{pages-le}

pub memory-by_answer : (a : Result ℕ Fault) (drive : ℕ) (s : Session) (m : Contents) → (by_answer a drive s m).memory ≡ m
memory-by_answer (Ok code) drive s m = refl
memory-by_answer (Err which) drive s m = refl

-- the call of a function in a session
abbrev pub call_of : FileFunction → Disk → Session → Contents → BytesCall
call_of f system s m =
    file_function_bytes f s.disks system (run_at m (pair_de s.regs) fcb_size) (run_at m s.buffer record_size)

-- and the memory after it
abbrev pub memory_of : FileFunction → Disk → Session → Contents → Contents
memory_of f system s m = call_stored m s.buffer (pair_de s.regs) (run_at m (pair_de s.regs) fcb_size) (call_of f system s m)

pub limit-record_stored : (m : Contents) (at : ℕ) (bytes : List ℕ) → (record_stored m at bytes).limit ≡ m.limit
limit-record_stored m at bytes = limit-run m at (take record_size bytes)

pub limit-call_stored : (m : Contents) (buffer at : ℕ) (old : List ℕ) (c : BytesCall) → (call_stored m buffer at old c).limit ≡ m.limit
limit-call_stored m buffer at old c =
    let n = record_stored m buffer c.buffer in
    limit-run n at (changed_bytes old c.bytes (run_at n at fcb_size)) ∙ limit-record_stored m buffer c.buffer

length-changed_bytes : (old new now : List ℕ) → length (changed_bytes old new now) ≤ length now
length-changed_bytes [] new now = omega arith
length-changed_bytes (a ∷ old) [] now = omega arith
length-changed_bytes (a ∷ old) (b ∷ new) [] = omega arith
length-changed_bytes (a ∷ old) (b ∷ new) (c ∷ now) = omega (arith, length-changed_bytes old new now)

-- a record lies in two pages at most
pub touched_of-record_stored : (m : Contents) (at : ℕ) (bytes : List ℕ) → at < 65536 → touched_of (record_stored m at bytes) ≤ touched_of m + 2
touched_of-record_stored m at bytes fits =
    omega (arith, touched_of-run m at (take record_size bytes) fits (omega (arith, length-take record_size bytes)), pages-le at (length (take record_size bytes)))

touched_of-fcb_stored : (m : Contents) (at : ℕ) (old new : List ℕ) → at < 65536 → touched_of (fcb_stored m at old new) ≤ touched_of m + 2
touched_of-fcb_stored m at old new fits =
    let bytes = changed_bytes old new (run_at m at fcb_size) in
    omega (arith, touched_of-run m at bytes fits (omega (arith, length-changed_bytes old new (run_at m at fcb_size), length-run_at m at fcb_size)), pages-le at (length bytes))

-- and so does a file control block
pub touched_of-call_stored : (m : Contents) (buffer at : ℕ) (old : List ℕ) (c : BytesCall) → buffer < 65536 → at < 65536 → touched_of (call_stored m buffer at old c) ≤ touched_of m + 4
touched_of-call_stored m buffer at old c fits_buffer fits_at =
    omega (arith, touched_of-record_stored m buffer c.buffer fits_buffer, touched_of-fcb_stored (record_stored m buffer c.buffer) at old c.bytes fits_at)
