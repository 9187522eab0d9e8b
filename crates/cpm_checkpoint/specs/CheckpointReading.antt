-- What is read of the bytes of a checkpoint, from the front, and where the first fault is. All of it is own.
use Rattle.std.specs.Prelude.{◌≡◌, ⊤, ◌+◌, ℕ, zero, suc, Bool, ◌==◌, nat_eq, nat_le, nat_lt, if◌then◌else◌}
use Rattle.std.specs.Prelude.{List, [], ◌∷◌, length, take, drop, Option, Some, None, Result, Ok, Err}
use Rattle.std.specs.Cmp.Lexicographic.{pointwise}
use Rattle.std.specs.Int.{from_le_bytes, w64}
use Rattle.cpm_checkpoint.specs.CheckpointBytes.{CheckpointValue, SessionValue, checkpoint_magic, checkpoint_version, most_sessions}
use Rattle.cpm_checkpoint.specs.declared.checkpoint.CheckpointError.{CheckpointError}
use Rattle.cpm_checkpoint.specs.declared.checkpoint.CheckpointError.TheVariants.{Damaged, OutOfMemory}

-- what is still to be read, and at which place of the whole it begins
pub record Unread : Type 0 where
  pub at : ℕ
  pub bytes : List ℕ

abbrev pub unread_at : ℕ → List ℕ → Unread
unread_at at bytes = record { at = at; bytes = bytes }

-- a value and what is behind it, or the place of the first fault
abbrev pub Parsed : Type 0 → Type 0
Parsed A = Result (A × Unread) ℕ

-- what was read is read on from; the first fault is that of all
abbrev pub then_parsed : {A B : Type 0} → Result A ℕ → (A → Result B ℕ) → Result B ℕ
then_parsed {A} {B} (Ok x) next = next x
then_parsed {A} {B} (Err at) next = Err at

infixl 10 ◌>>=◌
abbrev ◌>>=◌ : {A B : Type 0} → Result A ℕ → (A → Result B ℕ) → Result B ℕ
read >>= next = then_parsed read next

-- ---- values

-- so many bytes
abbrev pub bytes_taken : ℕ → Unread → Parsed (List ℕ)
bytes_taken count rest =
    if nat_le count (length rest.bytes) then Ok (take count rest.bytes, unread_at (rest.at + count) (drop count rest.bytes)) else Err rest.at

-- a value of which a test holds; else the fault is where it begins
abbrev pub if_so : {A : Type 0} → (A → Bool) → Unread → A × Unread → Parsed A
if_so {A} test rest p = if test p.0 then Ok p else Err rest.at

-- just these bytes
unfoldable pub these_read : List ℕ → Unread → Parsed (List ℕ)
these_read wanted rest = do
  found ← bytes_taken (length wanted) rest
  if_so (λ bytes. pointwise nat_eq bytes wanted) rest found

abbrev pub head_byte : List ℕ → ℕ
head_byte [] = 0
head_byte (b ∷ bs) = b

-- a byte below a limit
unfoldable pub byte_read : ℕ → Unread → Parsed ℕ
byte_read limit rest = do
  found ← bytes_taken 1 rest
  if_so (λ b. nat_lt b limit) rest (head_byte found.0, found.1)

-- eight bytes, the lowest first
unfoldable pub long_read : Unread → Parsed ℕ
long_read rest = do
  found ← bytes_taken 8 rest
  Ok (from_le_bytes w64 found.0, found.1)

-- how many bytes come, and then these
unfoldable pub run_read : Unread → Parsed (List ℕ)
run_read rest = do
  count ← long_read rest
  bytes_taken count.0 count.1

-- ---- the parts

unfoldable pub session_read : Unread → Parsed SessionValue
session_read rest = do
  pressed ← long_read rest
  done ← long_read pressed.1
  console ← run_read done.1
  list ← run_read console.1
  saving ← run_read list.1
  Ok (record { pressed = pressed.0; done = done.0; console = console.0; list = list.0; saving = saving.0 }, saving.1)

-- behind a mark: 0 is a session that has not begun
unfoldable pub begun_read : ℕ → Unread → Parsed (Option SessionValue)
begun_read zero rest = Ok (None, rest)
begun_read (suc mark) rest = do
  session ← session_read rest
  Ok (Some session.0, session.1)

unfoldable pub marked_read : Unread → Parsed (Option SessionValue)
marked_read rest = do
  mark ← byte_read 2 rest
  begun_read mark.0 mark.1

unfoldable pub sessions_read : ℕ → Unread → Parsed (List (Option SessionValue))
sessions_read zero rest = Ok ([], rest)
sessions_read (suc count) rest = do
  first ← marked_read rest
  others ← sessions_read count first.1
  Ok (first.0 ∷ others.0, others.1)

-- the digest stands behind the magic and the number of the format
unfoldable pub beginning_read : Unread → Parsed (List ℕ)
beginning_read rest = do
  mark ← these_read checkpoint_magic rest
  number ← these_read checkpoint_version mark.1
  bytes_taken 32 number.1

unfoldable pub parts_read : Unread → Parsed CheckpointValue
parts_read rest = do
  beginning ← beginning_read rest
  count ← byte_read (suc most_sessions) beginning.1
  sessions ← sessions_read count.0 count.1
  Ok (record { beginning = beginning.0; sessions = sessions.0 }, sessions.1)

-- nothing may stand behind
abbrev pub all_read : CheckpointValue × Unread → Result CheckpointValue ℕ
all_read p = if length p.1.bytes == 0 then Ok p.0 else Err p.1.at

-- the checkpoint of bytes, or the place of the first fault
unfoldable pub checkpoint_read : List ℕ → Result CheckpointValue ℕ
checkpoint_read bytes = do
  parts ← parts_read (unread_at 0 bytes)
  all_read parts

-- ---- what the code answers

-- a refusal names the place of the first fault, unless it is out of memory
abbrev pub IsRefusedAt : {A : Type 0} → Result A ℕ → CheckpointError → Type 0
IsRefusedAt {A} read (Damaged at) = read ≡ Err at
IsRefusedAt {A} read OutOfMemory = ⊤

-- what is answered is what is read, and the rest is what is behind it
abbrev pub IsParsed : {A B : Type 0} → (A → B) → Parsed B → Unread → Result A CheckpointError → Type 0
IsParsed {A} {B} value read new (Ok v) = read ≡ Ok (value v, new)
IsParsed {A} {B} value read new (Err fault) = IsRefusedAt read fault

-- the same of all bytes
abbrev pub IsWholeParsed : {A B : Type 0} → (A → B) → Result B ℕ → Result A CheckpointError → Type 0
IsWholeParsed {A} {B} value read (Ok v) = read ≡ Ok (value v)
IsWholeParsed {A} {B} value read (Err fault) = IsRefusedAt read fault
