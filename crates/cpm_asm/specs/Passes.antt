-- The two passes: the first fault of the first, else the first fault of the second, else the image. All of it is own.
use Rattle.std.specs.Prelude.{◌≡◌, ◌⊎◌, ℕ, List, [], ◌∷◌, ◌++◌, ◌-◌, ◌==◌, Bool, true, false}
use Rattle.std.specs.Prelude.{if◌then◌else◌, length, replicate, Option, None, Some, Result, Ok, Err, Vec}
use Rattle.std.specs.declared.alloc.Global.{Global}
use Rattle.cpm_asm_expression.specs.Names.{NameTable, no_names, with_name}
use Rattle.cpm_asm_expression.specs.declared.names.Name.{Name}
use Rattle.cpm_asm.specs.Pieces.{NumberedStatement, pieces}
use Rattle.cpm_asm.specs.Statements.{Deed, End, StatementParts, statement_at}
use Rattle.cpm_asm.specs.Measures.{measured}
use Rattle.cpm_asm.specs.Data.{EmittedBytes}
use Rattle.cpm_asm.specs.Emitting.{emitted, second_fault}
use Rattle.cpm_asm.specs.Places.{blamed, depth, lowest_fault, is_skipping, position_after, start}
use Rattle.cpm_asm.specs.declared.measure.Measure.{Measure}
use Rattle.cpm_asm.specs.declared.place.Position.{Position}
use Rattle.cpm_asm.specs.declared.pass.PassStop.{PassStop}
use Rattle.cpm_asm.specs.declared.pass.PassStop.TheVariants as stops
use Rattle.cpm_asm.specs.declared.error.AsmError.{AsmError}
use Rattle.cpm_asm.specs.declared.error.AsmErrorKind.{AsmErrorKind}
use Rattle.cpm_asm.specs.declared.error.AsmErrorKind.TheVariants as kinds

-- ---- a statement at a place

abbrev pub statement_of : Position → NumberedStatement → StatementParts
statement_of p x = statement_at (is_skipping p) x.text

-- what a statement takes
abbrev pub measure_of : NameTable → Position → NumberedStatement → Measure
measure_of names p x = measured names p.address (statement_of p x).deed

-- the place after a statement
abbrev pub position_behind : NameTable → Position → NumberedStatement → Position
position_behind names p x = position_after p x.line (statement_of p x).deed (measure_of names p x)

abbrev pub table_after : NameTable → Option Name → ℕ → NameTable
table_after names None v = names
table_after names (Some name) v = with_name names name v

-- the names with that of a statement
abbrev pub with_label : NameTable → Position → NumberedStatement → NameTable
with_label names p x = table_after names (statement_of p x).label (measure_of names p x).label

-- the bytes of a statement
abbrev pub bytes_given : NameTable → Position → NumberedStatement → EmittedBytes
bytes_given names p x = emitted names p.address (measure_of names p x).next (statement_of p x).deed

-- END ends the source
abbrev pub is_end_statement : Deed → Bool
is_end_statement End = true
is_end_statement _ = false

abbrev pub last_or : {X : Type 0} → Bool → X → X → X
last_or true last more = last
last_or false last more = more

-- ---- the first pass

-- an IF that is left open is a fault of its line
abbrev pub at_end : {X : Type 0} → Position → X → Result X AsmError
at_end p x = if depth p == 0 then Ok x else Err (record { line = p.outermost; kind = kinds.Syntax })

abbrev pub unless_first : {X : Type 0} → Position → NumberedStatement → List NumberedStatement → Option AsmErrorKind → Result X AsmError → Result X AsmError
unless_first p x xs None r = r
unless_first p x xs (Some kind) r = Err (blamed p x.line kind (x ∷ xs))

-- the names of the statements
abbrev pub first_pass : NameTable → Position → List NumberedStatement → Result NameTable AsmError
first_pass names p [] = at_end p names
first_pass names p (x ∷ xs) = unless_first p x xs (lowest_fault names p (statement_of p x) (measure_of names p x))
    (last_or (is_end_statement (statement_of p x).deed) (at_end p (with_label names p x)) (first_pass (with_label names p x) (position_behind names p x) xs))

-- ---- the second pass

-- the image with bytes at an address, gaps 0; the first byte's address is 0100h
unfoldable pub laid : List ℕ → ℕ → List ℕ → List ℕ
laid image a [] = image
laid image a (b ∷ bs) = image ++ replicate (a - 256 - length image) 0 ++ b ∷ bs

-- with the bytes of a statement
abbrev pub with_statement_bytes : NameTable → List ℕ → Position → NumberedStatement → List ℕ
with_statement_bytes names image p x = laid image p.address (bytes_given names p x).bytes

abbrev pub unless_second : {X : Type 0} → ℕ → Option AsmErrorKind → Result X AsmError → Result X AsmError
unless_second line None r = r
unless_second line (Some kind) r = Err (record { line = line; kind = kind })

abbrev pub second_pass : NameTable → List ℕ → Position → List NumberedStatement → Result (List ℕ) AsmError
second_pass names image p [] = Ok image
second_pass names image p (x ∷ xs) = unless_second x.line (second_fault (bytes_given names p x).doubt)
    (last_or (is_end_statement (statement_of p x).deed) (Ok (with_statement_bytes names image p x))
    (second_pass names (with_statement_bytes names image p x) (position_behind names p x) xs))

-- ---- both

abbrev pub second_behind : List NumberedStatement → Result NameTable AsmError → Result (List ℕ) AsmError
second_behind xs (Ok names) = second_pass names [] start xs
second_behind xs (Err refusal) = Err refusal

-- the image of a source, or the answered fault
unfoldable pub both_passes : List ℕ → Result (List ℕ) AsmError
both_passes source = second_behind (pieces source) (first_pass no_names start (pieces source))

-- What a function returned, seen by view, is what a pass gives, unless memory ran out.
abbrev pub Fails : {Y : Type 0} → PassStop → Result Y AsmError → Type 0
Fails (stops.OutOfMemory line) pass = Unit {0}
Fails (stops.Refused refusal) pass = pass ≡ Err refusal

abbrev pub Gives : {X Y : Type 0} → (X → Y) → Result X PassStop → Result Y AsmError → Type 0
Gives view (Ok x) pass = pass ≡ Ok (view x)
Gives view (Err stop) pass = Fails stop pass

-- the same of the answer to the caller
abbrev pub Answers : Result (Vec ℕ Global) AsmError → Result (List ℕ) AsmError → Type 0
Answers (Ok image) pass = pass ≡ Ok image.items
Answers (Err e) pass = (e.kind ≡ kinds.OutOfMemory) ⊎ (pass ≡ Err e)
