-- Where the bytes of each statement stand in an image. All of it is own.
use Rattle.std.specs.Prelude.{◌≡◌, ◌⊎◌, ℕ, List, [], ◌∷◌, ◌++◌, ◌-◌, Bool, true, false, if◌then◌else◌, ◌||◌, is_some, length, take, drop, Result, Ok, Err}
use Rattle.std.specs.List.{All}
use Rattle.cpm_asm_expression.specs.Names.{NameTable, no_names}
use Rattle.cpm_asm.specs.Pieces.{NumberedStatement, pieces}
use Rattle.cpm_asm.specs.Statements.{Deed, Wrong, Nothing, End, If, EndIf, Nest, Unnest, StatementParts}
use Rattle.cpm_asm.specs.Places.{start}
use Rattle.cpm_asm.specs.Passes.{position_behind, first_pass, bytes_given, is_end_statement, laid, last_or, statement_of}
use Rattle.cpm_asm.specs.declared.place.Position.{Position}
use Rattle.cpm_asm.specs.declared.placed.Placement.{Placement}
use Rattle.cpm_asm.specs.declared.placed.Assembly.{Assembly}
use Rattle.cpm_asm.specs.declared.error.AsmError.{AsmError}
use Rattle.cpm_asm.specs.declared.error.AsmErrorKind.TheVariants as kinds

-- ORG, EQU, DS, DB, DW and instructions have places
abbrev pub takes_place : Deed → Bool
takes_place Wrong = false
takes_place Nothing = false
takes_place End = false
takes_place (If e) = false
takes_place EndIf = false
takes_place Nest = false
takes_place Unnest = false
takes_place _ = true

-- and so has each label; what is skipped under an IF has no label
abbrev pub has_place : StatementParts → Bool
has_place s = is_some s.label || takes_place s.deed

-- a place, where the statement has one
abbrev pub placement_of : Placement → StatementParts → List Placement
placement_of p s = if has_place s then p ∷ [] else []

-- of bytes at an address
abbrev pub placement : ℕ → ℕ → List ℕ → Placement
placement line a bytes = record { line = line; address = a; length = length bytes }

-- of a statement, at the address that was reached
abbrev pub own_place : NameTable → Position → NumberedStatement → List Placement
own_place names p x = placement_of (placement x.line p.address (bytes_given names p x).bytes) (statement_of p x)

-- of the statements up to END, one after another, under one table
abbrev pub places_from : NameTable → Position → List NumberedStatement → List Placement
places_from names p [] = []
places_from names p (x ∷ xs) = own_place names p x ++ last_or (is_end_statement (statement_of p x).deed) [] (places_from names (position_behind names p x) xs)

abbrev pub places_behind : List NumberedStatement → Result NameTable AsmError → List Placement
places_behind xs (Ok names) = places_from names start xs
places_behind xs (Err refusal) = []

-- of a source, under the table of its names
unfoldable pub places : List ℕ → List Placement
places source = places_behind (pieces source) (first_pass no_names start (pieces source))

-- the bytes of an image at a place; the image begins at 0100h
abbrev pub bytes_at : List ℕ → Placement → List ℕ
bytes_at image p = take p.length (drop (p.address - 256) image)

-- as many bytes stand there
abbrev pub IsFilled : List ℕ → Placement → Type 0
IsFilled image p = length (bytes_at image p) ≡ p.length

-- the bytes at places, laid in order after what is there, gaps 0
abbrev pub relaid : List ℕ → List ℕ → List Placement → List ℕ
relaid image front [] = front
relaid image front (p ∷ ps) = relaid image (laid front p.address (bytes_at image p)) ps

-- The places are those of the source. Each has its bytes in the image, which is these bytes one after another, gaps 0.
pub record ArePlaces (source image : List ℕ) (found : List Placement) : Type 0 where
  pub own : found ≡ places source
  pub filled : All (IsFilled image) found
  pub whole : relaid image [] found ≡ image

abbrev pub program_image : Assembly → List ℕ
program_image a = a.image.items

-- what was answered is what the passes give, unless memory ran out
abbrev pub Assembles : Result Assembly AsmError → Result (List ℕ) AsmError → Type 0
Assembles (Ok a) pass = pass ≡ Ok (program_image a)
Assembles (Err e) pass = (e.kind ≡ kinds.OutOfMemory) ⊎ (pass ≡ Err e)
