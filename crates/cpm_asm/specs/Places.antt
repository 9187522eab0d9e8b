-- Where a pass stands, and what the first pass finds in a statement.
-- CP/M 2.2 Operating System Manual, "CP/M Assembler", "The IF and ENDIF Directives". The depth of 8 and the order
-- of faults are own.
use Rattle.std.specs.Prelude.{ℕ, ◌+◌, ◌-◌, ◌≤◌, List, [], ◌∷◌, Option, None, Some, Bool, true}
use Rattle.std.specs.Prelude.{false, not, ◌==◌, nat_lt, nat_le, if◌then◌else◌, ◌||◌, ◌&&◌, is_some}
use Rattle.cpm_asm_expression.specs.Names.{NameTable}
use Rattle.cpm_asm_expression.specs.declared.names.Name.{Name}
use Rattle.cpm_asm_expression.specs.declared.words.Operation.{Operation}
use Rattle.cpm_asm_expression.specs.declared.words.Operation.TheVariants as o
use Rattle.cpm_asm.specs.Heads.{StatementHead, statement_front}
use Rattle.cpm_asm.specs.declared.nesting.Depth.{Depth}
use Rattle.cpm_asm.specs.declared.nesting.NestingChange.{NestingChange}
use Rattle.cpm_asm.specs.declared.nesting.NestingChange.TheVariants as turning
use Rattle.cpm_asm.specs.Pieces.{NumberedStatement}
use Rattle.cpm_asm.specs.Statements.{Deed, Equate, If, EndIf, Nest, Unnest, StatementParts}
use Rattle.cpm_asm.specs.Measures.{is_wrong}
use Rattle.cpm_asm.specs.declared.measure.Measure.{Measure}
use Rattle.cpm_asm.specs.declared.place.Position.{Position}
use Rattle.cpm_asm.specs.declared.error.AsmError.{AsmError}
use Rattle.cpm_asm.specs.declared.error.AsmErrorKind.{AsmErrorKind}
use Rattle.cpm_asm.specs.declared.error.AsmErrorKind.TheVariants as kinds

-- a pass begins at 0100h
abbrev pub start : Position
start = record { address = 256; held = 0; skipped = 0; outermost = 0 }

abbrev pub depth : Position → ℕ
depth p = p.held + p.skipped

abbrev pub IsPlace : Position → Type 0
IsPlace p = (p.address ≤ 65536) × (depth p ≤ 8)

abbrev pub position_at : Position → ℕ → Position
position_at p a = record { address = a; held = p.held; skipped = p.skipped; outermost = p.outermost }

abbrev pub first_open : Position → ℕ → ℕ
first_open p line = if depth p == 0 then line else p.outermost

-- after an IF, that holds or doesn't; a ninth one isn't opened
abbrev pub in_if : Position → ℕ → Bool → Position
in_if p line holds =
    if nat_le 8 (depth p) then p
    else if holds then record { address = p.address; held = p.held + 1; skipped = p.skipped; outermost = first_open p line }
    else record { address = p.address; held = p.held; skipped = p.skipped + 1; outermost = first_open p line }

-- the place after a statement
abbrev pub position_after : Position → ℕ → Deed → Measure → Position
position_after p line (If e) k = in_if (position_at p k.next) line k.holds
position_after p line Nest k = in_if (position_at p k.next) line false
position_after p line EndIf k = record { address = k.next; held = p.held - 1; skipped = p.skipped; outermost = p.outermost }
position_after p line Unnest k = record { address = k.next; held = p.held; skipped = p.skipped - 1; outermost = p.outermost }
position_after p line _ k = position_at p k.next

-- under an IF that doesn't hold
abbrev pub is_skipping : Position → Bool
is_skipping p = nat_lt 0 p.skipped

-- a ninth IF, or an ENDIF with no IF
abbrev pub is_misplaced : Position → Deed → Bool
is_misplaced p (If e) = nat_le 8 (depth p)
is_misplaced p Nest = nat_le 8 (depth p)
is_misplaced p EndIf = p.held == 0
is_misplaced p _ = false

abbrev pub is_equate : Deed → Bool
is_equate (Equate e) = true
is_equate _ = false

-- EQU without a label
abbrev pub is_nameless : StatementParts → Bool
is_nameless s = not (is_some s.label) && is_equate s.deed

abbrev pub is_defined : NameTable → Option Name → Bool
is_defined names None = false
is_defined names (Some name) = is_some (names name)

-- a label after the last address, and not one of EQU
abbrev pub placed_over : ℕ → StatementParts → Bool
placed_over a s = nat_le 65536 a && is_some s.label && not (is_equate s.deed)

-- of several faults the one of the lowest number
unfoldable pub lowest_fault : NameTable → Position → StatementParts → Measure → Option AsmErrorKind
lowest_fault names p s m =
    if is_wrong s.deed || is_misplaced p s.deed || is_nameless s then Some kinds.Syntax
    else if is_defined names s.label then Some kinds.DefinedTwice
    else if m.is_outside || placed_over p.address s then Some kinds.OutOfRange
    else if m.is_unknown then Some kinds.NotYetDefined
    else if m.is_below then Some kinds.OriginBelow
    else None

-- ---- IFs that are left open

-- what a statement does to the IFs that are open: opens one, closes one, ends the source
pub data Turn : Type 0 where
  Opens : Turn
  Closes : Turn
  Ends : Turn
  Stays : Turn

abbrev pub seen_turn : NestingChange → Turn
seen_turn turning.Opens = Opens
seen_turn turning.Closes = Closes
seen_turn turning.Ends = Ends
seen_turn turning.Stays = Stays

abbrev pub turn_by : Option Operation → Turn
turn_by (Some o.If) = Opens
turn_by (Some o.EndIf) = Closes
turn_by (Some o.End) = Ends
turn_by _ = Stays

abbrev pub turn_front : Option StatementHead → Turn
turn_front None = Stays
turn_front (Some head) = turn_by head.operation

unfoldable pub nesting_change_of : List ℕ → Turn
nesting_change_of text = turn_front (statement_front text)

-- how many IFs are open: those that are read, and those that are only counted
abbrev pub depth_of : Depth → ℕ
depth_of d = d.held + d.skipped

abbrev pub shallower : Depth → Depth
shallower d = if d.skipped == 0 then record { held = d.held - 1; skipped = 0 } else record { held = d.held; skipped = d.skipped - 1 }

abbrev pub deeper : Depth → Depth
deeper d = record { held = d.held; skipped = d.skipped + 1 }

-- what is known after a statement: whether all IFs are closed, or how many are open
abbrev pub sought : Depth → Turn → (Depth → Bool) → Bool
sought d Stays next = next d
sought d Opens next = next (deeper d)
sought d Ends next = if d.skipped == 0 then false else next d
sought d Closes next = if depth_of (shallower d) == 0 then true else next (shallower d)

-- Whether the IFs that are open are closed by what follows. IFs are counted, as under one that doesn't hold; END ends
-- the source where it is read (own).
abbrev pub closes : Depth → List NumberedStatement → Bool
closes d [] = false
closes d (x ∷ xs) = sought d (nesting_change_of x.text) (λ e. closes e xs)

abbrev pub is_opening : Turn → Bool
is_opening Opens = true
is_opening _ = false

-- the first of these statements opens an IF
abbrev pub opens_first : List NumberedStatement → Bool
opens_first [] = false
opens_first (x ∷ xs) = is_opening (nesting_change_of x.text)

-- A fault of the first of these statements. But where an IF before it or its own is left open, that of the first such IF:
-- it stands in an earlier line, or has the lower number.
unfoldable pub blamed : Position → ℕ → AsmErrorKind → List NumberedStatement → AsmError
blamed p line kind rest =
    if ((depth p == 0) && not (opens_first rest)) || closes (record { held = p.held; skipped = p.skipped }) rest
    then record { line = line; kind = kind }
    else record { line = first_open p line; kind = kinds.Syntax }
