-- Which lines are heard of a text.
use Rattle.std.specs.Prelude.{⊤, ◌≡◌, ℕ, ◌-◌, ◌==◌, nat_le, if◌then◌else◌, List, [], ◌∷◌, length, take, map, Option, Some, None, option_map, Vec}
use Rattle.std.specs.declared.alloc.Global.{Global}
use Rattle.std.specs.Io.BufRead.{ends_with_byte}
use Rattle.std.specs.Str.Lines.{strip_carriage_return}

-- own: at most so many lines are heard
abbrev pub most_lines : ℕ
most_lines = 1000000

-- own: a line is heard that ends within so many bytes
abbrev pub most_bytes : ℕ
most_bytes = 16777216

abbrev pub onto_first : ℕ → List (List ℕ) → List (List ℕ)
onto_first b [] = (b ∷ []) ∷ []
onto_first b (part ∷ parts) = (b ∷ part) ∷ parts

-- the lines of a text, each with the newline that ends it; the last may have none
abbrev pub ended_lines : List ℕ → List (List ℕ)
ended_lines [] = []
ended_lines (b ∷ bs) = if b == 0x0A then (b ∷ []) ∷ ended_lines bs else onto_first b (ended_lines bs)

-- those that end within so many bytes
abbrev pub ending_within : ℕ → List (List ℕ) → List (List ℕ)
ending_within room [] = []
ending_within room (part ∷ parts) = if nat_le (length part) room then part ∷ ending_within (room - length part) parts else []

-- a line without its newline, and without the carriage return before it
abbrev pub without_end : List ℕ → List ℕ
without_end part = if ends_with_byte 0x0A part then strip_carriage_return (take (length part - 1) part) else part

abbrev pub lines_within : ℕ → List ℕ → List (List ℕ)
lines_within room text = map without_end (ending_within room (ended_lines text))

-- own: the lines that are heard of a text
abbrev pub heard : List ℕ → List (List ℕ)
heard text = take most_lines (lines_within most_bytes text)

-- A line was heard, with room for so many bytes before it and after it, or none. The known bytes
-- of the reader went from the first to the second.
abbrev pub Hears : ℕ → ℕ → Option (List ℕ) → Option (List ℕ) → Option (List ℕ) → Type 0
Hears room left None now line = ⊤
Hears room left (Some text) now None = lines_within room text ≡ []
Hears room left (Some text) (Some rest) (Some line) = lines_within room text ≡ line ∷ lines_within left rest
Hears room left (Some text) None (Some line) = ⊥

-- the line in a buffer that has its end
abbrev pub line_in : Option (Vec ℕ Global) → Option (List ℕ)
line_in line = option_map (λ v. without_end v.items) line
