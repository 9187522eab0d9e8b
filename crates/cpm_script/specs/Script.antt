-- The keys of a script, line by line, with a limit of their number or without one. All of it is own: this
-- project's form of key scripts.
use Rattle.std.specs.Prelude.{◌≡◌, ℕ, ◌+◌, ◌-◌, Bool, true, not, is_some, slice_get, Vec, ◌&&◌, ◌||◌, ◌==◌, nat_le}
use Rattle.std.specs.Prelude.{if◌then◌else◌, List, [], ◌∷◌, ◌++◌, length, map, slice_index, Option, Some, None, Result, Ok, Err}
use Rattle.std.specs.List.{list_all, list_any, before_first, after_first}
use Rattle.std.specs.Option.{option_map_or}
use Rattle.std.specs.declared.alloc.Global.{Global}
use Rattle.std.specs.Str.Lines.{lines}
use Rattle.cpm_script.specs.KeyText.{count_of, keys_of}
use Rattle.cpm_script.specs.declared.script.Key.{Key}
use Rattle.cpm_script.specs.declared.script.KeyStop.{KeyStop}
use Rattle.cpm_script.specs.declared.script.KeyStop.TheVariants as stop
use Rattle.cpm_script.specs.declared.script.KeyStop.TheVariants.{Fault}
use Rattle.cpm_script.specs.declared.fault.LineFault.{LineFault}
use Rattle.cpm_script.specs.declared.fault.LineFault.TheVariants.{NoCount, CountFalls, NotAKey, NoKey, TooManyKeys}
use Rattle.cpm_script.specs.declared.fault.ScriptError.{ScriptError}
use Rattle.cpm_script.specs.declared.fault.ScriptError.TheVariants.{Line, OutOfMemory}

abbrev pub is_script_space : ℕ → Bool
is_script_space b = b == 0x20

-- a line with nothing but spaces, or one that begins with #
abbrev pub is_skipped : List ℕ → Bool
is_skipped line = list_all is_script_space line || (slice_index line 0 == 0x23)

-- these bytes as keys, all at one count
abbrev pub keys_at : ℕ → List ℕ → List Key
keys_at count = map (λ b. record { count = count; byte = b })

-- the count is not below that of the last key
abbrev pub is_after : List Key → ℕ → Bool
is_after keys count =
    option_map_or (λ k. nat_le k.count count) (slice_get keys (length keys - 1)) true

-- so many keys are no more than the limit, where there is one
abbrev pub is_allowed : Option ℕ → ℕ → Bool
is_allowed None count = true
is_allowed (Some most) count = nat_le count most

-- the keys with more of them at one count: at least one, and not too many in all
abbrev pub keys_added_within : Option ℕ → List Key → ℕ → List ℕ → Result (List Key) LineFault
keys_added_within limit keys count [] = Err NoKey
keys_added_within limit keys count (b ∷ bytes) =
    if is_allowed limit (length keys + length (b ∷ bytes))
    then Ok (keys ++ keys_at count (b ∷ bytes)) else Err TooManyKeys

-- what follows from a value, where it is there
abbrev pub or_fault : {X Y : Type 0} → LineFault → Option X → (X → Result Y LineFault)
    → Result Y LineFault
or_fault fault None next = Err fault
or_fault fault (Some x) next = next x

-- the keys with those that a text stands for
abbrev pub keys_with_text_within : Option ℕ → List Key → ℕ → List ℕ → Result (List Key) LineFault
keys_with_text_within limit keys count text = or_fault NotAKey (keys_of text) (keys_added_within limit keys count)

-- the keys with those of a text, at the count that a number writes
abbrev pub keys_with_counted_within : Option ℕ → List Key → List ℕ → List ℕ → Result (List Key) LineFault
keys_with_counted_within limit keys number text = or_fault NoCount (count_of number) (λ count.
    if is_after keys count then keys_with_text_within limit keys count text else Err CountFalls)

-- the keys of the lines so far and of this line: what stands before its first space is the count
abbrev pub keys_with_line_within : Option ℕ → List Key → List ℕ → Result (List Key) LineFault
keys_with_line_within limit keys line =
    if is_skipped line then Ok keys
    else keys_with_counted_within limit keys (before_first is_script_space line) (after_first is_script_space line)

-- what follows a line that was read, or its number with its fault
abbrev pub at_line : {X Y : Type 0} → ℕ → Result X LineFault → (X → Result Y (ℕ × LineFault))
    → Result Y (ℕ × LineFault)
at_line number (Ok x) next = next x
at_line number (Err fault) next = Err (number, fault)

-- the keys of the lines, from this line number on, after these keys
abbrev pub script_from_within : Option ℕ → ℕ → List Key → List (List ℕ) → Result (List Key) (ℕ × LineFault)
script_from_within limit number keys [] = Ok keys
script_from_within limit number keys (line ∷ rest) =
    at_line number (keys_with_line_within limit keys line) (λ more. script_from_within limit (number + 1) more rest)

-- the keys of a text with at most so many, or with any number where there is no limit; or the number of its first
-- line with a fault, and the fault; a line ends with LF or CR LF
abbrev pub script_within : Option ℕ → List ℕ → Result (List Key) (ℕ × LineFault)
script_within limit text = script_from_within limit 1 [] (lines text)

-- ---- a script: with the limit

abbrev pub most_keys : ℕ
most_keys = 4096

abbrev pub keys_added : List Key → ℕ → List ℕ → Result (List Key) LineFault
keys_added = keys_added_within (Some most_keys)

abbrev pub keys_with_text : List Key → ℕ → List ℕ → Result (List Key) LineFault
keys_with_text = keys_with_text_within (Some most_keys)

abbrev pub keys_with_counted : List Key → List ℕ → List ℕ → Result (List Key) LineFault
keys_with_counted = keys_with_counted_within (Some most_keys)

abbrev pub keys_with_line : List Key → List ℕ → Result (List Key) LineFault
keys_with_line = keys_with_line_within (Some most_keys)

abbrev pub script_from : ℕ → List Key → List (List ℕ) → Result (List Key) (ℕ × LineFault)
script_from = script_from_within (Some most_keys)

-- the keys of a script, or the number of its first line with a fault, and the fault
abbrev pub script : List ℕ → Result (List Key) (ℕ × LineFault)
script = script_within (Some most_keys)

-- ---- what the code says

-- one of the lines has a count, so that its keys may be kept
abbrev pub is_counted : List ℕ → Bool
is_counted line = not (is_skipped line) && is_some (count_of (before_first is_script_space line))

abbrev pub has_count : List (List ℕ) → Bool
has_count = list_any is_counted

-- what was read of a script, unless memory ran out
abbrev pub Reads : Result (Vec Key Global) ScriptError → Result (List Key) (ℕ × LineFault) → Type 0
Reads (Ok v) read = read ≡ Ok v.items
Reads (Err (Line number fault)) read = read ≡ Err (number, fault)
Reads (Err OutOfMemory) read = Unit {0}

-- what was added to the keys, unless memory ran out
abbrev pub Adds : Result (List Key) LineFault → Result (Unit {0}) KeyStop → List Key → Type 0
Adds read (Ok done) new = read ≡ Ok new
Adds read (Err (Fault fault)) new = read ≡ Err fault
Adds read (Err stop.OutOfMemory) new = Unit {0}

-- the fault of a line whose text goes on where there is no room for a key
abbrev pub fault_past_last_key : List ℕ → LineFault
fault_past_last_key rest = if is_some (keys_of rest) then TooManyKeys else NotAKey
