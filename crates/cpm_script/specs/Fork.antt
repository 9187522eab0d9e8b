-- The keys of a session that is forked from another one at a count of steps. All of it is own: this
-- project's form of forks.
use Rattle.std.specs.Prelude.{ℕ, ◌+◌, ◌-◌, nat_lt, if◌then◌else◌, List, [], ◌∷◌, length, Option, Some, None, option_map, option_and_then, Result, Ok, Err}
use Rattle.std.specs.List.{filter, before_first, after_first}
use Rattle.std.specs.Option.{option_zip}
use Rattle.std.specs.Str.Lines.{lines}
use Rattle.cpm_script.specs.Cues.{CueText, cues, is_expect, is_wait_word, quoted}
use Rattle.cpm_script.specs.KeyText.{count_of, keys_of}
use Rattle.cpm_script.specs.Script.{is_skipped, is_script_space, most_keys}
use Rattle.cpm_script.specs.declared.script.Key.{Key}
use Rattle.cpm_script.specs.declared.fault.LineFault.{LineFault}
use Rattle.cpm_script.specs.declared.fault.LineFault.TheVariants.{BeforeFork, TooManyForked}

-- the keys of a script that come before a count of steps
abbrev pub keys_before : ℕ → List Key → List Key
keys_before at keys = filter (λ k. nat_lt k.count at) keys

-- what the keys of a line leave of the room, where they don't come before the fork
abbrev pub room_left : (at room : ℕ) → Option (ℕ × ℕ) → Result ℕ LineFault
room_left at room None = Ok room
room_left at room (Some line) =
    if nat_lt line.0 at then Err BeforeFork
    else (if nat_lt room line.1 then Err TooManyForked else Ok (room - line.1))

-- the fault of the line with this number, or that of the lines after it
abbrev pub line_fault_or : ℕ → Result ℕ LineFault → (ℕ → Option (ℕ × LineFault)) → Option (ℕ × LineFault)
line_fault_or number (Ok room) next = next room
line_fault_or number (Err fault) next = Some (number, fault)

-- ---- scripts with lines that wait

-- the count of a line that begins with this word, or this one where the line waits, and how many keys stand
-- after it, where it has both
abbrev pub word_cues : ℕ → List ℕ → List ℕ → Option (ℕ × ℕ)
word_cues at word text =
    if is_wait_word word then option_zip (Some at) (option_map length (keys_of text))
    else (if is_expect word then option_zip (Some at) (option_and_then (λ parts. option_map length (keys_of parts.1)) (quoted text))
    else option_zip (count_of word) (option_map length (keys_of text)))

abbrev pub line_cues : ℕ → List ℕ → Option (ℕ × ℕ)
line_cues at line =
    if is_skipped line then None else word_cues at (before_first is_script_space line) (after_first is_script_space line)

-- the first line, from this line number on, with a count before the fork, or with more keys than there is
-- room for
abbrev pub cue_fault : (at room number : ℕ) → List (List ℕ) → Option (ℕ × LineFault)
cue_fault at room number [] = None
cue_fault at room number (line ∷ rest) =
    line_fault_or number (room_left at room (line_cues at line)) (λ left. cue_fault at left (number + 1) rest)

-- the own cues of a forked session, unless a line has a fault
abbrev pub own_cues : Option (ℕ × LineFault) → Result (List CueText) (ℕ × LineFault) → Result (List CueText) (ℕ × LineFault)
own_cues fault (Err first) = Err first
own_cues None (Ok own) = Ok own
own_cues (Some fault) (Ok own) = Err fault

-- the own cues of a session that is forked at a count of steps, where its parent had so many keys before;
-- the script's own faults come first
abbrev pub forked_cues : (at before : ℕ) → List ℕ → Result (List CueText) (ℕ × LineFault)
forked_cues at before text = own_cues (cue_fault at (most_keys - before) 1 (lines text)) (cues text)
