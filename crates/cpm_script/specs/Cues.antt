-- What a script says where some of its lines wait, line by line. All of it is own: this project's form of
-- key scripts.
use Rattle.std.specs.Prelude.{◌≡◌, ◌≤◌, ℕ, suc, ◌+◌, Bool, not, is_some, codes, Vec, ◌&&◌, ◌||◌, ◌==◌, nat_le, if◌then◌else◌}
use Rattle.std.specs.Prelude.{List, [], ◌∷◌, ◌++◌, length, map, take, drop, Option, Some, None, option_and_then, Result, Ok, Err}
use Rattle.std.specs.List.{list_any, before_first, after_first}
use Rattle.std.specs.Str.{bytes_eq}
use Rattle.std.specs.Str.Lines.{lines}
use Rattle.std.specs.declared.alloc.Global.{Global}
use Rattle.memchr.specs.Find.{first_of, matches}
use Rattle.cpm_script.specs.KeyText.{count_of, keys_of}
use Rattle.cpm_script.specs.Script.{is_skipped, is_script_space, most_keys, at_line, or_fault}
use Rattle.cpm_script.specs.declared.cue.Cue.{Cue}
use Rattle.cpm_script.specs.declared.cue.Cue.TheVariants as cue
use Rattle.cpm_script.specs.declared.cue.ScriptReading.{ScriptReading}
use Rattle.cpm_script.specs.declared.script.Key.{Key}
use Rattle.cpm_script.specs.declared.script.KeyStop.{KeyStop}
use Rattle.cpm_script.specs.declared.script.KeyStop.TheVariants as stop
use Rattle.cpm_script.specs.declared.script.KeyStop.TheVariants.{Fault}
use Rattle.cpm_script.specs.declared.fault.LineFault.{LineFault}
use Rattle.cpm_script.specs.declared.fault.LineFault.TheVariants.{NoCount, CountFalls, NotAKey, NoKey, NoText, TooManyKeys}
use Rattle.cpm_script.specs.declared.fault.ScriptError.{ScriptError}
use Rattle.cpm_script.specs.declared.fault.ScriptError.TheVariants.{Line, OutOfMemory}

-- ---- cues

-- a key at its count; that the session waits for a key, and has shown this text since the last one; or a
-- key at once, after what stands before it
pub data CueText : Type 0 where
  Counted : (key : Key) → CueText
  Awaited : (text : List ℕ) → CueText
  Pressed : (byte : ℕ) → CueText

-- a cue, with the text that it waits for as a list
abbrev pub cue_text : Cue → CueText
cue_text (cue.Key key) = Counted key
cue_text (cue.Wait text) = Awaited text.items
cue_text (cue.Press byte) = Pressed byte

abbrev pub all_said : Vec Cue Global → List CueText
all_said cues = map cue_text cues.items

-- how many keys they are
abbrev pub cued_key_count : List CueText → ℕ
cued_key_count [] = 0
cued_key_count (Counted key ∷ cs) = suc (cued_key_count cs)
cued_key_count (Awaited text ∷ cs) = cued_key_count cs
cued_key_count (Pressed byte ∷ cs) = suc (cued_key_count cs)

-- the count of the last key with one, or this one where there is none
abbrev pub last_cue_count : ℕ → List CueText → ℕ
last_cue_count n [] = n
last_cue_count n (Counted key ∷ cs) = last_cue_count key.count cs
last_cue_count n (Awaited text ∷ cs) = last_cue_count n cs
last_cue_count n (Pressed byte ∷ cs) = last_cue_count n cs

-- a byte as a key, at a count, where there is one, or at once
abbrev pub key_cue : Option ℕ → ℕ → CueText
key_cue None byte = Pressed byte
key_cue (Some count) byte = Counted (record { count = count; byte = byte })

-- ---- a text in quotes

-- a quote and a space
abbrev pub closing : List ℕ
closing = codes "\" "

-- what stands after a first quote, cut at this place: before it, where there is anything, and after the
-- quote and the space there
abbrev pub cut_at : List ℕ → ℕ → Option (List ℕ × List ℕ)
cut_at inner place = if place == 0 then None else Some (take place inner, drop (place + 2) inner)

-- the text between a quote in front and the next one with a space after it, and what follows that space
abbrev pub quoted : List ℕ → Option (List ℕ × List ℕ)
quoted [] = None
quoted (b ∷ inner) = if b == 0x22 then option_and_then (cut_at inner) (first_of (matches inner closing 0)) else None

-- ---- a line

-- the cues with these bytes as keys after them: at least one, and not too many in all
abbrev pub cues_with_keys : List CueText → Option ℕ → List ℕ → Result (List CueText) LineFault
cues_with_keys cues at [] = Err NoKey
cues_with_keys cues at (b ∷ bytes) =
    if nat_le (cued_key_count cues + length (b ∷ bytes)) most_keys
    then Ok (cues ++ map (key_cue at) (b ∷ bytes)) else Err TooManyKeys

-- the cues with the keys that a text stands for
abbrev pub cues_with_text : List CueText → Option ℕ → List ℕ → Result (List CueText) LineFault
cues_with_text cues at text = or_fault NotAKey (keys_of text) (cues_with_keys cues at)

-- the cues with the keys of a text at the count that a number writes, which is not below the last one
abbrev pub cues_with_counted : List CueText → List ℕ → List ℕ → Result (List CueText) LineFault
cues_with_counted cues number text = or_fault NoCount (count_of number) (λ count.
    if nat_le (last_cue_count 0 cues) count then cues_with_text cues (Some count) text else Err CountFalls)

-- the cues with the keys of a text, once the session waits and has shown what another text stands for
abbrev pub cues_with_awaited : List CueText → List ℕ → List ℕ → Result (List CueText) LineFault
cues_with_awaited cues shown text = or_fault NotAKey (keys_of shown) (λ bytes. cues_with_text (cues ++ Awaited bytes ∷ []) None text)

-- the cues with the keys after a text in quotes, once the session waits and has shown that text
abbrev pub cues_with_expected : List CueText → List ℕ → Result (List CueText) LineFault
cues_with_expected cues text = or_fault NoText (quoted text) (λ parts. cues_with_awaited cues parts.0 parts.1)

abbrev pub is_wait_word : List ℕ → Bool
is_wait_word word = bytes_eq word (codes "wait")

abbrev pub is_expect : List ℕ → Bool
is_expect word = bytes_eq word (codes "expect")

-- the cues with those of a line that begins with this word
abbrev pub cues_with_word : List CueText → List ℕ → List ℕ → Result (List CueText) LineFault
cues_with_word cues word text =
    if is_wait_word word then cues_with_awaited cues [] text
    else (if is_expect word then cues_with_expected cues text else cues_with_counted cues word text)

-- the cues so far and those of this line
abbrev pub cues_with_line : List CueText → List ℕ → Result (List CueText) LineFault
cues_with_line cues line =
    if is_skipped line then Ok cues
    else cues_with_word cues (before_first is_script_space line) (after_first is_script_space line)

-- ---- a script

-- the cues of the lines, from this line number on, after these
abbrev pub cues_from : ℕ → List CueText → List (List ℕ) → Result (List CueText) (ℕ × LineFault)
cues_from number cues [] = Ok cues
cues_from number cues (line ∷ rest) =
    at_line number (cues_with_line cues line) (λ more. cues_from (number + 1) more rest)

-- what a script says, or the number of its first line with a fault, and the fault; a line ends with LF or
-- CR LF
abbrev pub cues : List ℕ → Result (List CueText) (ℕ × LineFault)
cues text = cues_from 1 [] (lines text)

-- a line begins with this word, so that what it says may be kept
abbrev pub is_cue_word : List ℕ → Bool
is_cue_word word = is_wait_word word || (is_expect word || is_some (count_of word))

abbrev pub is_cue : List ℕ → Bool
is_cue line = not (is_skipped line) && is_cue_word (before_first is_script_space line)

abbrev pub has_cue : List (List ℕ) → Bool
has_cue = list_any is_cue

-- ---- the code's values

-- the numbers beside the cues are theirs
pub record IsReading (reading : ScriptReading) : Type 0 where
  pub keys : reading.keys ≡ cued_key_count (all_said reading.cues)
  pub last : reading.last ≡ last_cue_count 0 (all_said reading.cues)
  pub room : reading.keys ≤ most_keys

-- what was read of a script, unless memory ran out
abbrev pub ReadsCues : Result (Vec Cue Global) ScriptError → Result (List CueText) (ℕ × LineFault) → Type 0
ReadsCues (Ok v) read = read ≡ Ok (all_said v)
ReadsCues (Err (Line number fault)) read = read ≡ Err (number, fault)
ReadsCues (Err OutOfMemory) read = Unit {0}

-- what was added to the cues, unless memory ran out
abbrev pub AddsCues : Result (List CueText) LineFault → Result (Unit {0}) KeyStop → List CueText → Type 0
AddsCues read (Ok done) new = read ≡ Ok new
AddsCues read (Err (Fault fault)) new = read ≡ Err fault
AddsCues read (Err stop.OutOfMemory) new = Unit {0}
