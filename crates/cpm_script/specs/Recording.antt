-- The keys of a live session written as a recording, a line for each, and read back. All of it is own: this
-- project's form of recordings.
use Rattle.std.specs.Prelude.{⊤, ℕ, ◌≤◌, ◌<◌, ◌+◌, ◌^◌, ◌==◌, nat_lt, if◌then◌else◌, List, [], ◌∷◌, ◌++◌, None, Result, decimal}
use Rattle.cpm_script.specs.KeyText.{caret}
use Rattle.cpm_script.specs.Script.{script_within}
use Rattle.cpm_script.specs.declared.fault.LineFault.{LineFault}
use Rattle.cpm_script.specs.declared.script.Key.{Key}

-- how a key below 80h is written: 00h to 1Fh as a caret and the byte 40h above it (@ A to Z [ \ ] ^ _), the
-- caret as ^~, 7Fh as ^?, and each other one as itself
unfoldable pub key_text : ℕ → List ℕ
key_text b = if nat_lt b 0x20 then caret ∷ (b + 0x40) ∷ []
    else (if b == caret then caret ∷ 0x7E ∷ [] else (if b == 0x7F then caret ∷ 0x3F ∷ [] else b ∷ []))

-- the line of a key: its count in decimal digits, a space, the key and a line feed
unfoldable pub key_line : Key → List ℕ
key_line k = decimal k.count ++ 0x20 ∷ key_text k.byte ++ 0x0A ∷ []

-- the lines of the keys, one after another
abbrev pub recorded : List Key → List ℕ
recorded [] = []
recorded (k ∷ ks) = key_line k ++ recorded ks

-- the counts are at least this one, don't fall and have 64 bits, and each key is below 80h
abbrev pub AreTyped : ℕ → List Key → Type 0
AreTyped n [] = ⊤
AreTyped n (k ∷ ks) = (n ≤ k.count) × (k.count < 2 ^ 64) × (k.byte < 128) × AreTyped k.count ks

-- the keys of a recording, whose lines are those of a script, without a limit of keys; or the number of its first
-- line with a fault, and the fault
abbrev pub recording : List ℕ → Result (List Key) (ℕ × LineFault)
recording = script_within None
