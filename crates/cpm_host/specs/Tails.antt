-- The tail of a command, of the words after a program's name.
use Rattle.std.specs.Prelude.{⊤, ◌≡◌, ℕ, ◌+◌, ◌&&◌, nat_le, nat_lt, Bool, if◌then◌else◌, List, [], ◌∷◌, ◌++◌, length, map, chars, Result, Ok, Err}
use Rattle.std.specs.List.{list_all}
use Rattle.cpm_ccp.specs.Capitals.{capital}
use Rattle.cpm_shown.specs.Shown.{shown_of}
use Rattle.cpm_host.specs.declared.error.HostError.{HostError}
use Rattle.cpm_host.specs.declared.error.HostError.TheVariants.{OutOfMemory, TailRefused}

-- own: a character that is typed on a line
abbrev pub is_typed : ℕ → Bool
is_typed c = nat_le 0x20 c && nat_lt c 0x7F

-- own: a word may stand after a tail: there is room for it and its blank, 126 bytes in all
unfoldable pub fits_tail : List ℕ → List ℕ → Bool
fits_tail tail word = list_all is_typed word && nat_lt (length tail + length word) 126

-- CP/M 2.2 Operating System Manual, section 1.6, Transient Commands: the tail with one more word, after a blank and in capitals
abbrev pub tail_with_word : List ℕ → List ℕ → List ℕ
tail_with_word tail word = tail ++ 0x20 ∷ map capital word

-- the tail with more words, or the first that may not stand there
abbrev pub tail_from : List ℕ → List (List ℕ) → Result (List ℕ) (List ℕ)
tail_from tail [] = Ok tail
tail_from tail (word ∷ words) = if fits_tail tail word then tail_from (tail_with_word tail word) words else Err word

-- how words that make no tail are refused
abbrev pub IsTailRefusal : List (List ℕ) → HostError → Type 0
IsTailRefusal words (TailRefused shown) = (word : List ℕ) × (tail_from [] words ≡ Err word) × (shown.bytes ≡ shown_of (chars word))
IsTailRefusal words OutOfMemory = ⊤
IsTailRefusal words _ = ⊥
