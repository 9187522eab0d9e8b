-- Laws over the keys before a fork, of recorded ones, of recordings, and of scripts with lines that wait. (own)
use Rattle.std.specs.Prelude.{⊤, ◌≡◌, ◌≢◌, ℕ, ◌+◌, ◌<◌, ◌≤◌, Bool, true, false, List, [], ◌∷◌, ◌++◌, length, map, Result, Ok, Err, IfOk}
use Rattle.std.specs.List.{All}
use Rattle.cpm_script.specs.Cues.{Awaited, Counted, Pressed, CueText, cues, cued_key_count}
use Rattle.cpm_script.specs.Fork.{forked_cues, keys_before}
use Rattle.cpm_script.specs.Recording.{AreTyped, recorded, recording}
use Rattle.cpm_script.specs.Script.{most_keys, script}
use Rattle.cpm_script.specs.declared.fault.LineFault.{LineFault}
use Rattle.cpm_script.specs.declared.fault.LineFault.TheVariants.{NoCount, TooManyKeys}
use Rattle.cpm_script.specs.declared.script.Key.{Key}

-- the counts are at least this one, and do not fall
abbrev pub AreFrom : ℕ → List Key → Type 0
AreFrom n [] = ⊤
AreFrom n (k ∷ ks) = (n ≤ k.count) × AreFrom k.count ks

-- the first keys are in order and come before a count, and the rest comes at that count or later, in order
pub record IsCut (n at : ℕ) (keys first : List Key) : Type 0 where
  pub in_order : AreFrom n first
  pub before : All (λ k. k.count < at) first
  pub rest : List Key
  pub joined : keys ≡ first ++ rest
  pub from_cut : AreFrom at rest

-- the keys before a count are the first of those that are in order
abbrev pub KeysBeforeAreFirst : Type 0
KeysBeforeAreFirst = (n at : ℕ) (keys : List Key) → AreFrom n keys → IsCut n at keys (keys_before at keys)

-- the lines of keys that were typed are a script with just these keys
abbrev pub RecordedKeys : Type 0
RecordedKeys = (keys : List Key) → AreTyped 0 keys → length keys ≤ most_keys → script (recorded keys) ≡ Ok keys

-- ---- recordings, of any number of keys

-- the lines of keys that were typed are a recording of just these keys, however many
abbrev pub RecordingsGiveTheirKeysAgain : Type 0
RecordingsGiveTheirKeysAgain = (keys : List Key) → AreTyped 0 keys → recording (recorded keys) ≡ Ok keys

-- what a recording gives might have been typed
abbrev pub RecordingsInOrder : Type 0
RecordingsInOrder = (text : List ℕ) → IfOk (recording text) (AreTyped 0)

-- a script with its keys is a recording of them
abbrev pub ScriptsAreRecordings : Type 0
ScriptsAreRecordings = (text : List ℕ) (keys : List Key) → script text ≡ Ok keys → recording text ≡ Ok keys

-- a script with another fault than too many keys is no recording either, and has this fault
abbrev pub FaultsOfScripts : Type 0
FaultsOfScripts =
    (text : List ℕ) (number : ℕ) (fault : LineFault) → script text ≡ Err (number, fault) → fault ≢ TooManyKeys
    → recording text ≡ Err (number, fault)

-- a recording of at most 4,096 keys is a script with them
abbrev pub FewAreScripts : Type 0
FewAreScripts = (text : List ℕ) (keys : List Key) → recording text ≡ Ok keys → length keys ≤ most_keys → script text ≡ Ok keys

-- ---- scripts with lines that wait

-- the same keys, or the same fault unless a count is missing
abbrev pub MeansTheSame : Result (List Key) (ℕ × LineFault) → Result (List CueText) (ℕ × LineFault) → Type 0
MeansTheSame (Ok keys) read = read ≡ Ok (map Counted keys)
MeansTheSame (Err fault) read = fault.1 ≢ NoCount → read ≡ Err fault

-- a script with no line that waits means what it meant
abbrev pub PlainScripts : Type 0
PlainScripts = (text : List ℕ) → MeansTheSame (script text) (cues text)

-- the counts are at least this one and do not fall, whatever waits between them
abbrev pub CountsRise : ℕ → List CueText → Type 0
CountsRise n [] = ⊤
CountsRise n (Counted key ∷ cs) = (n ≤ key.count) × CountsRise key.count cs
CountsRise n (Awaited text ∷ cs) = CountsRise n cs
CountsRise n (Pressed byte ∷ cs) = CountsRise n cs

-- each key is below 80h
abbrev pub KeysAreAscii : List CueText → Type 0
KeysAreAscii [] = ⊤
KeysAreAscii (Counted key ∷ cs) = (key.byte < 128) × KeysAreAscii cs
KeysAreAscii (Awaited text ∷ cs) = KeysAreAscii cs
KeysAreAscii (Pressed byte ∷ cs) = (byte < 128) × KeysAreAscii cs

-- each key without a count stands after a wait, or after another such key
abbrev pub PressesFollow : Bool → List CueText → Type 0
PressesFollow waited [] = ⊤
PressesFollow waited (Counted key ∷ cs) = PressesFollow false cs
PressesFollow waited (Awaited text ∷ cs) = PressesFollow true cs
PressesFollow waited (Pressed byte ∷ cs) = (waited ≡ true) × PressesFollow true cs

pub record AreInOrder (cs : List CueText) : Type 0 where
  pub few : cued_key_count cs ≤ most_keys
  pub counts : CountsRise 0 cs
  pub ascii : KeysAreAscii cs
  pub presses : PressesFollow false cs

-- what a script says is in order, and has not too many keys
abbrev pub CuesInOrder : Type 0
CuesInOrder = (text : List ℕ) → IfOk (cues text) AreInOrder

-- what the own script of a forked session says: in order, from the count of the fork on, and with the keys that its parent had before not too many keys
pub record AreOwn (at before : ℕ) (cs : List CueText) : Type 0 where
  pub in_order : AreInOrder cs
  pub from_fork : CountsRise at cs
  pub room : before + cued_key_count cs ≤ most_keys

-- the own script of a forked session goes on from the fork
abbrev pub ForkedCuesInOrder : Type 0
ForkedCuesInOrder = (at before : ℕ) (text : List ℕ) → before ≤ most_keys → IfOk (forked_cues at before text) (AreOwn at before)
