-- Who types at a machine that is played live: what is heard of it, and after how many steps. All of it is own.
use Rattle.std.specs.Prelude.{⊤, ◌≡◌, ℕ, ◌+◌, ◌<◌, ◌≤◌, Bool, true, false, List, [], ◌∷◌, ◌++◌, Option, Some, None}
use Rattle.std.specs.Io.KnownBytes.{IsAtEnd}
use Rattle.cpm_script.specs.declared.script.Key.{Key}
use Rattle.cpm_play.specs.Typing.{HasQuit, HasReadKeys}
use Rattle.cpm_play.specs.Wanting.{longest_turn}
use Rattle.cpm_play.specs.declared.typist.Heard.{Heard}
use Rattle.cpm_play.specs.declared.typist.Heard.TheVariants as heard
use Rattle.cpm_play.specs.declared.typist.KeyNeed.{KeyNeed}
use Rattle.cpm_play.specs.declared.typist.KeyNeed.TheVariants.{Pending, Wanted}
use Rattle.cpm_play.specs.declared.typist.TypingEnd.TheVariants.{Quit, InputEnd, Signal}

-- what was heard of a typist that was asked after so many steps
pub record Hearing : Type 0 where
  pub count : ℕ
  pub heard : Heard

abbrev pub hearing : ℕ → Heard → Hearing
hearing count said = record { count = count; heard = said }

-- What is known of a typist: whether it is patient, the bytes that are still to be read of it, all that was heard of it, and whether it has broken in on a
-- script that is played before. A patient one waits for a key where one is wanted, and gives none elsewhere. One that isn't answers at once, also that there
-- is none so far.
pub record TypingState : Type 0 where
  pub is_patient : Bool
  pub unread : Option (List ℕ)
  pub heard : Option (List Hearing)
  pub has_broken_in : Bool

-- nobody
abbrev pub nobody : TypingState
nobody = record { is_patient = true; unread = None; heard = None; has_broken_in = false }

-- ---- while a script is played

-- a script is played no further where a typist has broken in; a patient one never does
abbrev pub breaks : (is_patient has_broken_in : Bool) → Bool
breaks true has_broken_in = false
breaks false has_broken_in = has_broken_in

abbrev pub is_over : TypingState → Bool
is_over t = breaks t.is_patient t.has_broken_in

-- nothing was heard of a typist, nor read, but whether it breaks in
pub record HasAttended (before after : TypingState) : Type 0 where
  pub nature : after.is_patient ≡ before.is_patient
  pub unread : after.unread ≡ before.unread
  pub heard : after.heard ≡ before.heard
  pub stays : is_over before ≡ true → is_over after ≡ true

-- ---- an answer

abbrev pub wants_key : KeyNeed → Bool
wants_key Wanted = true
wants_key need = false

-- what is known to have been heard grows by this
abbrev pub HasHeard : Option (List Hearing) → Option (List Hearing) → List Hearing → Type 0
HasHeard None after hs = ⊤
HasHeard (Some before) None hs = ⊥
HasHeard (Some before) (Some after) hs = after ≡ before ++ hs

-- a key was read, or ^], or there was nothing to read; and nothing else but bytes that are no keys
abbrev pub IsReadAs : Option (List ℕ) → Option (List ℕ) → Heard → Type 0
IsReadAs before after (heard.Key byte) = (byte < 128) × HasReadKeys before after (byte ∷ [])
IsReadAs before after heard.Nothing = HasReadKeys before after []
IsReadAs before after (heard.End Quit) = HasQuit before after []
IsReadAs before after (heard.End InputEnd) = HasReadKeys before after [] × IsAtEnd after
IsReadAs before after (heard.End Signal) = HasReadKeys before after []

-- this was heard after so many steps, and it breaks in no more than it did
pub record IsHeard (count : ℕ) (before after : TypingState) (answer : Heard) : Type 0 where
  pub said : HasHeard before.heard after.heard (hearing count answer ∷ [])
  pub read : IsReadAs before.unread after.unread answer
  pub stays : is_over after ≡ is_over before

-- nothing was heard where the typist failed
pub record HasHeardNothing (before after : TypingState) : Type 0 where
  pub said : HasHeard before.heard after.heard []
  pub read : HasReadKeys before.unread after.unread []
  pub stays : is_over after ≡ is_over before

-- a machine takes no key while one is pending
abbrev pub CanBeHeard : KeyNeed → Heard → Type 0
CanBeHeard Pending (heard.Key byte) = ⊥
CanBeHeard need said = ⊤

-- a key, or that no more is typed
abbrev pub IsSomething : Heard → Type 0
IsSomething heard.Nothing = ⊥
IsSomething said = ⊤

-- a patient typist waits for a key where one is wanted, and gives nothing elsewhere
abbrev pub IsHeardPatiently : KeyNeed → Heard → Type 0
IsHeardPatiently Wanted said = IsSomething said
IsHeardPatiently need said = said ≡ heard.Nothing

-- ---- all answers

-- the keys among them, each with the count at which it was heard
abbrev pub key_heard : ℕ → Heard → List Key
key_heard count (heard.Key byte) = record { count = count; byte = byte } ∷ []
key_heard count said = []

abbrev pub keys_heard : List Hearing → List Key
keys_heard [] = []
keys_heard (h ∷ hs) = key_heard h.count h.heard ++ keys_heard hs

-- the typist was asked at counts that don't fall, from one count up to another, with no more steps between than those of the longest turn
abbrev pub AreOften : (from until : ℕ) → List Hearing → Type 0
AreOften from until [] = (from ≤ until) × (until ≤ from + longest_turn)
AreOften from until (h ∷ hs) = (from ≤ h.count) × (h.count ≤ from + longest_turn) × AreOften h.count until hs
