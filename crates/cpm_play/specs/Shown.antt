-- What a script that may wait keeps of what was shown since the last key. All of it is own.
use Rattle.std.specs.Prelude.{◌≡◌, ℕ, ◌+◌, ◌<◌, ◌≤◌, ◌⊎◌, Bool, true, List, [], ◌∷◌, ◌++◌, length}
use Rattle.std.specs.Borrow.{Bor}
use Rattle.std.specs.List.{list_any}
use Rattle.std.specs.Str.{bytes_eq}
use Rattle.memchr.specs.Find.{OccursAt}
use Rattle.cpm_script.specs.declared.cue.Cue.{Cue}
use Rattle.cpm_script.specs.declared.cue.Cue.TheVariants.{Key as Timed, Wait, Press}
use Rattle.cpm_play.specs.Cued.{HasShown}
use Rattle.cpm_play.specs.declared.shown.Shown.{Shown}

-- a text is waited for before the next key
abbrev pub IsAwaited : List ℕ → List Cue → Type 0
IsAwaited text [] = ⊥
IsAwaited text (Timed k ∷ cues) = ⊥
IsAwaited text (Press b ∷ cues) = ⊥
IsAwaited text (Wait awaited ∷ cues) = (text ≡ awaited.items) ⊎ IsAwaited text cues

-- a text is one of those that were found
abbrev pub is_found : List ℕ → List (Bor (List ℕ)) → Bool
is_found text texts = list_any (λ known. bytes_eq known.now text) texts

abbrev pub IsFound : List ℕ → List (Bor (List ℕ)) → Type 0
IsFound text texts = is_found text texts ≡ true

-- A text stands at a place of what was shown, whatever is shown later: so it may stand there, where not all of it was shown yet.
abbrev pub MayStandAt : List ℕ → List ℕ → ℕ → Type 0
MayStandAt text shown place = (later : List ℕ) × OccursAt (shown ++ later) text place

-- What is kept stands for all that was shown: it is the end of that. The texts that were found stand in it,
-- and each other text that is waited for stands nowhere before that end, nor will it.
pub record StandsFor (kept : Shown) (shown : List ℕ) : Type 0 where
  pub gone : List ℕ
  pub parts : shown ≡ gone ++ kept.tail.items
  pub found : (text : List ℕ) → IsFound text kept.found.items → HasShown text shown
  pub others : (text : List ℕ) → IsAwaited text kept.cues.now →
      IsFound text kept.found.items ⊎ ((place : ℕ) → MayStandAt text shown place → length gone ≤ place)

-- a text stands in what is kept, or was found before
abbrev pub IsKeptOrFound : Shown → List ℕ → Type 0
IsKeptOrFound kept text = HasShown text kept.tail.items ⊎ IsFound text kept.found.items

-- no text that is waited for is longer
abbrev pub AreAtMost : ℕ → List Cue → Type 0
AreAtMost n cues = (text : List ℕ) → IsAwaited text cues → length text ≤ n

-- What is kept is shorter than the length at which it is cut. That is at most 64 KiB more than the longest text that is waited for.
pub record IsShort (kept : Shown) : Type 0 where
  pub below : length kept.tail.items < kept.cut_at
  pub most : (n : ℕ) → AreAtMost n kept.cues.now → kept.cut_at ≤ 65536 + n

-- more was shown
pub record HasGrown (old now : Shown) (text : List ℕ) : Type 0 where
  pub cues : now.cues.now ≡ old.cues.now
  pub shown : (shown : List ℕ) → StandsFor old shown → StandsFor now (shown ++ text)

-- The texts that are waited for were looked for in what is kept. Those that were found there are among the found ones,
-- and each other is at most so long, which is no more than needed, or was found before.
pub record AreNoted (cues : List Cue) (tail : List ℕ) (longest : ℕ) (old now : List (Bor (List ℕ))) : Type 0 where
  pub kept : (text : List ℕ) → IsFound text old → IsFound text now
  pub found : (text : List ℕ) → IsFound text now → IsFound text old ⊎ HasShown text tail
  pub others : (text : List ℕ) → IsAwaited text cues → IsFound text now ⊎ ((length text ≤ longest) × (HasShown text tail → ⊥))
  pub least : (n : ℕ) → AreAtMost n cues → longest ≤ n
