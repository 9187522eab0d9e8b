-- The laws of line editing.
use Rattle.std.specs.Prelude.{◌≡◌, ℕ}
use Rattle.cpm_console.specs.Terminal.{Terminal}
use Rattle.cpm_console.specs.EditedLine.{EditedLine}
use Rattle.cpm_console.specs.Editing.{edit, last_echo, typed_echo, with_character}
use Rattle.cpm_console.specs.declared.line.Keystroke.TheVariants.{Erase, EraseAll}

-- own: a character is erased as it was typed
pub record IsErasedAsTyped (t : Terminal) (l : EditedLine) (c : ℕ) : Type 0 where
  -- ^H after it leaves the line as it was
  pub line : (edit Erase t (with_character l c) 8).line ≡ l
  -- and blanks as many columns as its echo took
  pub echo : last_echo (with_character l c) ≡ typed_echo l c
  -- ^X does as ^H for it and then ^X for the rest
  pub in_turn : edit EraseAll t (with_character l c) 0x18 ≡ edit EraseAll (edit Erase t (with_character l c) 8).terminal l 0x18

abbrev pub ErasingLaw : Type 0
ErasingLaw = (t : Terminal) (l : EditedLine) (c : ℕ) → IsErasedAsTyped t l c
