-- Writers that show what a program writes.
use Rattle.std.specs.Prelude.{⊤, ℕ, List, Option, Some, None}
use Rattle.cpm_screen.specs.declared.terminal.TerminalKind.{TerminalKind}
use Rattle.cpm_screen.specs.declared.picture.ScreenForm.{ScreenForm}
use Rattle.cpm_screen.specs.Pictures.{IsPicture}
use Rattle.cpm_screen.specs.State.{ScreenState, fresh_screen}
use Rattle.cpm_screen.specs.Shown.{after_bytes}

-- own: the bytes that were shown on the screen of a terminal
pub record ShownBytes : Type 0 where
  pub terminal : TerminalKind
  pub bytes : List ℕ

abbrev pub shown_bytes : TerminalKind → List ℕ → ShownBytes
shown_bytes terminal bytes = record { terminal = terminal; bytes = bytes }

-- own: the screen of 24 rows and 80 columns that shows them
unfoldable pub screen_after : TerminalKind → List ℕ → ScreenState
screen_after terminal bytes = after_bytes bytes (fresh_screen terminal 24 80)

-- own: the bytes of a file of this form that has the screen of a terminal, after all bytes that a writer got, where these are known
abbrev pub IsPictureOf : ScreenForm → TerminalKind → (got : Option (List ℕ)) → List ℕ → Type 0
IsPictureOf form terminal None bytes = ⊤
IsPictureOf form terminal (Some got) bytes = IsPicture form (screen_after terminal got) bytes
