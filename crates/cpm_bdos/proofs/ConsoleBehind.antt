-- What a console says, and the editing of a line, are the same whatever output waits.
use Rattle.std.proofs.Common.{◌≡◌, ℕ, ◌+◌, Bool, true, false, List, [], ◌∷◌, ◌++◌, length, refl, ap}
use Rattle.std.proofs.lemmas.List.{append_assoc}
use Rattle.std.specs.Prelude.{if◌then◌else◌, ◌==◌}
use Rattle.cpm_console.specs.Terminal.{Terminal, said, shown, printed}
use Rattle.cpm_console.specs.EditedLine.{EditedLine}
use Rattle.cpm_console.specs.Editing.{EditResult, edited, key_into_line, edit, keystroke, echo_at, columns, with_character}
use Rattle.cpm_console.specs.declared.line.Keystroke.{Keystroke}
use Rattle.cpm_console.specs.declared.line.Keystroke.TheVariants.{Interrupt, NewLine, Erase, Repeat, End, ListEcho, Retype, Restart, EraseAll, Character}
use Rattle.cpm_console.specs.declared.line.LineState.{LineState}
use Rattle.cpm_console.specs.declared.line.LineState.TheVariants.{GoesOn, Ended}
use Rattle.cpm_bdos.specs.Behind.{terminal_behind}

module _ (p q : List ℕ) where
  -- what is said stands behind what waits
  pub said-behind : (t : Terminal) (xs : List ℕ) → said (terminal_behind p q t) xs ≡ terminal_behind p q (said t xs)
  unfolding said
  said-behind t xs = by_echo t.list_echo
    where
      by_echo : (echoes : Bool) → said (terminal_behind p q (record t { list_echo = echoes })) xs ≡ terminal_behind p q (said (record t { list_echo = echoes }) xs)
      by_echo true = rw (append_assoc p t.screen xs, append_assoc q t.printer xs) refl
      by_echo false = rw (append_assoc p t.screen xs) refl

  -- and so do bytes on one device alone
  pub shown-behind : (t : Terminal) (xs : List ℕ) → shown (terminal_behind p q t) xs ≡ terminal_behind p q (shown t xs)
  unfolding shown
  shown-behind t xs = rw (append_assoc p t.screen xs) refl

  pub printed-behind : (t : Terminal) (xs : List ℕ) → printed (terminal_behind p q t) xs ≡ terminal_behind p q (printed t xs)
  unfolding printed
  printed-behind t xs = rw (append_assoc q t.printer xs) refl

  abbrev pub edited_behind : EditResult → EditResult
  edited_behind e = edited (terminal_behind p q e.terminal) e.line e.progress

  edited-if : (b : Bool) (x y x' y' : EditResult) → x' ≡ edited_behind x → y' ≡ edited_behind y → (if b then x' else y') ≡ edited_behind (if b then x else y)
  edited-if true x y x' y' ex ey = ex
  edited-if false x y x' y' ex ey = ey

  edited-said : (t : Terminal) (xs : List ℕ) (l : EditedLine) (progress : LineState) → edited (said (terminal_behind p q t) xs) l progress ≡ edited_behind (edited (said t xs) l progress)
  edited-said t xs l progress = ap (λ (u : Terminal). edited u l progress) (said-behind t xs)

  edit-behind : (k : Keystroke) (t : Terminal) (l : EditedLine) (key : ℕ) → edit k (terminal_behind p q t) l key ≡ edited_behind (edit k t l key)
  edit-behind Interrupt t l key = edited-said t _ _ _
  edit-behind NewLine t l key = edited-said t _ _ _
  edit-behind Erase t l key = edited-said t _ _ _
  edit-behind Repeat t l key = edited-said t _ _ _
  edit-behind End t l key = edited-said t _ _ _
  edit-behind ListEcho t l key = refl
  edit-behind Retype t l key = edited-said t _ _ _
  edit-behind Restart t l key = edited-said t _ _ _
  edit-behind EraseAll t l key = edited-said t _ _ _
  edit-behind Character t l key =
      edited-if (length l.characters + 1 == l.limit) _ _ _ _ (edited-said t (echo_at (columns l.start l.characters) key ++ 13 ∷ []) (with_character l key) Ended) (edited-said t (echo_at (columns l.start l.characters) key) (with_character l key) GoesOn)

  pub key_into_line-behind : (t : Terminal) (l : EditedLine) (key : ℕ) → key_into_line (terminal_behind p q t) l key ≡ edited_behind (key_into_line t l key)
  key_into_line-behind t l key = edit-behind (keystroke (length l.characters == 0) key) t l key
