-- Texts shown one after another on the console alone.
use Rattle.std.proofs.Common.{◌≡◌, ℕ, ◌+◌, List, [], ◌∷◌, ◌++◌, length, refl, ap}
use Rattle.std.proofs.lemmas.List.{append-nil, append_assoc, length-append, length-take, take_more}
use Rattle.std.proofs.lemmas.List.Sums.{fold-append}
use Rattle.cpm_console.specs.Terminal.{Terminal, shown, column_after}

-- two texts shown in turn are one text shown
pub shown-shown : (t : Terminal) (xs ys : List ℕ) → shown (shown t xs) ys ≡ shown t (xs ++ ys)
unfolding shown
shown-shown t xs ys = rw (fold-append column_after t.column xs ys, append_assoc t.screen xs ys) refl

-- nothing shown changes nothing
pub shown-nil : (t : Terminal) → shown t [] ≡ t
unfolding shown
shown-nil t = rw (append-nil t.screen) refl

-- how much waits to be taken after a text was shown
pub length-screen_shown : (t : Terminal) (xs : List ℕ) → length (shown t xs).screen ≡ length t.screen + length xs
unfolding shown
length-screen_shown t xs = length-append t.screen xs

-- what a loop of texts needs
pub ruleset showing = (shown-shown, shown-nil, length-screen_shown, length-append, length-take, take_more)
