-- Texts said one after another.
use Rattle.std.proofs.Common.{◌≡◌, ℕ, ◌+◌, ◌%◌, ◌<◌, List, [], ◌∷◌, ◌++◌, length, take, get_or, map}
use Rattle.std.proofs.lemmas.List.{map_more, length-append, length-take, length-map, append_assoc}
use Rattle.cpm_console.proofs.Said.{said-said, said-nil, length-screen_said, printer_said-le}
use Rattle.cpm_ccp.specs.Listing.{low_seven}

-- one character more with its high bit off
pub low_seven-more : (xs : List ℕ) (i : ℕ) → i < length xs → map low_seven (take (i + 1) xs) ≡ map low_seven (take i xs) ++ get_or xs i 0 % 128 ∷ []
low_seven-more xs i inside = map_more low_seven xs i 0 inside

pub length-low_seven : (xs : List ℕ) → length (map low_seven xs) ≡ length xs
length-low_seven xs = length-map xs low_seven

pub ruleset texts = (said-said, said-nil, length-screen_said, printer_said-le, low_seven-more, length-low_seven, length-take, append_assoc)
