-- The lines of a text, as CP/M's programs end them and as a host does.
use Rattle.std.specs.Prelude.{◌≡◌, ℕ, Bool, false, ◌&&◌, ◌||◌, ◌==◌, not, if◌then◌else◌, List, [], ◌∷◌, ◌++◌, replicate}
use Rattle.std.specs.List.{list_any}
use Rattle.cpm_image_files.specs.ImageFiles.{filler}

abbrev pub carriage_return : ℕ
carriage_return = 0x0D

abbrev pub line_feed : ℕ
line_feed = 0x0A

-- the rest of a text after a byte: a line feed that follows no carriage return gets one (own)
unfoldable pub text_behind : ℕ → List ℕ → List ℕ
text_behind previous [] = []
text_behind previous (b ∷ bs) =
    if (b == line_feed) && not (previous == carriage_return) then carriage_return ∷ line_feed ∷ text_behind b bs
    else b ∷ text_behind b bs

-- CP/M 2.2 Operating System Manual, section 5.2, Operating System Call Conventions: each line of an ASCII file ends in a carriage return and a line feed
abbrev pub to_text : List ℕ → List ℕ
to_text bytes = text_behind 0 bytes

-- a line feed is next (own)
unfoldable pub begins_with_line_feed : List ℕ → Bool
begins_with_line_feed [] = false
begins_with_line_feed (b ∷ bs) = b == line_feed

-- CP/M 2.2 Operating System Manual, section 5.2, Operating System Call Conventions: the end of an ASCII file is a control-Z;
-- a carriage return before a line feed is left out (own)
unfoldable pub from_text : List ℕ → List ℕ
from_text [] = []
from_text (b ∷ bs) =
    if b == filler then []
    else if (b == carriage_return) && begins_with_line_feed bs then from_text bs
    else b ∷ from_text bs

-- a byte that a text with line feeds alone has not (own)
abbrev pub is_control : ℕ → Bool
is_control b = (b == carriage_return) || (b == filler)

-- own: a text with line feeds alone comes back as it was, whatever number of fillers stands after it
abbrev pub TextLaw : Type 0
TextLaw = (bytes : List ℕ) (fillers : ℕ) → list_any is_control bytes ≡ false → from_text (to_text bytes ++ replicate fillers filler) ≡ bytes
