-- The laws of what is shown.
use Rattle.std.specs.Prelude.{◌≡◌, ℕ, List, ◌++◌}
use Rattle.cpm_screen.specs.State.{ScreenState}
use Rattle.cpm_screen.specs.Shown.{after_bytes}

-- bytes that are shown in two parts leave the screen that they leave at once
abbrev pub PartsLaw : Type 0
PartsLaw = (first second : List ℕ) (s : ScreenState) → after_bytes (first ++ second) s ≡ after_bytes second (after_bytes first s)
