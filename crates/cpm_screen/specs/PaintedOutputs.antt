-- What a writer that paints sends to its terminal.
use Rattle.std.specs.Prelude.{◌≡◌, ℕ, List, ◌++◌, Option}
use Rattle.std.specs.Io.KnownBytes.{Appends}
use Rattle.cpm_screen.specs.Outputs.{ShownBytes, screen_after}
use Rattle.cpm_screen.specs.Painted.{PainterState, end_bytes, fitted}
use Rattle.cpm_screen.specs.Pictures.{PaintsAnew}

-- own: it has sent some bytes more
pub record HasSent {W : Type 0} (contents : W → Option (List ℕ)) (sent_before sent : List ℕ) (before now : W) : Type 0 where
  pub more : List ℕ
  pub sent_is : sent ≡ sent_before ++ more
  pub got : Appends (contents before) (contents now) more

-- own: all that was sent shows the screen of all that was written, as far as the terminal has room
abbrev pub IsPainted : (sent : List ℕ) → PainterState → ShownBytes → Type 0
IsPainted sent painter shown =
    PaintsAnew sent painter.rows painter.columns (fitted painter.rows painter.columns (screen_after shown.terminal shown.bytes))

-- own: what was sent shows the last screen, and then the cursor went below it
pub record IsFinished {W : Type 0} (contents : W → Option (List ℕ)) (sent_before : List ℕ) (painter : PainterState) (shown : ShownBytes) (before now : W)
    : Type 0 where
  pub more : List ℕ
  pub painted : IsPainted (sent_before ++ more) painter shown
  pub got : Appends (contents before) (contents now) (more ++ end_bytes painter.rows)
