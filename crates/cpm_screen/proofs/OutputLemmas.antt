-- What screens show of bytes that come in parts.
use Rattle.std.proofs.Common.{◌≡◌, ℕ, List, ◌++◌, sym}
use Rattle.std.proofs.lemmas.Grind.{fold-append}
use Rattle.cpm_screen.specs.declared.terminal.TerminalKind.{TerminalKind}
use Rattle.cpm_screen.specs.State.{fresh_screen}
use Rattle.cpm_screen.specs.Shown.{after_bytes, byte_shown}
use Rattle.cpm_screen.specs.Outputs.{screen_after}

pub shown_more : (terminal : TerminalKind) (bytes more : List ℕ) → after_bytes more (screen_after terminal bytes) ≡ screen_after terminal (bytes ++ more)
unfolding screen_after
shown_more terminal bytes more = sym (fold-append byte_shown (fresh_screen terminal 24 80) bytes more)
