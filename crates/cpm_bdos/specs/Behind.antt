-- Output that waits to be taken already, in front of what a step shows.
use Rattle.std.specs.Prelude.{ℕ, List, ◌++◌}
use Rattle.cpm_console.specs.Terminal.{Terminal}
use Rattle.cpm_bdos.specs.StepResult.{StepResult, did}
use Rattle.cpm_bdos.specs.declared.session.Session.{Session}

abbrev pub terminal_behind : List ℕ → List ℕ → Terminal → Terminal
terminal_behind p q t = record t { screen = p ++ t.screen; printer = q ++ t.printer }

abbrev pub session_behind : List ℕ → List ℕ → Session → Session
session_behind p q s = record s { console = terminal_behind p q s.console }

abbrev pub did_behind : List ℕ → List ℕ → StepResult → StepResult
did_behind p q d = did (session_behind p q d.session) d.memory d.went
