use Rattle.std.proofs.Common.{ap, arith}
use Rattle.cpm_console.specs.Editing.{EditResult}
use Rattle.cpm_console.proofs.Growth.{IsWithin-key_into_line}
use Rattle.cpm_console.proofs.line.Line.key_into_line.Goals as goal

pub returns-clause-output : goal.returns-clause-output
returns-clause-output c =
    rw (ap (λ (e : EditResult). e.terminal) c.by_keystroke.ensures) (IsWithin-key_into_line c.args.console.now c.args.self.now c.args.key (omega arith) (omega arith))
