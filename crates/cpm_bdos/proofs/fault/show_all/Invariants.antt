use Rattle.std.proofs.Common.{◌≡◌, take}
use Rattle.cpm_console.specs.Terminal.{shown}
use Rattle.cpm_bdos.proofs.fault.show_all.Given as goal

abbrev pub invariant-loop-byte : goal.invariant-loop-byte
invariant-loop-byte l = l.console ≡ shown l.initial.console (take l.byte-index l.text)
