use Rattle.std.proofs.Common.{◌≡◌, take}
use Rattle.std.specs.Prelude.{fold}
use Rattle.cpm_screen.specs.Modes.{with_mode}
use Rattle.cpm_screen.specs.State.{SameSize}
use Rattle.cpm_screen.proofs.screen.TextScreen.set_modes.Given as goal

abbrev pub invariant-loop-number : goal.invariant-loop-number
invariant-loop-number l =
    record { value : l.self ≡ fold (with_mode l.parameters.is_private l.on) l.initial.self (take l.number-index l.numbers); size : SameSize l.initial.self l.self }
