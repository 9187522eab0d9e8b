use Rattle.std.proofs.Common.{◌≡◌, take}
use Rattle.cpm_screen.specs.Shown.{after_bytes}
use Rattle.cpm_screen.specs.State.{SameSize}
use Rattle.cpm_screen.proofs.screen.TextScreen.show_all.Given as goal

abbrev pub invariant-loop-byte : goal.invariant-loop-byte
invariant-loop-byte l = record { value : l.self ≡ after_bytes (take l.byte-index l.bytes) l.initial.self; size : SameSize l.initial.self l.self }
