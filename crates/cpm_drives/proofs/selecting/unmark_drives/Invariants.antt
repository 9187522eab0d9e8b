use Rattle.std.proofs.Common.{◌≡◌, take, drop, ◌++◌, length}
use Rattle.cpm_drives.specs.Selecting.{reset_from}
use Rattle.cpm_drives.proofs.selecting.unmark_drives.Given as goal

abbrev pub invariant-loop-number : goal.invariant-loop-number
invariant-loop-number l =
    (take l.number l.drives ++ reset_from l.vector l.number (drop l.number l.drives) ≡ reset_from l.vector 0 l.initial.drives) × (length l.drives ≡ 4)
