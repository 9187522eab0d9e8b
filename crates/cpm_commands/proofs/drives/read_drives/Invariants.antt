use Rattle.std.proofs.Common.{take}
use Rattle.cpm_commands.specs.Drives.{AreDrivesRead}
use Rattle.cpm_commands.proofs.drives.read_drives.Given as goal

abbrev pub invariant-loop-place : goal.invariant-loop-place
invariant-loop-place g l = AreDrivesRead g.F.Store.does (take l.place-index l.places) l.fn.files l.files l.drives.items
