use Rattle.std.proofs.Common.{take}
use Rattle.cpm_commands.specs.Drives.{AreReadBy, IsFileRead}
use Rattle.cpm_commands.proofs.drives.read_all_placed.Given as goal

abbrev pub invariant-loop-file : goal.invariant-loop-file
invariant-loop-file g l = AreReadBy (IsFileRead g.F.Store.does) (take l.file-index l.placed) l.fn.files l.files l.read.items
