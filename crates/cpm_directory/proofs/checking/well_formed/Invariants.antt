use Rattle.std.proofs.Common.{◌≡◌, ◌<◌, ℕ, None}
use Rattle.cpm_geom.specs.Geometry.{dpb_of}
use Rattle.cpm_directory.specs.Directory.{entries_of}
use Rattle.cpm_directory.specs.WellFormed.{fault_of, AreBefore}
use Rattle.cpm_directory.proofs.checking.well_formed.Given as goal

abbrev pub invariant-loop-index : goal.invariant-loop-index
invariant-loop-index l =
    AreBefore (entries_of l.image) l.index l.before × ((j : ℕ) → j < l.index → fault_of (dpb_of l.image.format) (entries_of l.image) j ≡ None)
