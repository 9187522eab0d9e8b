use Rattle.cpm_geom.specs.Geometry.{dpb_of}
use Rattle.cpm_directory.specs.Directory.{entries_of}
use Rattle.cpm_image_files.specs.Reach.{IsEndBefore}
use Rattle.cpm_image_files.proofs.records.record_count.Given as goal

abbrev pub invariant-loop-index : goal.invariant-loop-index
invariant-loop-index l =
    IsEndBefore (dpb_of l.image.format) (entries_of l.image) l.user l.name l.index l.count
