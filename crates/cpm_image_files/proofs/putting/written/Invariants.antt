use Rattle.cpm_image_files.specs.Writing.{IsWriting}
use Rattle.cpm_image_files.proofs.putting.written.Given as goal

abbrev pub invariant-loop-number : goal.invariant-loop-number
invariant-loop-number l =
    IsWriting l.fn.image l.file.user l.file.name l.bytes l.number l.drive l.fcb
