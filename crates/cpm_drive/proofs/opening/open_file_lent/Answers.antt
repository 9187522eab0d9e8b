use Rattle.std.proofs.Common.{◌≡◌, ◌%◌, arith}
use Rattle.cpm_geom.specs.Geometry.{dpb_of}
use Rattle.cpm_volume.specs.Files.{group_of}
use Rattle.cpm_directory.specs.Directory.{entries_of}
use Rattle.cpm_directory.proofs.DriveLemmas.{entries_length}
use Rattle.cpm_drive.proofs.FileLemmas.{open_missing, open_lesser, opens}
use Rattle.cpm_drive.proofs.opening.open_file_lent.Goals as goal

pub returns-in-None : goal.returns-in-None
returns-in-None c =
    let number : c.from-number.result ≡ c.args.fcb.now.extent.ex % 32 = c.from-number.ensures in
    let group : c.group_of-group.result ≡ group_of (dpb_of c.args.image.now.format) (c.args.fcb.now.extent.ex % 32) = cc in
    open_missing (dpb_of c.args.image.now.format) (entries_of c.args.image.now) c.args.user c.args.fcb.now (rw group at c.in-None.ensures)

pub returns-in-Some-opened_to_read : goal.returns-in-Some-opened_to_read
returns-in-Some-opened_to_read c =
    let size = entries_length c.args.image.now in
    let within = c.in-Some.ensures.1 in
    let number : c.from-number.result ≡ c.args.fcb.now.extent.ex % 32 = c.from-number.ensures in
    let group : c.group_of-group.result ≡ group_of (dpb_of c.args.image.now.format) (c.args.fcb.now.extent.ex % 32) = cc in
    let is = rw group at c.in-Some.ensures.0 in
    let value = rw (number, c.entry.ensures.value) at c.in-Some-opened_to_read.ensures in
    rw c.directory_code.ensures (opens (dpb_of c.args.image.now.format) (entries_of c.args.image.now) c.args.user c.args.fcb.now c.in-Some.index is (omega arith) c.in-Some-opened_to_read.extent value)

pub returns-in-None-opened_to_read : goal.returns-in-None-opened_to_read
returns-in-None-opened_to_read c =
    let size = entries_length c.args.image.now in
    let within = c.in-Some.ensures.1 in
    let number : c.from-number.result ≡ c.args.fcb.now.extent.ex % 32 = c.from-number.ensures in
    let group : c.group_of-group.result ≡ group_of (dpb_of c.args.image.now.format) (c.args.fcb.now.extent.ex % 32) = cc in
    let is = rw group at c.in-Some.ensures.0 in
    let value = rw (number, c.entry.ensures.value) at c.in-None-opened_to_read.ensures in
    open_lesser (dpb_of c.args.image.now.format) (entries_of c.args.image.now) c.args.user c.args.fcb.now c.in-Some.index is (omega arith) value
