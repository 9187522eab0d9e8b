use Rattle.std.proofs.Common.{◌≡◌, ◌<◌, length, arith}
use Rattle.cpm_geom.specs.Geometry.{dpb_of}
use Rattle.cpm_directory.specs.Directory.{entries_of}
use Rattle.cpm_image_files.specs.ImageFiles.{records_for}
use Rattle.cpm_image_files.specs.Writing.{IsWriting}
use Rattle.cpm_image_files.proofs.Amounts.{room_of}
use Rattle.cpm_image_files.proofs.StartLemmas.{is_writable, has_room, is_started}
use Rattle.cpm_image_files.proofs.StepLemmas.{wrote}
use Rattle.cpm_image_files.proofs.DoneLemmas.{closes_put}
use Rattle.cpm_image_files.proofs.putting.written.Goals as goal

pub begin-fcb-requires-clause-writable : goal.begin-fcb-requires-clause-writable
begin-fcb-requires-clause-writable c =
    is_writable c.args.image c.requires.bytes c.requires.whole c.new-drive.result c.log_in.new.self c.new-drive.ensures c.log_in.ensures

pub begin-fcb-requires-clause-room : goal.begin-fcb-requires-clause-room
begin-fcb-requires-clause-room c =
    has_room c.args.image c.requires.bytes c.requires.whole c.new-drive.result c.log_in.new.self c.new-drive.ensures c.log_in.ensures c.args.file.now.user c.args.file.now.name c.args.bytes.now c.requires.room

pub loop-number-init : goal.loop-number-init
loop-number-init c =
    is_started c.args.image c.requires.bytes c.requires.whole c.new-drive.result c.log_in.new.self c.new-drive.ensures c.log_in.ensures c.args.file.now.user c.args.file.now.name c.args.bytes.now c.begin-fcb.new.drive c.begin-fcb.result c.begin-fcb.ensures

pub write_next-requires : goal.write_next-requires
write_next-requires c = c.loop-number.invariant.keeps.writable.free

pub loop-number-preserved : goal.loop-number-preserved
loop-number-preserved c =
    let user = c.user-user.ensures.value in
    let room = room_of (dpb_of c.args.image.format) (entries_of c.args.image) c.args.file.now.user c.args.file.now.name (records_for (length c.args.bytes.now)) c.requires.room in
    let count = c.records_for-number-end.ensures.value in
    let more : c.loop-number.number < records_for (length c.args.bytes.now) = rw count at c.loop-number-test.true in
    (wrote c.args.image c.args.file.now.user c.args.file.now.name c.args.bytes.now c.loop-number.number c.loop-number.drive c.loop-number.fcb c.record_of_bytes-record.result (rw user at c.user-user.ensures.within) c.loop-number.invariant room more c.record_of_bytes-record.ensures.value c.record_of_bytes-record.ensures.bytes c.write_next.result c.write_next.new.self c.write_next.new.fcb (rw user at c.write_next.ensures)).1

pub unreachable-requires : goal.unreachable-requires
unreachable-requires c =
    let user = c.user-user.ensures.value in
    let room = room_of (dpb_of c.args.image.format) (entries_of c.args.image) c.args.file.now.user c.args.file.now.name (records_for (length c.args.bytes.now)) c.requires.room in
    let count = c.records_for-number-end.ensures.value in
    let more : c.loop-number.number < records_for (length c.args.bytes.now) = rw count at c.loop-number-test.true in
    c.in_default.not-Done (wrote c.args.image c.args.file.now.user c.args.file.now.name c.args.bytes.now c.loop-number.number c.loop-number.drive c.loop-number.fcb c.record_of_bytes-record.result (rw user at c.user-user.ensures.within) c.loop-number.invariant room more c.record_of_bytes-record.ensures.value c.record_of_bytes-record.ensures.bytes c.write_next.result c.write_next.new.self c.write_next.new.fcb (rw user at c.write_next.ensures)).0

pub unwrap-requires : goal.unwrap-requires
unwrap-requires c =
    let user = c.user-user.ensures.value in
    let count = c.records_for-number-end.ensures.value in
    let all : c.loop-number.number ≡ records_for (length c.args.bytes.now) = omega arith in
    let writing : IsWriting c.args.image c.args.file.now.user c.args.file.now.name c.args.bytes.now (records_for (length c.args.bytes.now)) c.loop-number.drive c.loop-number.fcb = rw (← all) c.loop-number.invariant in
    (closes_put c.args.image c.args.file.now.user c.args.file.now.name c.args.bytes.now c.loop-number.drive c.loop-number.fcb (rw user at c.user-user.ensures.within) writing c.requires.sound c.requires.room c.close_file.result c.close_file.new.self c.close_file.new.fcb (rw user at c.close_file.ensures)).0

pub returns : goal.returns
returns c =
    let user = c.user-user.ensures.value in
    let count = c.records_for-number-end.ensures.value in
    let all : c.loop-number.number ≡ records_for (length c.args.bytes.now) = omega arith in
    let writing : IsWriting c.args.image c.args.file.now.user c.args.file.now.name c.args.bytes.now (records_for (length c.args.bytes.now)) c.loop-number.drive c.loop-number.fcb = rw (← all) c.loop-number.invariant in
    rw c.into_image.ensures (closes_put c.args.image c.args.file.now.user c.args.file.now.name c.args.bytes.now c.loop-number.drive c.loop-number.fcb (rw user at c.user-user.ensures.within) writing c.requires.sound c.requires.room c.close_file.result c.close_file.new.self c.close_file.new.fcb (rw user at c.close_file.ensures)).1
