use Rattle.std.proofs.Common.{ℕ, List, ap}
use Rattle.std.specs.Option.{is_some}
use Rattle.std.specs.Result.{is_ok}
use Rattle.cpm_geom.specs.Geometry.{dpb_of}
use Rattle.cpm_directory.specs.Directory.{entries_of}
use Rattle.cpm_image_files.specs.Writing.{HasRoomForFile, IsWriting}
use Rattle.cpm_image_files.proofs.BeginLemmas.{is_erased, is_begun}
use Rattle.cpm_image_files.proofs.putting.begin.Goals as goal

pub unwrap-requires : goal.unwrap-requires
unwrap-requires c =
    let user = c.user-user.ensures.value in
    let name = c.name-name.ensures.value in
    let room : HasRoomForFile (dpb_of c.args.drive.now.image.format) (entries_of c.args.drive.now.image) c.user-user.result c.name-name.result.now 0 = rw (user, name) c.requires.room in
    ap is_ok (is_erased c.args.drive.now c.user-user.result c.name-name.result.now c.user-user.ensures.within c.name-name.ensures.plain c.requires.writable c.requires.sound c.requires.fresh room c.erase_files.result c.erase_files.new.self c.erase_files.ensures).0.1

pub unwrap-requires-2 : goal.unwrap-requires-2
unwrap-requires-2 c =
    let user = c.user-user.ensures.value in
    let name = c.name-name.ensures.value in
    let room : HasRoomForFile (dpb_of c.args.drive.now.image.format) (entries_of c.args.drive.now.image) c.user-user.result c.name-name.result.now 0 = rw (user, name) c.requires.room in
    ap is_some (is_begun c.args.drive.now c.user-user.result c.name-name.result.now c.user-user.ensures.within c.name-name.ensures.plain c.requires.writable c.requires.sound c.requires.fresh room c.erase_files.result c.erase_files.new.self c.erase_files.ensures c.name-name.ensures.bytes c.make_file.result c.make_file.new.self c.fcb_of-fcb.result c.make_file.new.fcb c.fcb_of-fcb.ensures c.make_file.ensures).0.1

pub returns : goal.returns
returns c =
    let user = c.user-user.ensures.value in
    let name = c.name-name.ensures.value in
    let room : HasRoomForFile (dpb_of c.args.drive.now.image.format) (entries_of c.args.drive.now.image) c.user-user.result c.name-name.result.now 0 = rw (user, name) c.requires.room in
    let begun : (bytes : List ℕ) → IsWriting c.args.drive.now.image c.user-user.result c.name-name.result.now bytes 0 c.make_file.new.self c.make_file.new.fcb = (is_begun c.args.drive.now c.user-user.result c.name-name.result.now c.user-user.ensures.within c.name-name.ensures.plain c.requires.writable c.requires.sound c.requires.fresh room c.erase_files.result c.erase_files.new.self c.erase_files.ensures c.name-name.ensures.bytes c.make_file.result c.make_file.new.self c.fcb_of-fcb.result c.make_file.new.fcb c.fcb_of-fcb.ensures c.make_file.ensures).1 in
    rw (← user, ← name) begun
