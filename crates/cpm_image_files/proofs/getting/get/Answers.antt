use Rattle.std.proofs.Common.{◌≡◌, ◌≢◌, true, false, subst, arith}
use Rattle.std.specs.List.{list_any}
use Rattle.cpm_geom.specs.Disk.{Disk}
use Rattle.cpm_volume.specs.Files.{deleted}
use Rattle.cpm_volume.specs.Names.{is_named}
use Rattle.cpm_directory.specs.Directory.{entries_of}
use Rattle.cpm_image_files.specs.Taken.{AreBytesOf}
use Rattle.cpm_image_files.proofs.CountLemmas.{any_there, any_absent}
use Rattle.cpm_image_files.proofs.getting.get.Goals as goal

pub returns-then-not-is_there : goal.returns-then-not-is_there
returns-then-not-is_there c =
    let live : c.args.file.now.user ≢ deleted = λ z. absurd (let small = c.args.file.now.within in omega arith) in
    let none : list_any (is_named c.args.file.now.user c.args.file.now.name) (entries_of c.args.image.now) ≡ false = cc in
    (λ i. c.in_default.ensures i, any_absent c.args.image.now c.args.file.now.user c.args.file.now.name live none)

pub returns-in-Ok : goal.returns-in-Ok
returns-in-Ok c =
    let live : c.args.file.now.user ≢ deleted = λ z. absurd (let small = c.args.file.now.within in omega arith) in
    let some : list_any (is_named c.args.file.now.user c.args.file.now.name) (entries_of c.args.image.now) ≡ true = cc in
    record {
      sound = λ i. c.in_default.ensures i;
      there = any_there c.args.image.now c.args.file.now.user c.args.file.now.name live some;
      file = subst (λ (x : Disk). AreBytesOf x c.args.file.now.user c.args.file.now.name c.in-Ok.bytes.items) c.new-image.ensures c.in-Ok.ensures;
    }

pub returns-in-Err-bytes_of : goal.returns-in-Err-bytes_of
returns-in-Err-bytes_of c =
    let live : c.args.file.now.user ≢ deleted = λ z. absurd (let small = c.args.file.now.within in omega arith) in
    let some : list_any (is_named c.args.file.now.user c.args.file.now.name) (entries_of c.args.image.now) ≡ true = cc in
    (λ i. c.in_default.ensures i, any_there c.args.image.now c.args.file.now.user c.args.file.now.name live some)
