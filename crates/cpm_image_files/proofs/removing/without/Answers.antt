use Rattle.std.proofs.Common.{sym, subst, refl}
use Rattle.cpm_geom.specs.Disk.{Disk}
use Rattle.cpm_image_files.specs.Taken.{IsRemoved}
use Rattle.cpm_image_files.proofs.RemovingLemmas.{fresh, answered, removed}
use Rattle.cpm_image_files.proofs.removing.without.Goals as goal

pub unwrap-requires : goal.unwrap-requires
unwrap-requires c =
    let is = fresh c.args.image c.new-drive.result c.log_in.new.self c.new-drive.ensures c.log_in.ensures in
    let told = answered c.args.image c.log_in.new.self c.user.result c.args.file.now.user c.name.result.now c.args.file.now.name (c.erase_files.result, c.erase_files.new.self) is c.user.ensures.value c.name.ensures.value c.erase_files.ensures in
    let done = removed c.args.image c.args.file.now.user c.args.file.now.name c.erase_files.result c.erase_files.new.self c.args.file.now.within c.args.file.now.plain c.requires.whole c.requires.bytes c.requires.sound c.requires.removable told in
    rw done.0.1 refl

pub returns : goal.returns
returns c =
    let is = fresh c.args.image c.new-drive.result c.log_in.new.self c.new-drive.ensures c.log_in.ensures in
    let told = answered c.args.image c.log_in.new.self c.user.result c.args.file.now.user c.name.result.now c.args.file.now.name (c.erase_files.result, c.erase_files.new.self) is c.user.ensures.value c.name.ensures.value c.erase_files.ensures in
    let done = removed c.args.image c.args.file.now.user c.args.file.now.name c.erase_files.result c.erase_files.new.self c.args.file.now.within c.args.file.now.plain c.requires.whole c.requires.bytes c.requires.sound c.requires.removable told in
    subst (λ (x : Disk). IsRemoved c.args.image c.args.file.now.user c.args.file.now.name x) (sym c.into_image.ensures) done.1
