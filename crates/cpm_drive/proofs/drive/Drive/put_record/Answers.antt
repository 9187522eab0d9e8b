use Rattle.std.proofs.Common.{[], ◌∷◌, ◌≡◌, ◌≢◌, ap, ◌∙◌, arith}
use Rattle.cpm_geom.specs.Geometry.{dpb_of}
use Rattle.cpm_volume.specs.Files.{record_put}
use Rattle.cpm_volume.specs.Operations.{record_in_block}
use Rattle.cpm_drive.specs.Writes.{drive_written}
use Rattle.cpm_drive.specs.declared.drive.Drive.{Drive}
use Rattle.cpm_drive.proofs.PutLemmas.{put_bad, put_old, put_none, put_taken, writes_format}
use Rattle.cpm_drive.proofs.drive.Drive.put_record.Goals as goal

pub returns-in-Err : goal.returns-in-Err
returns-in-Err c =
    let d : c.dpb-dpb.result ≡ dpb_of c.args.self.now.image.format = cc in
    let e = rw d at c.in-Err.ensures in
    put_bad (dpb_of c.args.self.now.image.format) c.args.self.now c.args.fcb.now c.args.bytes.now c.args.clears _ c.requires.writable e.1

pub returns-then-old-ne0 : goal.returns-then-old-ne0
returns-then-old-ne0 c =
    let d : c.dpb-dpb.result ≡ dpb_of c.args.self.now.image.format = cc in
    let e = rw d at c.in-Ok.ensures in
    let other : c.in-Ok.block ≢ 0 = λ z. omega arith in
    rw (c.write_record.ensures.drive, c.write_record.ensures.fcb) (put_old (dpb_of c.args.self.now.image.format) c.args.self.now c.args.fcb.now c.args.bytes.now c.args.clears _ c.requires.writable c.in-Ok.block e.0 e.1 other)

pub returns-in-Err-take_lowest : goal.returns-in-Err-take_lowest
returns-in-Err-take_lowest c =
    let d : c.dpb-dpb.result ≡ dpb_of c.args.self.now.image.format = cc in
    let e = rw d at c.in-Ok.ensures in
    let full = rw d at c.in-Err-take_lowest.ensures in
    rw full.2 (put_none (dpb_of c.args.self.now.image.format) c.args.self.now c.args.fcb.now c.args.bytes.now c.args.clears _ c.requires.writable c.in-Ok.block e.0 e.1 (omega arith) full.1)

pub returns : goal.returns
returns c =
    let d : c.dpb-dpb.result ≡ dpb_of c.args.self.now.image.format = cc in
    let e = rw d at c.in-Ok.ensures in
    let t = rw d at c.in-Ok-take_lowest.ensures in
    let reserved = ap (λ r. record c.args.self.now { marks = record c.args.self.now.marks { reserved = r } }) t.3 in
    let format = ap (λ (drive : Drive). drive.image.format) c.clear_taken.ensures ∙ writes_format _ c.args.self.now.image in
    let written = c.write_record-2.ensures.drive ∙ ap (λ f. drive_written c.clear_taken.new.self (record_put (record_in_block (dpb_of f) c.in-Ok-take_lowest.block c.args.fcb.now.current_record) c.args.bytes.now ∷ [])) format in
    let fcb = rw (c.with_block-fcb.ensures, c.entry_place_of-place.ensures.place, c.format-format.ensures.format) at c.write_record-2.ensures.fcb in
    put_taken (dpb_of c.args.self.now.image.format) c.args.self.now c.args.fcb.now c.args.bytes.now c.args.clears _ c.requires.writable c.in-Ok.block c.in-Ok-take_lowest.block _ c.clear_taken.new.self c.write_record-2.new.self c.write_record-2.new.fcb e.0 e.1 (omega arith) t.0 t.1 t.2 reserved c.clear_taken.ensures written fcb

pub write_record-requires-2-clause-block : goal.write_record-requires-2-clause-block
write_record-requires-2-clause-block c =
    let d : c.dpb-dpb.result ≡ dpb_of c.args.self.now.image.format = cc in
    let t = rw d at c.in-Ok-take_lowest.ensures in
    let format = ap (λ (drive : Drive). drive.image.format) c.clear_taken.ensures ∙ writes_format _ c.args.self.now.image in
    rw format t.2
