use Rattle.std.proofs.Common.{◌≡◌, ◌≤◌, ◌<◌, length, sym, ap, ◌∙◌, arith}
use Rattle.cpm_geom.specs.Geometry.{dpb_of}
use Rattle.cpm_geom.specs.Disk.{Disk}
use Rattle.cpm_geom.specs.declared.dpb.Dpb.{Dpb}
use Rattle.cpm_volume.specs.Files.{entry_at}
use Rattle.cpm_volume.specs.Names.{is_named}
use Rattle.cpm_directory.specs.Directory.{entries_of}
use Rattle.cpm_directory.proofs.DriveLemmas.{last_entry_small, entries_length}
use Rattle.cpm_drive.specs.Named.{altered}
use Rattle.cpm_drive.specs.Writes.{drive_written}
use Rattle.cpm_drive.proofs.NamedLemmas.{left_named, left_other, left_none, one_put, none_put}
use Rattle.cpm_drive.proofs.drive.Drive.alter_files.Goals as goal
use Rattle.cpm_drive.proofs.drive.Drive.alter_files.Goals.{then-is_named, else-is_named}

pub overflow_add-index-end : goal.overflow_add-index-end
overflow_add-index-end c =
    let d : c.dpb-index-end.result ≡ dpb_of c.args.self.now.image.format = cc in
    let last = ap (λ (p : Dpb). p.last_entry) d in
    omega (arith, last_entry_small c.args.self.now.image.format)

pub loop-index-preserved : goal.loop-index-preserved
loop-index-preserved c =
    let d : c.dpb-index-end.result ≡ dpb_of c.args.self.now.image.format = cc in
    let last = ap (λ (p : Dpb). p.last_entry) d in
    let size = entries_length c.args.self.now.image in
    let kept = c.loop-index.invariant in
    let below : c.loop-index.index < length (entries_of c.args.self.now.image) = omega arith in
    let is : c.entry-entry.result ≡ entry_at (entries_of c.args.self.now.image) c.loop-index.index = c.entry-entry.ensures.value ∙ kept.2 c.loop-index.index (omega arith) below in
    let named = sym (c.is_named.ensures ∙ ap (is_named c.args.user c.args.name.now) is) in
    elim c.if-is_named.branch [
      | then-is_named w ↦ (
          let e = w.of.ensures ∙ ap (altered c.args.alteration.now) is in
          let puts = rw e at w.put_entry.ensures in (
            rw w.self-is (ap (λ (disk : Disk). disk.format) puts.bytes ∙ kept.0),
            rw w.self-is (one_put c.loop-index.self w.put_entry.new.self c.loop-index.index _ _ puts ∙ (ap (drive_written c.loop-index.self) (sym (left_named c.args.user c.args.name.now (altered c.args.alteration.now) (entries_of c.args.self.now.image) c.loop-index.index below (named ∙ w.if-is_named.true))) ∙ kept.1)),
            λ k low high. rw w.self-is (puts.others k (λ same. omega arith) ∙ kept.2 k (omega arith) high),
          )
          )
      | else-is_named w ↦ (
        rw w.self-is kept.0,
        rw w.self-is (ap (drive_written c.loop-index.self) (sym (left_other c.args.user c.args.name.now (altered c.args.alteration.now) (entries_of c.args.self.now.image) c.loop-index.index below (named ∙ w.if-is_named.false))) ∙ kept.1),
        λ k low high. rw w.self-is (kept.2 k (omega arith) high),
      )
    ]

pub returns : goal.returns
returns c =
    let d : c.dpb-index-end.result ≡ dpb_of c.args.self.now.image.format = cc in
    let last = ap (λ (p : Dpb). p.last_entry) d in
    let size = entries_length c.args.self.now.image in
    let past : length (entries_of c.args.self.now.image) ≤ c.loop-index.index = omega arith in
    sym (none_put c.loop-index.self) ∙ (ap (drive_written c.loop-index.self) (sym (left_none c.args.user c.args.name.now (altered c.args.alteration.now) (entries_of c.args.self.now.image) c.loop-index.index past)) ∙ c.loop-index.invariant.1)
