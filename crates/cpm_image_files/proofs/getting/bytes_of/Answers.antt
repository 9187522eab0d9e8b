use Rattle.std.proofs.Common.{◌≡◌, ◌≢◌, ◌+◌, ◌-◌, sym, ap, ◌∙◌, arith}
use Rattle.cpm_volume.specs.Files.{deleted}
use Rattle.cpm_image_files.specs.ImageFiles.{record_on}
use Rattle.cpm_image_files.specs.Taken.{taken_record, HasRecords}
use Rattle.cpm_image_files.specs.Reach.{IsEntryOf}
use Rattle.cpm_image_files.proofs.GettingLemmas.{more_records, record_is, known_on_drive}
use Rattle.cpm_image_files.proofs.getting.bytes_of.Goals as goal

pub record_by-requires : goal.record_by-requires
record_by-requires c =
    let known : IsEntryOf c.args.image.now c.args.file.now.user c.args.file.now.name c.loop-number.number c.next_entry-entry.result = rw (sym c.user-user.ensures.value, sym c.name-name.ensures.value) c.next_entry-entry.ensures in
    let live : c.args.file.now.user ≢ deleted = λ z. absurd (let small = c.args.file.now.within in omega arith) in
    known_on_drive c.args.image.now c.args.file.now.user c.args.file.now.name c.loop-number.number c.next_entry-entry.result live c.requires known

pub loop-number-preserved : goal.loop-number-preserved
loop-number-preserved c =
    let disk = c.args.image.now in
    let user = c.args.file.now.user in
    let name = c.args.file.now.name in
    let n = c.loop-number.number in
    let known : IsEntryOf disk user name n c.next_entry-entry.result = rw (sym c.user-user.ensures.value, sym c.name-name.ensures.value) c.next_entry-entry.ensures in
    let here : c.record_by.result ≡ taken_record (record_on disk user name n) = c.record_by.ensures.value ∙ ap taken_record (record_is disk user name n c.next_entry-entry.result known) in
    let back : n + 1 - 1 ≡ n = omega arith in
    let more = more_records (λ m. taken_record (record_on disk user name m)) c.loop-number.bytes.items c.extend_from_slice.new.self.items c.record_by.result n c.loop-number.invariant.0 c.loop-number.invariant.1 c.in_ok-extend_from_slice.ensures.items c.record_by.ensures.size here in
    (more.0, more.1, λ h. rw back known)

pub returns : goal.returns
returns c =
    let count : c.loop-number.number ≡ c.record_count-count.result = omega arith in
    let records : HasRecords c.args.image.now c.args.file.now.user c.args.file.now.name c.record_count-count.result = rw (sym c.user-user.ensures.value, sym c.name-name.ensures.value) c.record_count-count.ensures.records in
    record {
      count = c.record_count-count.result;
      records = records;
      size = rw (sym count) c.loop-number.invariant.0;
      each = λ m below. c.loop-number.invariant.1 m (rw count below);
    }
