use Rattle.std.proofs.Common.{◌/◌, sym, ◌∙◌, arith}
use Rattle.cpm_geom.proofs.RecordLemmas.{are_listed}
use Rattle.cpm_directory.proofs.DriveLemmas.{entries_length, entry_record}
use Rattle.cpm_directory.proofs.SlotLemmas.{must_be_ok}
use Rattle.cpm_drive.proofs.NamedLemmas.{finds, finds_none}
use Rattle.cpm_drive.proofs.searching.search.Goals as goal

pub unwrap-requires : goal.unwrap-requires
unwrap-requires c =
    let size = entries_length c.args.image.now in
    let below = c.in-Ok.ensures.1 in
    must_be_ok c.record.result _ _ _ c.record.ensures (entry_record c.args.image.now.format c.in-Ok.index (omega arith))

pub returns-in-Ok-clause-found : goal.returns-in-Ok-clause-found
returns-in-Ok-clause-found c =
    let found = rw c.unwrap.ensures at c.record.ensures in
    let at = (are_listed c.args.image.now).at (c.in-Ok.index / 4) found.0 in
    finds c.args.image.now c.args.pattern.now c.args.from c.args.buffer.now c.in-Ok.index c.copy_from_slice.new.self c.in-Ok.ensures.0 c.in-Ok.ensures.1 (c.copy_from_slice.ensures.after ∙ (found.1 ∙ sym at))

pub returns-in-Ok-clause-within : goal.returns-in-Ok-clause-within
returns-in-Ok-clause-within c =
    let size = entries_length c.args.image.now in
    let below = c.in-Ok.ensures.1 in
    omega arith

pub returns-in-Err-clause-found : goal.returns-in-Err-clause-found
returns-in-Err-clause-found c = finds_none c.args.image.now c.args.pattern.now c.args.from c.args.buffer.now c.in-Err.ensures.1
