use Rattle.std.proofs.Common.{◌≡◌, ◌+◌, ◌-◌, ◌*◌, drop, take, ap, ◌∙◌, arith}
use Rattle.cpm_image_files.proofs.RecordLemmas.{record_made, record_fits}
use Rattle.cpm_image_files.proofs.putting.record_of_bytes.Goals as goal

pub returns-clause-value : goal.returns-clause-value
returns-clause-value c =
    let whole : (128 * c.args.number + c.min-size.result) - 128 * c.args.number ≡ c.min-size.result = omega arith in
    record_made c.args.bytes.now c.args.number c.min-size.result c.copy_from_slice.new.self c.requires c.min-size.ensures (c.copy_from_slice.ensures.after ∙ ap (λ k. take k (drop (128 * c.args.number) c.args.bytes.now)) whole)

pub returns-clause-bytes : goal.returns-clause-bytes
returns-clause-bytes c =
    record_fits c.args.bytes.now c.args.number _ c.requires (λ k. let fits = c.type_inv.bytes k in omega arith) (returns-clause-value c)
