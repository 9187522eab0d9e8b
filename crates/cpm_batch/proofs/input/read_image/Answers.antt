use Rattle.std.proofs.Common.{refl}
use Rattle.cpm_batch.proofs.ReadLemmas.{image_read}
use Rattle.std.proofs.Common.{refl}
use Rattle.std.proofs.lemmas.Result.{err_from_is_err_and}
use Rattle.cpm_store.specs.Log.{Gave}
use Rattle.cpm_batch.specs.Inputs.{ImageIn}
use Rattle.cpm_batch.specs.declared.error.ReadError.TheVariants.{Image}
use Rattle.cpm_batch.proofs.StopLemmas.{stopped_at, stopped_missed}
use Rattle.cpm_batch.proofs.input.read_image.Goals as goal

pub returns-in-Ok-clause-log : goal.returns-in-Ok-clause-log
returns-in-Ok-clause-log g c =
    image_read g.S.Store.does c.args.name.now c.in_ok-bytes.bytes.items c.in-Ok.image c.args.store.now c.read_bytes.new.store c.in_ok-bytes.ensures.gave
    (record { format = c.in-Ok.ensures.0; sectors = c.in-Ok.ensures.1; whole = c.in-Ok.ensures.2 })

pub returns-in_err-bytes-clause-refused_log : goal.returns-in_err-bytes-clause-refused_log
returns-in_err-bytes-clause-refused_log g c =
    let p = err_from_is_err_and c.from_residual.result c.from_residual.ensures.1 in
    rw (p.1, p.2) (stopped_missed g.S.Store.does (ImageIn c.args.name.now) c.args.name.now _ c.args.store.now c.read_bytes.new.store refl c.in_err-bytes.ensures.refusal c.in_err-bytes.ensures.missed)

pub returns-in-Err-clause-refused_log : goal.returns-in-Err-clause-refused_log
returns-in-Err-clause-refused_log g c =
    let given_back = c.in-Err.ensures.1 in
    let count = c.len.ensures in
    stopped_at g.S.Store.does (ImageIn c.args.name.now) (Image c.shown.result c.len.result) (Gave c.args.name.now c.in_ok-bytes.bytes.items) c.args.store.now c.read_bytes.new.store
    c.in_ok-bytes.ensures.gave (c.shown.ensures, record { bytes = c.in_ok-bytes.bytes.items; size = cc; format = c.in-Err.ensures.0; calls = refl })
