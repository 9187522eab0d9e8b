use Rattle.std.proofs.Common.{ap, ◌∙◌}
use Rattle.cpm_drives.specs.Calls.{FileCall}
use Rattle.cpm_ccp.specs.Parts.{own_record, with_call}
use Rattle.cpm_ccp.specs.Loading.{load_begun, after_load_open}
use Rattle.cpm_ccp.proofs.loading.begin_load.Goals as goal

pub returns-in-Err : goal.returns-in-Err
unfolding load_begun
returns-in-Err c =
    c.fail.ensures ∙ ap (λ (k : FileCall). after_load_open k.answer (with_call c.args.session.now k)) (c.in-Err.ensures own_record)
