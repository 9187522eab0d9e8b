use Rattle.std.proofs.Common.{sym, ap, ◌∙◌, ℕ, List, Option, is_some, unwrap_or}
use Rattle.cpm_drives.proofs.SectorLemmas.{read-there, read-not}
use Rattle.cpm_drives.proofs.disks.Disks.read_sector.Goals as goal

pub returns-in-Ok-clause-there : goal.returns-in-Ok-clause-there
returns-in-Ok-clause-there c =
    sym (ap (λ (o : Option (List ℕ)). is_some o) (read-there c.args.self.now c.args.system.now c.image_at.result.now c.args.drive c.args.track c.args.sector c.in-Ok.bytes.now c.image_at.ensures c.in-Ok.ensures.0 c.in-Ok.ensures.1))

pub returns-in-Ok-clause-bytes : goal.returns-in-Ok-clause-bytes
returns-in-Ok-clause-bytes c =
    c.copy_from_slice.ensures.after ∙ sym (ap (λ (o : Option (List ℕ)). unwrap_or o c.args.buffer.now) (read-there c.args.self.now c.args.system.now c.image_at.result.now c.args.drive c.args.track c.args.sector c.in-Ok.bytes.now c.image_at.ensures c.in-Ok.ensures.0 c.in-Ok.ensures.1))

pub returns-in-Err-clause-there : goal.returns-in-Err-clause-there
returns-in-Err-clause-there c =
    sym (ap (λ (o : Option (List ℕ)). is_some o) (read-not c.args.self.now c.args.system.now c.image_at.result.now c.args.drive c.args.track c.args.sector c.image_at.ensures c.in-Err.ensures.0))

pub returns-in-Err-clause-bytes : goal.returns-in-Err-clause-bytes
returns-in-Err-clause-bytes c =
    sym (ap (λ (o : Option (List ℕ)). unwrap_or o c.args.buffer.now) (read-not c.args.self.now c.args.system.now c.image_at.result.now c.args.drive c.args.track c.args.sector c.image_at.ensures c.in-Err.ensures.0))
