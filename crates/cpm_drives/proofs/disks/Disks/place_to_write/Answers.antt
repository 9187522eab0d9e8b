use Rattle.std.proofs.Common.{◌∙◌, sym}
use Rattle.std.proofs.lemmas.Result.{err_from_is_err_and}
use Rattle.cpm_drives.proofs.CallLemmas.{no_drive, refused_call}
use Rattle.cpm_drives.proofs.disks.Disks.place_to_write.Goals as goal

pub returns-in_err-number : goal.returns-in_err-number
returns-in_err-number c =
    let p = err_from_is_err_and c.from_residual.result c.from_residual.ensures.1 in
    rw p.1 (λ call buffer refuses. rw p.2 (no_drive call c.args.self.now c.use_named.new.self c.args.system.now c.args.fcb.now buffer _ c.in_err-number.ensures))

pub returns-then-not-is_own : goal.returns-then-not-is_own
returns-then-not-is_own c =
    λ call buffer refuses. refused_call call c.args.self.now c.use_named.new.self c.args.system.now c.args.fcb.now buffer c.in_ok-number.number c.in_ok-number.ensures (sym c.is_own.ensures.value ∙ c.if-not-is_own.true) refuses

pub returns : goal.returns
returns c =
    rw c.from.ensures (c.in_ok-number.ensures, sym c.is_own.ensures.value ∙ c.if-not-is_own.false, c.is_own.ensures.within c.if-not-is_own.false)
