use Rattle.std.proofs.Common.{◌∙◌, refl, sym, arith}
use Rattle.std.proofs.lemmas.Result.{err_from_is_err_and}
use Rattle.cpm_drive.specs.Reads.{lent_drive}
use Rattle.cpm_drives.specs.Calls.{on_drive}
use Rattle.cpm_drives.specs.Files.{read_random, read_random_on}
use Rattle.cpm_drives.proofs.DriveLemmas.{own_is_some, system_is_protected}
use Rattle.cpm_drives.proofs.CallLemmas.{no_drive, own_call, system_call}
use Rattle.cpm_drives.proofs.disks.Disks.read_random.Goals as goal

pub returns-in_err-number : goal.returns-in_err-number
unfolding read_random
returns-in_err-number c =
    let p = err_from_is_err_and c.from_residual.result c.from_residual.ensures.1 in
    rw (p.1, p.2) (no_drive (read_random_on c.args.self.now.user c.args.fcb.now c.args.buffer.now) c.args.self.now c.use_named.new.self c.args.system.now c.args.fcb.now c.args.buffer.now _ c.in_err-number.ensures)

pub read_random-requires : goal.read_random-requires
read_random-requires c =
    system_is_protected c.args.self.now c.use_named.new.self c.args.system.now c.in_ok-number.number c.in_ok-number.ensures.2 (sym c.is_own.ensures.value ∙ c.if-not-is_own.true)

pub returns-then-not-is_own : goal.returns-then-not-is_own
unfolding read_random
returns-then-not-is_own c =
    system_call (λ user. read_random_on user c.args.fcb.now c.args.buffer.now) c.args.self.now c.use_named.new.self c.args.system.now c.args.fcb.now c.args.buffer.now c.in_ok-number.number (on_drive c.read_random.result (lent_drive c.args.system.now c.use_named.new.self.system) c.read_random.new.fcb c.read_random.new.buffer) c.in_ok-number.ensures (sym c.is_own.ensures.value ∙ c.if-not-is_own.true) c.read_random.ensures refl

pub drive_in-drive-requires : goal.drive_in-drive-requires
drive_in-drive-requires c =
    own_is_some c.use_named.new.self c.from.result _ _ c.from.ensures (omega (arith, c.is_own.ensures.within c.if-not-is_own.false)) (sym c.is_own.ensures.value ∙ c.if-not-is_own.false)

pub returns : goal.returns
unfolding read_random
returns c =
    own_call (λ user. read_random_on user c.args.fcb.now c.args.buffer.now) c.args.self.now c.use_named.new.self c.args.system.now c.args.fcb.now c.args.buffer.now c.in_ok-number.number c.from.result _ c.drive_in-drive.result.now (on_drive c.read_random-2.result c.read_random-2.new.drive c.read_random-2.new.fcb c.read_random-2.new.buffer) c.in_ok-number.ensures c.from.ensures (omega (arith, c.is_own.ensures.within c.if-not-is_own.false)) c.drive_in-drive.ensures.value c.read_random-2.ensures
