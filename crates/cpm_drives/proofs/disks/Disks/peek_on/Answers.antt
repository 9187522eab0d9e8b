use Rattle.std.proofs.Common.{arith, sym, ◌∙◌}
use Rattle.cpm_drives.proofs.DriveLemmas.{is_own_drive, is_own_and_none, not_own, marked-own, marked-system}
use Rattle.cpm_drives.proofs.disks.Disks.peek_on.Goals as goal

pub returns-then-not-is_own : goal.returns-then-not-is_own
returns-then-not-is_own c =
    rw (marked-system c.args.self.now c.args.system.now c.args.drive (not_own c.args.self.now c.args.drive (sym c.is_own.ensures.value ∙ c.if-not-is_own.true))) (rw c.new.ensures at c.peek_next.ensures)

pub unreachable-requires : goal.unreachable-requires
unreachable-requires c =
    is_own_and_none c.args.self.now c.from.result c.args.drive c.index-self-from.result c.from.ensures (omega (arith, c.is_own.ensures.within c.if-not-is_own.false)) c.in_default.is (sym c.is_own.ensures.value ∙ c.if-not-is_own.false)

pub returns : goal.returns
returns c =
    rw (marked-own c.args.self.now c.args.system.now c.args.drive c.in-Some.own (is_own_drive c.args.self.now c.from.result c.args.drive c.in-Some.own c.index-self-from.result c.from.ensures (omega (arith, c.is_own.ensures.within c.if-not-is_own.false)) c.in-Some.is)) (rw c.lent.ensures at c.peek_next-2.ensures)
