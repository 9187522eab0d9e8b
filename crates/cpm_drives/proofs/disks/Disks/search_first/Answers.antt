use Rattle.std.proofs.Common.{refl}
use Rattle.cpm_drives.specs.Search.{search_first}
use Rattle.cpm_drives.proofs.disks.Disks.search_first.Goals as goal

pub returns-then-not-is_there : goal.returns-then-not-is_there
unfolding search_first
returns-then-not-is_there c =
    rw (← c.search_of-sought.ensures, ← c.is_there.ensures, c.if-not-is_there.true) refl

pub returns : goal.returns
unfolding search_first
returns c =
    rw (← c.search_of-sought.ensures, ← c.is_there.ensures, c.if-not-is_there.false) (c.search_on.ensures c.args.fcb.now)
