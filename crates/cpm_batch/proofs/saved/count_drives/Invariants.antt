use Rattle.std.proofs.Common.{◌≡◌, ◌≤◌, is_some, take}
use Rattle.std.specs.Prelude.{count_by}
use Rattle.cpm_batch.proofs.saved.count_drives.Given as goal

abbrev pub invariant-loop-drive : goal.invariant-loop-drive
invariant-loop-drive l = record {
  same : l.count ≡ count_by is_some (take l.drive-index l.drives);
  fits : l.count ≤ l.drive-index;
}
