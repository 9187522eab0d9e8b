use Rattle.std.proofs.Common.{◌≡◌, ◌≤◌, ℕ, length, take, get_or}
use Rattle.cpm_bdos.specs.Disks.{changed_bytes}
use Rattle.cpm_bdos.proofs.transfer.put_changes.Given as goal

abbrev pub invariant-loop-place : goal.invariant-loop-place
invariant-loop-place l = record {
  size : length l.bytes ≡ 36;
  changed : take l.place l.bytes ≡ take l.place (changed_bytes l.old l.new l.initial.bytes);
  rest : (k : ℕ) → l.place ≤ k → get_or l.bytes k 0 ≡ get_or l.initial.bytes k 0;
}
