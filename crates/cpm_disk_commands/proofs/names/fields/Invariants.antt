use Rattle.std.proofs.Common.{◌≡◌, ◌<◌, ◌-◌, ℕ, length, get_or}
use Rattle.std.specs.Prelude.{nat_lt, if◌then◌else◌}
use Rattle.cpm_disk_commands.specs.Names.{character_at}
use Rattle.cpm_disk_commands.proofs.names.fields.Given as goal

abbrev pub invariant-loop-place : goal.invariant-loop-place
invariant-loop-place l =
    (length l.both ≡ 11) × ((k : ℕ) → k < l.place → get_or l.both k 0 ≡ (if nat_lt k 8 then character_at l.name k else character_at l.kind (k - 8)))
