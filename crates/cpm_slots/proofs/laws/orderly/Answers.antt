use Rattle.std.proofs.Common.{arith}
use Rattle.cpm_slots.specs.Host.{new_host}
use Rattle.cpm_slots.proofs.OrderLaws.{IsHost-after}
use Rattle.cpm_slots.proofs.laws.orderly.Goals as goal

pub returns : goal.returns
returns c = λ system frames events. IsHost-after events (new_host system frames) (record { ordered = tt; below = tt; few = omega arith; quotas = omega arith })
