use Rattle.std.proofs.Common.{map}
use Rattle.cpm_batch.specs.Inputs.{given}
use Rattle.cpm_slots.specs.Host.{Host}
use Rattle.cpm_run.specs.Openings.{IsRoomLeft}
use Rattle.cpm_run.specs.Run.{starts_read}
use Rattle.cpm_run.proofs.OpeningLemmas.{IsForkedTo}
use Rattle.cpm_run.proofs.openings.fork_all.Given as goal

abbrev pub invariant-loop-place : goal.invariant-loop-place
invariant-loop-place l = (h : Host) → IsRoomLeft h 0 0 l.fn.room → IsForkedTo (starts_read (map given l.inputs)) h l.place l.left
