use Rattle.std.proofs.Common.{◌≡◌, drop, map}
use Rattle.std.specs.Prelude.{IfSome}
use Rattle.cpm_batch.specs.Inputs.{given}
use Rattle.cpm_machine.specs.SystemDigest.{system_digest}
use Rattle.cpm_slots.specs.Host.{new_host}
use Rattle.cpm_run.specs.Run.{starts_read}
use Rattle.cpm_run.proofs.OpeningLemmas.{IsOpenedTo}
use Rattle.cpm_run.proofs.openings.open_all.Given as goal

abbrev pub invariant-loop-place : goal.invariant-loop-place
invariant-loop-place l = record {
  opened : IsOpenedTo (starts_read (map given l.inputs)) (new_host l.system l.config.frames) l.place (starts_read (map given (drop l.place l.inputs))) l.room;
  known : IfSome l.known (λ d. d ≡ system_digest l.system);
}
