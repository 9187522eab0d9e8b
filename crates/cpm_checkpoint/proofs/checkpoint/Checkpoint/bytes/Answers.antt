use Rattle.cpm_checkpoint.specs.CheckpointBytes.{checkpoint_value}
use Rattle.cpm_checkpoint.proofs.Fitting.{restores}
use Rattle.cpm_checkpoint.proofs.checkpoint.Checkpoint.bytes.Goals as goal

pub returns-clause-restores : goal.returns-clause-restores
returns-clause-restores c =
    restores (checkpoint_value c.args.self.now) c.checkpoint_bytes.result c.checkpoint_bytes.ensures.written c.checkpoint_bytes.ensures.fits
