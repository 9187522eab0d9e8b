-- Laws of checkpoints. All of it is own.
use Rattle.std.specs.Prelude.{◌≡◌, ℕ, List, Ok}
use Rattle.cpm_checkpoint.specs.CheckpointBytes.{AreByteValues, CheckpointValue, IsCheckpoint, checkpoint_bytes}
use Rattle.cpm_checkpoint.specs.CheckpointReading.{checkpoint_read}

-- what was written is read
abbrev pub WrittenIsRead : Type 0
WrittenIsRead = (c : CheckpointValue) → IsCheckpoint c → checkpoint_read (checkpoint_bytes c) ≡ Ok c

-- what is read of bytes is written as just these bytes
abbrev pub ReadIsWritten : Type 0
ReadIsWritten = (c : CheckpointValue) (bytes : List ℕ) → AreByteValues bytes → checkpoint_read bytes ≡ Ok c
    → (checkpoint_bytes c ≡ bytes) × IsCheckpoint c
