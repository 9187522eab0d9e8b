-- Values of the code have bytes: their numbers are of 64 bits, and their bytes are bytes.
use Rattle.std.proofs.Common.{◌≡◌, ◌∙◌, ◌<◌, ◌≤◌, ℕ, zero, suc, List, [], ◌∷◌, length, get_or, Ok, Err}
use Rattle.std.proofs.Common.{ap, arith, option_map}
use Rattle.std.specs.Prelude.{IfOk, Result}
use Rattle.std.specs.Global.{Vec}
use Rattle.std.proofs.lemmas.List.{length-map}
use Rattle.cpm_checkpoint.specs.CheckpointBytes.{AreByteValues, CheckpointValue, IsCheckpoint, checkpoint_bytes, checkpoint_value, most_sessions}
use Rattle.cpm_checkpoint.specs.CheckpointBytes.{session_value}
use Rattle.cpm_checkpoint.specs.CheckpointReading.{IsWholeParsed, checkpoint_read}
use Rattle.cpm_checkpoint.specs.declared.checkpoint.Checkpoint.{Checkpoint}
use Rattle.cpm_checkpoint.specs.declared.checkpoint.CheckpointError.{CheckpointError}
use Rattle.cpm_checkpoint.proofs.Sessions.{read_written, written_read}

pub all_bytes : (xs : List ℕ) → ((i : ℕ) → get_or xs i 0 < 256) → AreByteValues xs
all_bytes [] h k d within = absurd (omega (arith, within))
all_bytes (x ∷ xs) h zero d within = h 0
all_bytes (x ∷ xs) h (suc k) d within = all_bytes xs (λ (i : ℕ). h (suc i)) k d (omega (arith, within))

-- what is read of bytes is written as these, and has 64 sessions at most
pub is_written : (bytes : List ℕ) (r : Result Checkpoint CheckpointError) → AreByteValues bytes → IsWholeParsed checkpoint_value (checkpoint_read bytes) r
    → IfOk r (λ c. checkpoint_bytes (checkpoint_value c) ≡ bytes)
is_written bytes (Ok c) all read = (read_written (checkpoint_value c) bytes all read).0
is_written bytes (Err fault) all read = tt

pub has_few : (bytes : List ℕ) (r : Result Checkpoint CheckpointError) → AreByteValues bytes → IsWholeParsed checkpoint_value (checkpoint_read bytes) r
    → IfOk r (λ c. length c.sessions.items ≤ most_sessions)
has_few bytes (Ok c) all read =
    let few = (read_written (checkpoint_value c) bytes all read).1.count in
    let same = length-map c.sessions.items (option_map session_value) in
    omega (arith, few, same)
has_few bytes (Err fault) all read = tt

-- what was written is read
pub restores : {E : Type 0} → (v : CheckpointValue) (r : Result (Vec ℕ) E) → IfOk r (λ bytes. bytes.items ≡ checkpoint_bytes v)
    → IfOk r (λ _. IsCheckpoint v) → IfOk r (λ bytes. checkpoint_read bytes.items ≡ Ok v)
restores {E} v (Ok bytes) written fits = ap checkpoint_read written ∙ written_read v fits
restores {E} v (Err fault) written fits = tt
