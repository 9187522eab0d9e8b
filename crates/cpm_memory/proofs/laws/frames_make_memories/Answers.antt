use Rattle.cpm_memory.proofs.Bytes.{byte_at-table}
use Rattle.cpm_memory.proofs.laws.frames_make_memories.Goals as goal

pub returns : goal.returns
returns c s t address l = byte_at-table s t address l
