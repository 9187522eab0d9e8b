use Rattle.std.proofs.Common.{arith}
use Rattle.cpm_decode.proofs.ArmsZ80Index.{indexes}
use Rattle.cpm_decode.proofs.index_z80.has_index.Goals as goal

pub returns : goal.returns
returns c = indexes c.args.opcode (omega arith)
