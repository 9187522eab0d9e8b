use Rattle.cpm_asm.proofs.Encodings.{encodings}
use Rattle.cpm_asm.proofs.laws.encodings_decode.Goals as goal

pub returns : goal.returns
returns c instruction h = encodings instruction h
