use Rattle.std.proofs.Common.{arith, ◌∙◌, sym}
use Rattle.cpm_decode.proofs.ArmsZ80Index.{length_of}
use Rattle.cpm_decode.proofs.index_z80.index_row.Goals as goal

pub overflow_add-result : goal.overflow_add-result
overflow_add-result c =
    let short = length_of c.args.low c.args.high c.args.opcode c.in_ok-decoded.decoded (omega arith) (sym c.row8080.ensures ∙ c.in_ok-decoded.was) in
    omega arith
