use Rattle.std.proofs.Common.{◌≤◌, arith, length}
use Rattle.cpm_play.proofs.ScriptedSlotLemmas.{bytes-refused, bytes-taken}
use Rattle.cpm_play.proofs.turn.read.Goals as goal

pub returns-in-Ok-clause-bytes : goal.returns-in-Ok-clause-bytes
returns-in-Ok-clause-bytes c =
    let count = c.in-Ok.ensures.count in
    let same = c.in-Ok.ensures.length in
    let fits : c.in-Ok.count ≤ length c.take_from.new.out = omega arith in
    bytes-taken c.args.host.now.host c.args.id.0 (length c.args.chunk.now) c.in-Ok.count c.args.device c.take_from.new.out c.in-Ok.ensures.reply fits

pub returns-in-Err-clause-bytes : goal.returns-in-Err-clause-bytes
returns-in-Err-clause-bytes c = bytes-refused c.args.host.now.host c.args.id.0 (length c.args.chunk.now) c.args.device c.take_from.new.out c.in-Err.field-0 c.in-Err.ensures.reply
