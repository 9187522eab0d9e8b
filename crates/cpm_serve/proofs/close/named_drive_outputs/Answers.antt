use Rattle.std.proofs.Common.{[], Some}
use Rattle.cpm_protocol.specs.Requests.{drive_names_of}
use Rattle.cpm_slots.specs.Host.{slot_at}
use Rattle.cpm_serve.specs.Reading.{outputs_had}
use Rattle.cpm_serve.proofs.OutputLemmas.{outputs-at, outputs-none}
use Rattle.cpm_serve.proofs.ServedLemmas.{if-open}
use Rattle.cpm_serve.proofs.close.named_drive_outputs.Goals as goal

pub returns : goal.returns
returns c =
    let o = slot_at c.args.id.0 c.args.host.now.host.slots in
    let first = c.with_output-files.ensures (Some []) (outputs-none c.new.result c.new.ensures.items) in
    let second = c.with_output-files-2.ensures _ first in
    let third = c.with_output-files-3.ensures _ second in
    let all = c.with_output.ensures _ third in
    if-open o _ (λ s at. outputs-at (drive_names_of c.args.out) o s (outputs_had c.with_output.result) at all)
