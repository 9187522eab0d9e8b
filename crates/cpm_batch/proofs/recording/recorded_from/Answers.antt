use Rattle.cpm_batch.proofs.RecordingLemmas.{recorded_says}
use Rattle.cpm_batch.proofs.recording.recorded_from.Goals as goal

pub returns-in-Ok-clause-cues : goal.returns-in-Ok-clause-cues
returns-in-Ok-clause-cues c =
    recorded_says c.args.text.now c.args.at c.in_ok-keys.keys.items c.as_slice.result.now c.as_slice-2.result.now c.in-Ok.cues.items c.are_late-late.result c.recordings_in_order.ensures c.in_ok-keys.ensures.read
    c.as_slice.ensures.value c.as_slice-2.ensures.value c.are_late-late.ensures c.if-not-late.false c.in-Ok.ensures
