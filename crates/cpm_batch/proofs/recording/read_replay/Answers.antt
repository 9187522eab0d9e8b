use Rattle.std.proofs.Common.{◌≡◌, Some, List, ℕ, refl, subst}
use Rattle.std.proofs.lemmas.Result.{err_from_is_err_and}
use Rattle.cpm_script.specs.Cues.{all_said}
use Rattle.cpm_script.specs.declared.fault.ScriptError.TheVariants.{Line}
use Rattle.cpm_store.specs.Log.{Gave}
use Rattle.cpm_batch.specs.Inputs.{RecordingIn}
use Rattle.cpm_batch.specs.Sources.{IsRecordingFault, IsRecordingOf, recording_fault}
use Rattle.cpm_batch.specs.declared.error.ReadError.TheVariants.{Script}
use Rattle.cpm_batch.proofs.ReadLemmas.{recording_read}
use Rattle.cpm_batch.proofs.StopLemmas.{stopped_at, stopped_missed}
use Rattle.cpm_batch.proofs.recording.read_replay.Goals as goal

pub returns-in-Ok-clause-log : goal.returns-in-Ok-clause-log
returns-in-Ok-clause-log g c =
    let text = c.in_ok-text.text.items in
    let said = all_said c.in-Ok.cues in
    recording_read g.S.Store.does c.args.name.now text c.args.at said c.args.store.now c.read_bytes.new.store c.in_ok-text.ensures.gave
    (subst (λ (t : List ℕ). IsRecordingOf c.args.at t said) c.as_slice.ensures.value c.in-Ok.ensures.cues)

pub returns-in_err-text-clause-refused_log : goal.returns-in_err-text-clause-refused_log
returns-in_err-text-clause-refused_log g c =
    let p = err_from_is_err_and c.from_residual.result c.from_residual.ensures.1 in
    rw (p.1, p.2) (stopped_missed g.S.Store.does (RecordingIn c.args.name.now c.args.at) c.args.name.now _ c.args.store.now c.read_bytes.new.store refl c.in_err-text.ensures.refusal c.in_err-text.ensures.missed)

pub returns-in-Err-Line-clause-refused_log : goal.returns-in-Err-Line-clause-refused_log
returns-in-Err-Line-clause-refused_log g c =
    let at = c.args.at in
    let text = c.in_ok-text.text.items in
    let told : IsRecordingFault at c.as_slice.result.now (Line c.in-Err-Line.number c.in-Err-Line.fault) = subst (IsRecordingFault at c.as_slice.result.now) c.in-Err-Line.field-0-is c.in-Err-Line.ensures.fault in
    stopped_at g.S.Store.does (RecordingIn c.args.name.now at) (Script c.shown.result c.in-Err-Line.number c.in-Err-Line.fault) (Gave c.args.name.now text) c.args.store.now c.read_bytes.new.store
    c.in_ok-text.ensures.gave (
      c.shown.ensures,
      record {
        text = text;
        read = subst (λ (t : List ℕ). recording_fault at t ≡ Some (c.in-Err-Line.number, c.in-Err-Line.fault)) c.as_slice.ensures.value told;
        calls = refl;
      },
    )
