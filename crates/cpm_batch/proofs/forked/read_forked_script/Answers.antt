use Rattle.std.proofs.Common.{◌∙◌, Err, ap, refl, subst, sym}
use Rattle.std.proofs.lemmas.Result.{err_from_is_err_and}
use Rattle.cpm_script.specs.Cues.{ReadsCues, all_said}
use Rattle.cpm_script.specs.Fork.{forked_cues}
use Rattle.cpm_script.specs.declared.fault.ScriptError.{ScriptError}
use Rattle.cpm_store.specs.Log.{Gave}
use Rattle.cpm_batch.specs.Inputs.{ForkedScriptIn}
use Rattle.cpm_batch.specs.declared.error.ReadError.TheVariants.{Script}
use Rattle.cpm_batch.proofs.ReadLemmas.{forked_script_read}
use Rattle.cpm_batch.proofs.StopLemmas.{stopped_at, stopped_missed}
use Rattle.cpm_batch.proofs.forked.read_forked_script.Goals as goal

pub returns-in-Ok-clause-log : goal.returns-in-Ok-clause-log
returns-in-Ok-clause-log g c =
    let before = c.args.before in
    forked_script_read g.S.Store.does c.args.name.now c.in_ok-text.text.items c.args.at before (all_said c.in-Ok.cues) c.args.store.now c.read_bytes.new.store c.in_ok-text.ensures.gave
    (ap (forked_cues c.args.at before) (sym c.as_slice.ensures.value) ∙ c.in-Ok.ensures.read)

pub returns-in_err-text-clause-refused_log : goal.returns-in_err-text-clause-refused_log
returns-in_err-text-clause-refused_log g c =
    let p = err_from_is_err_and c.from_residual.result c.from_residual.ensures.1 in
    rw (p.1, p.2) (stopped_missed g.S.Store.does (ForkedScriptIn c.args.name.now c.args.at c.args.before) c.args.name.now _ c.args.store.now c.read_bytes.new.store refl c.in_err-text.ensures.refusal
    c.in_err-text.ensures.missed)

pub returns-in-Err-Line-clause-refused_log : goal.returns-in-Err-Line-clause-refused_log
returns-in-Err-Line-clause-refused_log g c =
    let at = c.args.at in
    let before = c.args.before in
    stopped_at g.S.Store.does (ForkedScriptIn c.args.name.now at before) (Script c.shown.result c.in-Err-Line.number c.in-Err-Line.fault) (Gave c.args.name.now c.in_ok-text.text.items) c.args.store.now
    c.read_bytes.new.store c.in_ok-text.ensures.gave (
      c.shown.ensures,
      record {
        text = c.in_ok-text.text.items;
        read = ap (forked_cues at before) (sym c.as_slice.ensures.value) ∙ subst (λ (x : ScriptError). ReadsCues (Err x) (forked_cues at before c.as_slice.result.now)) c.in-Err-Line.field-0-is
            c.in-Err-Line.ensures.read;
        calls = refl;
      },
    )
