use Rattle.std.proofs.Common.{◌∙◌, ℕ, Bool, List, ap, inr, map, option_map, refl, sym}
use Rattle.std.specs.Borrow.{Bor}
use Rattle.std.specs.List.{zip}
use Rattle.std.proofs.lemmas.Result.{err_from_is_err_and}
use Rattle.cpm_commands.specs.Run.{record_mark, record_marks}
use Rattle.cpm_commands.proofs.ListLemmas.{is_some_map}
use Rattle.cpm_commands.proofs.run.run_asked.Goals as goal

pub returns-in_err-report-clause-refusal : goal.returns-in_err-report-clause-refusal
returns-in_err-report-clause-refusal g c =
    let p = err_from_is_err_and c.from_residual-in_err-report.result c.from_residual-in_err-report.ensures.1 in
    rw (p.1, p.2) (inr (record {
      options = _;
      asked = record { typed = refl; idle = refl; played_back = refl; goes_on = refl; kept = _; kept_is = c.kept_script-kept.ensures; records = ap (map record_mark) c.as_slice.ensures.value ∙ c.in_ok-records.ensures ∙ ap (λ (b : Bool). record_marks b (option_map (λ n. n.now) c.args.task.now.keyboard) (zip c.args.config.now.sessions.items c.args.scripts.now)) (c.is_some.ensures ∙ sym (is_some_map (λ (n : Bor (List ℕ)). n.now) c.kept_script-kept.result)) };
      error = c.in_err-report.field-0.0;
      told = refl;
      stopped = c.in_err-report.ensures.refusal;
    }))

pub returns-clause-ran : goal.returns-clause-ran
returns-clause-ran g c = record {
  options = _;
  asked = record { typed = refl; idle = refl; played_back = refl; goes_on = refl; kept = _; kept_is = c.kept_script-kept.ensures; records = ap (map record_mark) c.as_slice.ensures.value ∙ c.in_ok-records.ensures ∙ ap (λ (b : Bool). record_marks b (option_map (λ n. n.now) c.args.task.now.keyboard) (zip c.args.config.now.sessions.items c.args.scripts.now)) (c.is_some.ensures ∙ sym (is_some_map (λ (n : Bor (List ℕ)). n.now) c.kept_script-kept.result)) };
  ran = c.in_ok-report.ensures.run;
}
