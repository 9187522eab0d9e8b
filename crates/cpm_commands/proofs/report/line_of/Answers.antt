use Rattle.std.proofs.Common.{arith, ◌∙◌, ◌++◌, ◌∷◌, [], decimal}
use Rattle.std.proofs.lemmas.Grind.{common_steps}
use Rattle.std.proofs.lemmas.Result.{IfOk-weaker}
use Rattle.cpm_commands.specs.Report.{stop_words}
use Rattle.cpm_commands.proofs.report.line_of.Goals as goal

pub returns : goal.returns
returns c =
    let session = c.args.session.now in
    IfOk-weaker c.format.result _ _
    (λ s h. h ∙ (λ i. (c.as_str-name.ensures.value i) ++ (32 ∷ ((c.end_word-word.ensures i) ++ (32 ∷ (decimal session.ending.count ++ (32 ∷ (decimal session.bytes ++ (stop_words c.args.stop ++ (10 ∷ [])))))))))
    ∙ grind (arith, common_steps)) c.format.ensures.ok
