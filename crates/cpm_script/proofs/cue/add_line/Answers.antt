use Rattle.std.proofs.Common.{Bool, ap₂, ◌∙◌, sym, subst}
use Rattle.std.specs.Prelude.{◌||◌}
use Rattle.cpm_script.specs.Cues.{AddsCues, all_said, cues_with_word}
use Rattle.cpm_script.proofs.CueLemmas.{kept-line}
use Rattle.cpm_script.proofs.cue.add_line.Goals as goal

pub returns-clause-added : goal.returns-clause-added
returns-clause-added c =
    let cues = all_said c.args.reading.now.cues in
    let kept = ap₂ (λ (a b : Bool). a || b) (sym c.if-is_blank.ensures) (sym c.if-is_comment.ensures) in
    subst (λ read. AddsCues read c.add_word.result (all_said c.add_word.new.reading.cues))
    (sym (kept-line cues c.args.line.now kept ∙ ap₂ (cues_with_word cues) (sym c.parted.ensures.number) (sym c.parted.ensures.text)))
    c.add_word.ensures.added
