use Rattle.std.proofs.Common.{◌∙◌, ap, length, sym}
use Rattle.std.proofs.lemmas.List.{length-replicate}
use Rattle.cpm_screen.specs.Rows.{blank_row}
use Rattle.cpm_screen.specs.State.{ScreenState}
use Rattle.cpm_screen.specs.Outputs.{screen_after}
use Rattle.cpm_screen.proofs.shown_text.ShownText.new.Goals as goal

pub invariant_of-result : goal.invariant_of-result
unfolding screen_after
invariant_of-result c = (c.in-Ok.ensures.1 ∙ ap (screen_after c.args.terminal) (sym c.new-in-Ok.ensures), ap (λ (s : ScreenState). length s.lines) c.in-Ok.ensures.1 ∙ length-replicate 24 blank_row)
