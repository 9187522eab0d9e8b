use Rattle.std.proofs.Common.{◌∙◌, ap, sym}
use Rattle.cpm_screen.specs.Outputs.{screen_after}
use Rattle.cpm_screen.specs.Shown.{after_bytes}
use Rattle.cpm_screen.proofs.OutputLemmas.{shown_more}
use Rattle.cpm_screen.proofs.shown_text.ShownText.show_all.Goals as goal

pub invariant_of-self : goal.invariant_of-self
invariant_of-self c =
    let more = c.args.bytes.now in
    let before = c.self.inside.text.bytes in
    let terminal = c.self.inside.terminal in (
      c.show_all.ensures.value ∙ ap (after_bytes more) c.self.invariant.0 ∙ shown_more terminal before more ∙ ap (screen_after terminal) (sym c.then-self-inside.ensures),
      c.show_all.ensures.size.rows ∙ c.self.invariant.1,
    )
