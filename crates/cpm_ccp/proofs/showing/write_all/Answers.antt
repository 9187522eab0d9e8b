use Rattle.std.proofs.Common.{◌≤◌, ◌+◌, ℕ, List, length, drop, get_or, arith, ap, sym, ◌∙◌}
use Rattle.std.proofs.lemmas.List.{drop_all}
use Rattle.cpm_console.specs.Terminal.{Terminal, expanded}
use Rattle.cpm_console.proofs.Said.{length-screen_said, printer_said-le}
use Rattle.cpm_ccp.specs.Showing.{wrote_all}
use Rattle.cpm_ccp.proofs.ShowingTexts.{wrote_all-more, wrote_all-nil, expanded-le}
use Rattle.cpm_ccp.proofs.showing.write_all.Goals as goal

pub loop-character-preserved : goal.loop-character-preserved
loop-character-preserved c =
    let i = c.loop-character.character-index in
    let text = c.args.text.now in
    let t = c.loop-character.console in
    let said = c.write.ensures in
    let more : List ℕ = expanded t.column (get_or text i 0) in
    let few = expanded-le t.column (get_or text i 0) in
    record {
      shown = ap (λ (u : Terminal). wrote_all u (drop (i + 1) text)) said ∙ (sym (wrote_all-more t text i c.loop-character-test.true) ∙ c.loop-character.invariant.shown);
      screen = omega (arith, ap (λ (u : Terminal). length u.screen) said, length-screen_said t more, few, c.loop-character.invariant.screen);
      printer = omega (arith, ap (λ (u : Terminal). length u.printer) said, printer_said-le t more, few, c.loop-character.invariant.printer);
    }

pub returns : goal.returns
returns c =
    let t = c.loop-character.console in
    let past : length c.args.text.now ≤ c.loop-character.character-index = omega arith in
    sym (wrote_all-nil t) ∙ (ap (λ (ys : List ℕ). wrote_all t ys) (sym (drop_all c.loop-character.character-index c.args.text.now past)) ∙ c.loop-character.invariant.shown)
