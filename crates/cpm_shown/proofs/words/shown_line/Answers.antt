use Rattle.std.proofs.Common.{◌≡◌, [], length, get_or, map, refl, sym, ap, ◌∙◌, arith}
use Rattle.std.proofs.lemmas.Bool.Decides.{nat_tests}
use Rattle.std.proofs.lemmas.Str.Ascii.{trim_ascii_is}
use Rattle.cpm_shown.specs.Shown.{shown_after, untabbed}
use Rattle.cpm_shown.proofs.ShownLemmas.{shown_after-line, shown_after-more}
use Rattle.cpm_shown.proofs.words.shown_line.Goals as goal
use Rattle.cpm_shown.proofs.words.shown_line.Goals.{then-byte-eq9, else-byte-eq9}

pub loop-byte-init : goal.loop-byte-init
loop-byte-init c = record {
  shown = ap (λ done. shown_after done (map untabbed c.trim_ascii-trimmed.result.now)) c.new-word.ensures
      ∙ ap (λ bytes. shown_after [] (map untabbed bytes)) (trim_ascii_is _ _ _ refl c.trim_ascii-trimmed.ensures.value);
  short = omega (arith, ap length c.new-word.ensures);
}

pub loop-byte-preserved : goal.loop-byte-preserved
loop-byte-preserved c =
    let character : c.if-byte-eq9.c ≡ untabbed (get_or c.trim_ascii-trimmed.result.now c.loop-byte.byte-index 0) =
    elim c.if-byte-eq9.branch [ then-byte-eq9 w ↦ grind (arith, nat_tests) | else-byte-eq9 w ↦ grind (arith, nat_tests) ] in
    let room = sym c.add_shown.ensures.room ∙ c.if-not-add_shown.false in
    record {
      shown = sym (shown_after-line _ _ _ _ c.loop-byte-test.true character
          ∙ shown_after-more _ _ _ c.if-byte-eq9.c room (c.add_shown.ensures.shown c.if-not-add_shown.false)) ∙ c.loop-byte.invariant.shown;
      short = c.add_shown.ensures.short c.if-not-add_shown.false;
    }
