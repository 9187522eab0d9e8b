use Rattle.std.proofs.Common.{◌≡◌, ◌∙◌, ℕ, ap, arith, length, refl, sym, take, true≢false}
use Rattle.std.specs.Prelude.{map}
use Rattle.std.proofs.lemmas.List.{length-map, take_all}
use Rattle.cpm_screen.specs.Pictures.{seen_character, without_end_spaces}
use Rattle.cpm_screen.proofs.PictureLemmas.{end_found, end_passed}
use Rattle.cpm_screen.proofs.picture.characters_end.Goals as goal

pub loop-end-init : goal.loop-end-init
loop-end-init c =
    let cells = c.args.cells.now in
    let size = length-map cells seen_character in
    record { within = omega arith; line = ap without_end_spaces (sym (take_all (length cells) (map seen_character cells) (omega (arith, size)))) }

pub returns-then-not-is_space-clause-line : goal.returns-then-not-is_space-clause-line
returns-then-not-is_space-clause-line c =
    let is = c.if-not-is_space.ensures in
    c.loop-end.invariant.line
    ∙ end_found c.args.cells.now c.loop-end.end _ (omega arith) (omega arith) (λ e. absurd (true≢false (sym (is.1 e))))

pub loop-end-preserved : goal.loop-end-preserved
loop-end-preserved c =
    let is = c.if-not-is_space.ensures in
    record {
      within = omega arith;
      line = c.loop-end.invariant.line ∙ end_passed c.args.cells.now c.loop-end.end _ (omega arith) (omega arith) (is.0 refl);
    }

pub returns-clause-line : goal.returns-clause-line
unfolding without_end_spaces
returns-clause-line c =
    let cells = c.args.cells.now in
    let none : c.loop-end.end ≡ 0 = omega arith in
    let chars = map seen_character c.args.cells.now in
    c.loop-end.invariant.line ∙ ap (λ (n : ℕ). without_end_spaces (take n chars)) none ∙ ap (λ (n : ℕ). take n chars) (sym none)
