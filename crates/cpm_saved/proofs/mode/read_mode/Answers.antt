use Rattle.std.proofs.Common.{◌≡◌, ◌∙◌, ℕ, List, true, ap, sym}
use Rattle.std.specs.Prelude.{Ok, nat_eq}
use Rattle.std.specs.Cmp.Lexicographic.{pointwise}
use Rattle.cpm_bdos.specs.declared.session.Mode.{Mode}
use Rattle.cpm_saved.proofs.ModeLaws.{pointwise_same}
use Rattle.cpm_saved.proofs.ReadSteps.{passed_read}
use Rattle.cpm_saved.specs.SavedMode.{is_mode, mode_bytes}
use Rattle.cpm_saved.specs.declared.part.SavingPart.TheVariants as part
use Rattle.cpm_saved.proofs.mode.read_mode.Goals as goal

pub returns-then-eq : goal.returns-then-eq
returns-then-eq c =
    let alike : pointwise nat_eq c.mode_bytes.result c.in_ok-bytes.bytes ≡ true = sym c.if-eq.ensures in
    let same : c.mode_bytes.result ≡ c.in_ok-bytes.bytes = pointwise_same _ _ alike in
    let bytes : mode_bytes c.mode_of_bytes-mode.result ≡ c.in_ok-bytes.bytes = sym c.mode_bytes.ensures.bytes ∙ same in
    let passes : is_mode c.in_ok-bytes.bytes ≡ true =
    ap (λ (m : Mode). pointwise nat_eq (mode_bytes m) c.in_ok-bytes.bytes) (sym c.mode_of_bytes-mode.ensures)
    ∙ ap (λ (xs : List ℕ). pointwise nat_eq xs c.in_ok-bytes.bytes) (sym c.mode_bytes.ensures.bytes) ∙ alike in
    passed_read is_mode part.Mode c.args.reader.now c.array.new.self _ _ c.in_ok-bytes.ensures.first passes
    ∙ ap (λ (xs : List ℕ). Ok (xs, c.array.new.self)) (sym bytes)
