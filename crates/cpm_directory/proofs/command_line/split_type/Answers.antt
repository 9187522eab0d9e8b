use Rattle.std.proofs.Common.{◌≡◌, ◌≢◌, ℕ, List, [], length, get_or, sym, ap, refl, ◌∙◌, arith}
use Rattle.std.proofs.lemmas.Bool.{eq-eqb, ne_eqb, eqb-true}
use Rattle.std.proofs.lemmas.List.{get_or_past}
use Rattle.cpm_directory.specs.CommandLine.{type_of, after_type, word_in, after_word}
use Rattle.cpm_directory.proofs.TextLemmas.{rest}
use Rattle.cpm_directory.proofs.command_line.split_type.Goals as goal
use Rattle.cpm_directory.proofs.command_line.split_type.Goals.{else-not-is_empty-via-then-not-is_empty+else-text-eq46, else-not-is_empty-via-else-not-is_empty}

pub returns-then-text-eq46-clause-kind : goal.returns-then-text-eq46-clause-kind
unfolding type_of
returns-then-text-eq46-clause-kind c =
    c.split_word.ensures.word ∙ (ap word_in (rest c.args.text.now _ 1 refl) ∙ rw (eq-eqb _ _ c.if-text-eq46.true) refl)

pub returns-then-text-eq46-clause-rest : goal.returns-then-text-eq46-clause-rest
unfolding after_type
returns-then-text-eq46-clause-rest c =
    c.split_word.ensures.rest ∙ (ap after_word (rest c.args.text.now _ 1 refl) ∙ rw (eq-eqb _ _ c.if-text-eq46.true) refl)

past : (text : List ℕ) → length text ≡ 0 → get_or text 0 0 ≢ 46
past text h e = let none = get_or_past text 0 0 (omega arith) in absurd (omega arith)

no_type : (text : List ℕ) → get_or text 0 0 ≢ 46 → ([] ≡ type_of text) × (text ≡ after_type text)
unfolding type_of after_type
no_type text h = rw (ne_eqb _ _ h) (refl, refl)

pub returns-else-not-is_empty-clause-kind : goal.returns-else-not-is_empty-clause-kind
returns-else-not-is_empty-clause-kind c =
    (no_type c.args.text.now (elim c.else-not-is_empty.branch [
      | else-not-is_empty-via-then-not-is_empty+else-text-eq46 w ↦ w.if-text-eq46.false
      | else-not-is_empty-via-else-not-is_empty w ↦ past c.args.text.now (eqb-true _ _ (sym c.is_empty.ensures ∙ w.if-not-is_empty.false))
    ])).0

pub returns-else-not-is_empty-clause-rest : goal.returns-else-not-is_empty-clause-rest
returns-else-not-is_empty-clause-rest c =
    (no_type c.args.text.now (elim c.else-not-is_empty.branch [
      | else-not-is_empty-via-then-not-is_empty+else-text-eq46 w ↦ w.if-text-eq46.false
      | else-not-is_empty-via-else-not-is_empty w ↦ past c.args.text.now (eqb-true _ _ (sym c.is_empty.ensures ∙ w.if-not-is_empty.false))
    ])).1
