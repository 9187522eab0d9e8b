-- An expression of the grammar is read as its value.
use Rattle.std.proofs.Common.{◌≡◌, ℕ, ◌≤◌, ◌<◌, List, [], ◌∷◌, ap, ◌∙◌, refl, arith}
use Rattle.std.specs.Prelude.{Some, true, false, nat_le, cond}
use Rattle.std.proofs.lemmas.Bool.Decides.{nat_tests}
use Rattle.cpm_asm_expression.proofs.Levels.{not_two, not_four, right_above}
use Rattle.cpm_asm_expression.specs.Names.{NameTable}
use Rattle.cpm_asm_expression.specs.Values.{atom_value, combined, changed}
use Rattle.cpm_asm_expression.specs.Grammar.{Tree, atom, bracketed, weaker, prefixed, chained, level, prefix_level, value, spelled, prefix_token, Spells}
use Rattle.cpm_asm_expression.specs.declared.values.CheckedValue.{CheckedValue}
use Rattle.cpm_asm_expression.specs.Reading.{SettledValue, State, Wants, Has, Wrong, wanted, settled, after_token, after_all, with_left, group_closed, value_read, ended, reading}
use Rattle.cpm_asm_expression.specs.declared.tokens.Operator.{Operator}
use Rattle.cpm_asm_expression.specs.declared.tokens.Prefix.{Prefix}
use Rattle.cpm_asm_expression.specs.declared.tokens.Prefix.TheVariants as prefixes
use Rattle.cpm_asm_expression.specs.declared.tokens.Token.{Token}
use Rattle.cpm_asm_expression.specs.declared.tokens.Token.TheVariants as tokens
use Rattle.cpm_asm_expression.specs.declared.reader.PendingOperator.{PendingOperator}
use Rattle.cpm_asm_expression.specs.declared.reader.PendingOperator.TheVariants as waiting

-- the state that has v, up to what a later operator of a level settles
pub record Arrives (m : NameTable) (a : ℕ) (from : State) (text rest : List Token) (l : ℕ) (v : CheckedValue) (ws : List PendingOperator) : Type 0 where
  pub have : CheckedValue
  pub left : List PendingOperator
  pub reads : after_all m a from text ≡ after_all m a (Has have left) rest
  pub same : (k : ℕ) → k ≤ l → settled k have left ≡ settled k v ws

le_test : (a b : ℕ) → a ≤ b → nat_le a b ≡ true
le_test a b h = grind (arith, nat_tests)

gt_test : (a b : ℕ) → b < a → nat_le a b ≡ false
gt_test a b h = grind (arith, nat_tests)

-- a sign or NOT is never as strong as an operator
apart : (p : Prefix) (o : Operator) → prefix_level p ≤ level o → prefix_level p < level o
apart prefixes.Not o h = omega (arith, not_two o, h)
apart prefixes.Plus o h = omega (arith, not_four o, h)
apart prefixes.Minus o h = omega (arith, not_four o, h)

stays : (o : Operator) (v : CheckedValue) (ws : List PendingOperator) → wanted ws ≤ level o → settled (level o) v ws ≡ record { value = v; waiting = ws }
stays o v [] h = refl
stays o v (waiting.Bracket ∷ ws) h = refl
stays o v (waiting.Prefix p ∷ ws) h = ap (λ b. cond b (settled (level o) (changed p v) ws) (record { value = v; waiting = waiting.Prefix p ∷ ws })) (gt_test (level o) (prefix_level p) (apart p o h))
stays o v (waiting.Left u q ∷ ws) h = ap (λ b. cond b (settled (level o) (combined q u v) ws) (record { value = v; waiting = waiting.Left u q ∷ ws })) (gt_test (level o) (level q) (omega (arith, right_above q, h)))

takes_prefix : (m : NameTable) (a : ℕ) (ws : List PendingOperator) (p : Prefix) → wanted ws ≤ prefix_level p → after_token m a (Wants ws) (prefix_token p) ≡ Wants (waiting.Prefix p ∷ ws)
takes_prefix m a ws prefixes.Not h = ap (λ b. cond b (Wants (waiting.Prefix prefixes.Not ∷ ws)) Wrong) (le_test _ _ h)
takes_prefix m a ws prefixes.Plus h = ap (λ b. cond b (Wants (waiting.Prefix prefixes.Plus ∷ ws)) Wrong) (le_test _ _ h)
takes_prefix m a ws prefixes.Minus h = ap (λ b. cond b (Wants (waiting.Prefix prefixes.Minus ∷ ws)) Wrong) (le_test _ _ h)

pub reads_tree : (m : NameTable) (a : ℕ) {l : ℕ} (e : Tree l) (ws : List PendingOperator) (rest : List Token) → wanted ws ≤ l → Arrives m a (Wants ws) (spelled e rest) rest l (value m a e) ws
reads_tree m a (atom x) ws rest h = record { have = atom_value m a x; left = ws; reads = refl; same = λ k below. refl }
reads_tree m a (bracketed e) ws rest h =
    let inner = reads_tree m a e (waiting.Bracket ∷ ws) (tokens.Close ∷ rest) (omega arith) in
    record {
      have = value m a e;
      left = ws;
      reads = inner.reads ∙ ap (λ (s : SettledValue). after_all m a (group_closed s.value s.waiting) rest) (inner.same 0 (omega arith));
      same = λ k below. refl;
    }
reads_tree m a (weaker l e) ws rest h =
    let inner = reads_tree m a e ws rest (omega arith) in
    record { have = inner.have; left = inner.left; reads = inner.reads; same = λ k below. inner.same k (omega arith) }
reads_tree m a (prefixed p e) ws rest h =
    let inner = reads_tree m a e (waiting.Prefix p ∷ ws) rest (omega arith) in
    record {
      have = inner.have;
      left = inner.left;
      reads = ap (λ s. after_all m a s (spelled e rest)) (takes_prefix m a ws p h) ∙ inner.reads;
      same = λ k below. inner.same k below ∙ ap (λ b. cond b (settled k (changed p (value m a e)) ws) (record { value = value m a e; waiting = waiting.Prefix p ∷ ws })) (le_test k (prefix_level p) below);
    }
reads_tree m a (chained o x y) ws rest h =
    let first = reads_tree m a x ws (tokens.Operator o ∷ spelled y rest) h in
    let second = reads_tree m a y (waiting.Left (value m a x) o ∷ ws) rest (omega arith) in
    record {
      have = second.have;
      left = second.left;
      reads = first.reads ∙ ap (λ (s : SettledValue). after_all m a (with_left o s) (spelled y rest)) (first.same (level o) (omega arith) ∙ stays o (value m a x) ws h) ∙ second.reads;
      same = λ k below. second.same k (omega (arith, right_above o, below)) ∙ ap (λ c. cond c (settled k (combined o (value m a x) (value m a y)) ws) (record { value = value m a y; waiting = waiting.Left (value m a x) o ∷ ws })) (le_test k (level o) below);
    }

-- what is spelled by the grammar is read as its value
pub reads_all : (m : NameTable) (a : ℕ) (e : Tree 0) → reading m a (spelled e []) ≡ Some (value m a e)
reads_all m a e =
    let whole = reads_tree m a e [] [] (omega arith) in
    ap value_read whole.reads ∙ ap (λ (s : SettledValue). ended s.value s.waiting) (whole.same 0 (omega arith))

pub spelled_read : (m : NameTable) (a : ℕ) (ts : List Token) (v : CheckedValue) → Spells m a ts v → reading m a ts ≡ Some v
spelled_read m a ts v s = ap (reading m a) s.written ∙ reads_all m a s.tree ∙ ap (λ n. Some n) s.is
