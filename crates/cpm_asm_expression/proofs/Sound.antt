-- What is read is an expression of the grammar.
use Rattle.std.proofs.Common.{◌≡◌, ℕ, zero, suc, ◌+◌, ◌-◌, subst, ◌≤◌, ◌<◌, List, [], ◌∷◌, ◌++◌, ap, sym, ◌∙◌, refl, arith, append_assoc, append-nil}
use Rattle.std.specs.Prelude.{Option, None, Some, true, false, nat_le, cond, is_some}
use Rattle.std.proofs.lemmas.Bool.{true≢false}
use Rattle.std.proofs.lemmas.Bool.Decides.{nat_tests}
use Rattle.cpm_asm_expression.proofs.Levels.{level_low, right_fits, right_low}
use Rattle.cpm_asm_expression.specs.Names.{NameTable}
use Rattle.cpm_asm_expression.specs.Values.{combined, changed}
use Rattle.cpm_asm_expression.specs.Grammar.{Tree, atom, bracketed, weaker, prefixed, chained, level, right_level, prefix_level, value, spelled, prefix_token, Spells}
use Rattle.cpm_asm_expression.specs.declared.values.CheckedValue.{CheckedValue}
use Rattle.cpm_asm_expression.specs.Reading.{SettledValue, State, Wants, Has, Wrong, wanted, settled, after_token, after_all, with_left, with_prefix, with_sign, sign_of, group_closed, value_read, ended, reading}
use Rattle.cpm_asm_expression.specs.declared.tokens.Operator.{Operator}
use Rattle.cpm_asm_expression.specs.declared.tokens.Operator.TheVariants as operators
use Rattle.cpm_asm_expression.specs.declared.tokens.Prefix.{Prefix}
use Rattle.cpm_asm_expression.specs.declared.tokens.Prefix.TheVariants as prefixes
use Rattle.cpm_asm_expression.specs.declared.tokens.Token.{Token}
use Rattle.cpm_asm_expression.specs.declared.tokens.Token.TheVariants as tokens
use Rattle.cpm_asm_expression.specs.declared.reader.PendingOperator.{PendingOperator}
use Rattle.cpm_asm_expression.specs.declared.reader.PendingOperator.TheVariants as waiting

-- the text that what waits was read from
abbrev pub Waits : NameTable → ℕ → List PendingOperator → List Token → Type 0
Waits m a [] text = text ≡ []
Waits m a (waiting.Bracket ∷ ws) text = (front : List Token) × Waits m a ws front × (text ≡ front ++ tokens.Open ∷ [])
Waits m a (waiting.Prefix p ∷ ws) text = (front : List Token) × Waits m a ws front × (wanted ws ≤ prefix_level p) × (text ≡ front ++ prefix_token p ∷ [])
Waits m a (waiting.Left u o ∷ ws) text = (front : List Token) × Waits m a ws front × (wanted ws ≤ level o) × (x : Tree (level o)) × (value m a x ≡ u) × (text ≡ front ++ spelled x (tokens.Operator o ∷ []))

-- the text that a value and what waits before it were read from
pub record Holds (m : NameTable) (a l : ℕ) (v : CheckedValue) (ws : List PendingOperator) (text : List Token) : Type 0 where
  pub front : List Token
  pub waits : Waits m a ws front
  pub fits : wanted ws ≤ l
  pub tree : Tree l
  pub is : value m a tree ≡ v
  pub written : text ≡ front ++ spelled tree []

-- more text behind an expression
spelled_more : {l : ℕ} (e : Tree l) (xs ys : List Token) → spelled e (xs ++ ys) ≡ spelled e xs ++ ys
spelled_more (atom x) xs ys = refl
spelled_more (bracketed e) xs ys = ap (λ ts. tokens.Open ∷ ts) (spelled_more e (tokens.Close ∷ xs) ys)
spelled_more (weaker l e) xs ys = spelled_more e xs ys
spelled_more (prefixed p e) xs ys = ap (λ ts. prefix_token p ∷ ts) (spelled_more e xs ys)
spelled_more (chained o a b) xs ys = ap (λ ts. spelled a (tokens.Operator o ∷ ts)) (spelled_more b xs ys) ∙ spelled_more a (tokens.Operator o ∷ spelled b xs) ys

-- the same expression, at a level that is weaker by n
pub record Weaker (m : NameTable) (a l : ℕ) (v : CheckedValue) (text : List Token) : Type 0 where
  pub tree : Tree l
  pub is : value m a tree ≡ v
  pub written : spelled tree [] ≡ text

by_steps : (m : NameTable) (a n l k : ℕ) → l + n ≡ k → (e : Tree k) → Weaker m a l (value m a e) (spelled e [])
by_steps m a zero l k h e =
    let same : l ≡ k = omega (arith, h) in
    subst (λ j. (e : Tree j) → Weaker m a l (value m a e) (spelled e [])) same (λ e. record { tree = e; is = refl; written = refl }) e
by_steps m a (suc n) l k h e =
    let inner = by_steps m a n (suc l) k (omega (arith, h)) e in
    record { tree = weaker l inner.tree; is = inner.is; written = inner.written }

weaken : (m : NameTable) (a l k : ℕ) → l ≤ k → (e : Tree k) → Weaker m a l (value m a e) (spelled e [])
weaken m a l k h e = by_steps m a (k - l) l k (omega (arith, h)) e

-- settling one prefix, and one operator
one_prefix : (m : NameTable) (a l : ℕ) (v : CheckedValue) (p : Prefix) (ws : List PendingOperator) (text : List Token) → Holds m a l v (waiting.Prefix p ∷ ws) text → Holds m a (prefix_level p) (changed p v) ws text
one_prefix m a l v p ws text h =
    let e = weaken m a (prefix_level p) l h.fits h.tree in
    record {
      front = h.waits.0;
      waits = h.waits.1;
      fits = h.waits.2;
      tree = prefixed p e.tree;
      is = ap (changed p) (e.is ∙ h.is);
      written = h.written ∙ ap (λ f. f ++ spelled h.tree []) h.waits.3 ∙ append_assoc h.waits.0 (prefix_token p ∷ []) (spelled h.tree []) ∙ ap (λ ts. h.waits.0 ++ prefix_token p ∷ ts) (sym e.written);
    }

one_left : (m : NameTable) (a l : ℕ) (v u : CheckedValue) (o : Operator) (ws : List PendingOperator) (text : List Token) → Holds m a l v (waiting.Left u o ∷ ws) text → Holds m a (level o) (combined o u v) ws text
one_left m a l v u o ws text h =
    let e = weaken m a (right_level o) l h.fits h.tree in
    let x = h.waits.3 in
    record {
      front = h.waits.0;
      waits = h.waits.1;
      fits = h.waits.2;
      tree = chained o x e.tree;
      is = ap (λ y. combined o y (value m a e.tree)) h.waits.4 ∙ ap (combined o u) (e.is ∙ h.is);
      written = h.written ∙ ap (λ f. f ++ spelled h.tree []) h.waits.5 ∙ append_assoc h.waits.0 (spelled x (tokens.Operator o ∷ [])) (spelled h.tree [])
          ∙ ap (λ ts. h.waits.0 ++ ts) (sym (spelled_more x (tokens.Operator o ∷ []) (spelled h.tree [])) ∙ ap (λ ts. spelled x (tokens.Operator o ∷ ts)) (sym e.written));
    }

-- the text after settling, with an expression of the level
pub record HoldsSettled (m : NameTable) (a k : ℕ) (s : SettledValue) (text : List Token) : Type 0 where
  pub l : ℕ
  pub strong : k ≤ l
  pub holds : Holds m a l s.value s.waiting text
  pub room : wanted s.waiting ≤ k

le_yes : (a b : ℕ) → nat_le a b ≡ true → a ≤ b
le_yes a b h = grind (arith, nat_tests)

le_no : (a b : ℕ) → nat_le a b ≡ false → b < a
le_no a b h = grind (arith, nat_tests)

pub settling : (m : NameTable) (a : ℕ) (o : Operator) (l : ℕ) (v : CheckedValue) (ws : List PendingOperator) (text : List Token) → level o ≤ l → Holds m a l v ws text → HoldsSettled m a (level o) (settled (level o) v ws) text
settling m a o l v [] text h holds = record { l = l; strong = h; holds = holds; room = omega arith }
settling m a o l v (waiting.Bracket ∷ ws) text h holds = record { l = l; strong = h; holds = holds; room = omega arith }
settling m a o l v (waiting.Prefix p ∷ ws) text h holds =
    elim (nat_le (level o) (prefix_level p)) as (λ b. nat_le (level o) (prefix_level p) ≡ b → HoldsSettled m a (level o) (cond b (settled (level o) (changed p v) ws) (record { value = v; waiting = waiting.Prefix p ∷ ws })) text) [
      | true ↦ λ e. settling m a o (prefix_level p) (changed p v) ws text (le_yes _ _ e) (one_prefix m a l v p ws text holds)
      | false ↦ λ e. record { l = l; strong = h; holds = holds; room = omega (arith, le_no _ _ e) }
    ] refl
settling m a o l v (waiting.Left u q ∷ ws) text h holds =
    elim (nat_le (level o) (level q)) as (λ b. nat_le (level o) (level q) ≡ b → HoldsSettled m a (level o) (cond b (settled (level o) (combined q u v) ws) (record { value = v; waiting = waiting.Left u q ∷ ws })) text) [
      | true ↦ λ e. settling m a o (level q) (combined q u v) ws text (le_yes _ _ e) (one_left m a l v u q ws text holds)
      | false ↦ λ e. record { l = l; strong = h; holds = holds; room = right_fits q (level o) o refl (le_no _ _ e) }
    ] refl

abbrev pub IsReached : NameTable → ℕ → State → List Token → Type 0
IsReached m a (Wants ws) text = Waits m a ws text
IsReached m a (Has v ws) text = Holds m a 6 v ws text
IsReached m a Wrong text = Unit {0}

wanted_low : (ws : List PendingOperator) → wanted ws ≤ 6
wanted_low [] = omega arith
wanted_low (waiting.Bracket ∷ ws) = omega arith
wanted_low (waiting.Prefix prefixes.Not ∷ ws) = omega arith
wanted_low (waiting.Prefix prefixes.Plus ∷ ws) = omega arith
wanted_low (waiting.Prefix prefixes.Minus ∷ ws) = omega arith
wanted_low (waiting.Left u o ∷ ws) = right_low o

prefix_step : (m : NameTable) (a : ℕ) (ws : List PendingOperator) (p : Prefix) (text : List Token) → Waits m a ws text → IsReached m a (with_prefix ws p) (text ++ prefix_token p ∷ [])
prefix_step m a ws p text h =
    elim (nat_le (wanted ws) (prefix_level p)) as (λ b. nat_le (wanted ws) (prefix_level p) ≡ b → IsReached m a (cond b (Wants (waiting.Prefix p ∷ ws)) Wrong) (text ++ prefix_token p ∷ [])) [
      | true ↦ λ e. (text, h, le_yes _ _ e, refl)
      | false ↦ λ e. tt
    ] refl

left_step : (m : NameTable) (a : ℕ) (o : Operator) (s : SettledValue) (text : List Token) → HoldsSettled m a (level o) s text → IsReached m a (with_left o s) (text ++ tokens.Operator o ∷ [])
left_step m a o s text k =
    let h = k.holds in
    let e = weaken m a (level o) k.l k.strong h.tree in (
      h.front,
      h.waits,
      k.room,
      e.tree,
      e.is ∙ h.is,
      ap (λ ts. ts ++ tokens.Operator o ∷ []) h.written ∙ append_assoc h.front (spelled h.tree []) (tokens.Operator o ∷ [])
          ∙ ap (λ ts. h.front ++ ts) (ap (λ ts. ts ++ tokens.Operator o ∷ []) (sym e.written) ∙ sym (spelled_more e.tree [] (tokens.Operator o ∷ []))),
    )

close_step : (m : NameTable) (a l : ℕ) (v : CheckedValue) (ws : List PendingOperator) (text : List Token) → Holds m a l v ws text → IsReached m a (group_closed v ws) (text ++ tokens.Close ∷ [])
close_step m a l v [] text h = tt
close_step m a l v (waiting.Prefix p ∷ ws) text h = tt
close_step m a l v (waiting.Left u o ∷ ws) text h = tt
close_step m a l v (waiting.Bracket ∷ ws) text h =
    let e = weaken m a 0 l (omega arith) h.tree in
    record {
      front = h.waits.0;
      waits = h.waits.1;
      fits = wanted_low ws;
      tree = bracketed e.tree;
      is = e.is ∙ h.is;
      written = ap (λ ts. ts ++ tokens.Close ∷ []) (h.written ∙ ap (λ f. f ++ spelled h.tree []) h.waits.2 ∙ append_assoc h.waits.0 (tokens.Open ∷ []) (spelled h.tree []))
          ∙ append_assoc h.waits.0 (tokens.Open ∷ spelled h.tree []) (tokens.Close ∷ [])
          ∙ ap (λ ts. h.waits.0 ++ tokens.Open ∷ ts) (ap (λ ts. ts ++ tokens.Close ∷ []) (sym e.written) ∙ sym (spelled_more e.tree [] (tokens.Close ∷ [])));
    }

sign_step : (m : NameTable) (a : ℕ) (ws : List PendingOperator) (o : Operator) (text : List Token) → Waits m a ws text → IsReached m a (with_sign ws (sign_of o)) (text ++ tokens.Operator o ∷ [])
sign_step m a ws operators.Add text h = prefix_step m a ws prefixes.Plus text h
sign_step m a ws operators.Subtract text h = prefix_step m a ws prefixes.Minus text h
sign_step m a ws _ text h = tt

step : (m : NameTable) (a : ℕ) (s : State) (t : Token) (text : List Token) → IsReached m a s text → IsReached m a (after_token m a s t) (text ++ t ∷ [])
step m a (Wants ws) (tokens.Atom x) text h = record { front = text; waits = h; fits = wanted_low ws; tree = atom x; is = refl; written = refl }
step m a (Wants ws) (tokens.Operator o) text h = sign_step m a ws o text h
step m a (Wants ws) tokens.Not text h = prefix_step m a ws prefixes.Not text h
step m a (Wants ws) tokens.Open text h = (text, h, refl)
step m a (Wants ws) tokens.Close text h = tt
step m a (Has v ws) (tokens.Atom x) text h = tt
step m a (Has v ws) (tokens.Operator o) text h = left_step m a o (settled (level o) v ws) text (settling m a o 6 v ws text (omega (arith, level_low o)) h)
step m a (Has v ws) tokens.Not text h = tt
step m a (Has v ws) tokens.Open text h = tt
step m a (Has v ws) tokens.Close text h =
    let k = settling m a operators.Or 6 v ws text (omega arith) h in
    close_step m a k.l (settled 0 v ws).value (settled 0 v ws).waiting text k.holds
step m a Wrong t text h = tt

steps : (m : NameTable) (a : ℕ) (ts : List Token) (s : State) (text : List Token) → IsReached m a s text → IsReached m a (after_all m a s ts) (text ++ ts)
steps m a [] s text h = subst (IsReached m a s) (sym (append-nil text)) h
steps m a (t ∷ ts) s text h = subst (IsReached m a (after_all m a (after_token m a s t) ts)) (append_assoc text (t ∷ []) ts) (steps m a ts (after_token m a s t) (text ++ t ∷ []) (step m a s t text h))

some_value : Option CheckedValue → CheckedValue → CheckedValue
some_value None d = d
some_value (Some v) d = v

end_step : (m : NameTable) (a l : ℕ) (u v : CheckedValue) (ws : List PendingOperator) (text : List Token) → Holds m a l u ws text → ended u ws ≡ Some v → Spells m a text v
unfolding some_value
end_step m a l u v [] text h e =
    let w = weaken m a 0 l (omega arith) h.tree in
    record { tree = w.tree; is = w.is ∙ h.is ∙ ap (λ o. some_value o u) e; written = h.written ∙ ap (λ f. f ++ spelled h.tree []) h.waits ∙ sym w.written }
end_step m a l u v (w ∷ ws) text h e = absurd (true≢false (sym (ap is_some e)))

spells : (m : NameTable) (a : ℕ) (s : State) (v : CheckedValue) (text : List Token) → IsReached m a s text → value_read s ≡ Some v → Spells m a text v
spells m a (Wants ws) v text h e = absurd (true≢false (sym (ap is_some e)))
spells m a Wrong v text h e = absurd (true≢false (sym (ap is_some e)))
spells m a (Has u ws) v text h e =
    let k = settling m a operators.Or 6 u ws text (omega arith) h in
    end_step m a k.l (settled 0 u ws).value v (settled 0 u ws).waiting text k.holds e

-- what is read is spelled by the grammar
pub only_spelled : (m : NameTable) (a : ℕ) (ts : List Token) (v : CheckedValue) → reading m a ts ≡ Some v → Spells m a ts v
only_spelled m a ts v e = spells m a (after_all m a (Wants []) ts) v ts (steps m a ts (Wants []) [] refl) e
