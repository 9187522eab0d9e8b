-- What a statement takes under a table it takes under each table that extends it.
use Rattle.std.proofs.Common.{◌≡◌, ℕ, List, ap, sym, ◌∙◌, refl}
use Rattle.std.specs.Prelude.{Option, None, Some, Bool, true, false, not, is_some, unwrap_or}
use Rattle.std.proofs.lemmas.Bool.{true≢false}
use Rattle.cpm_asm_expression.specs.Names.{NameTable, Extends, no_names}
use Rattle.cpm_asm_expression.specs.Reading.{value_at}
use Rattle.cpm_asm_expression.specs.Values.{exactly}
use Rattle.cpm_asm_expression.specs.declared.values.CheckedValue.{CheckedValue}
use Rattle.cpm_asm_expression.proofs.Stable.{expression_anywhere, value_stays}
use Rattle.cpm_asm.specs.Data.{is_expression, expression_value}
use Rattle.cpm_asm.specs.Measures.{equated, is_wrong, measured, origin, space_measure, tested}
use Rattle.cpm_asm.specs.Statements.{Deed, Wrong, Nothing, End, Origin, Equate, If, EndIf, Nest, Unnest, Space, Bytes, Words, Plain, Byte, Word, Restart}

not_false : (b : Bool) → not b ≡ false → b ≡ true
not_false true h = refl
not_false false h = absurd (true≢false h)

found : (m t : NameTable) (a : ℕ) (text : List ℕ) (o : Option CheckedValue) → Extends m t → value_at m a text ≡ o → is_some o ≡ true
    → (unwrap_or o (exactly 0)).is_unknown ≡ false → unwrap_or (value_at t a text) (exactly 0) ≡ unwrap_or o (exactly 0)
found m t a text None e is some known = absurd (true≢false (sym some))
found m t a text (Some v) e is some known = ap (λ o. unwrap_or o (exactly 0)) (value_stays m t a text v e is known)

value_stable : (m t : NameTable) (a : ℕ) (text : List ℕ) → Extends m t → not (is_expression text) ≡ false → (expression_value m a text).is_unknown ≡ false → expression_value t a text ≡ expression_value m a text
unfolding expression_value is_expression
value_stable m t a text e read known =
    found m t a text (value_at m a text) e refl (expression_anywhere m no_names a 0 text ∙ not_false (is_some (value_at no_names 0 text)) read) known

pub measured_stable : (m t : NameTable) (a : ℕ) (d : Deed) → Extends m t → is_wrong d ≡ false → (measured m a d).is_unknown ≡ false → measured t a d ≡ measured m a d
unfolding measured is_wrong
measured_stable m t a Wrong e w h = refl
measured_stable m t a Nothing e w h = refl
measured_stable m t a End e w h = refl
measured_stable m t a (Origin x) e w h = ap (origin a) (value_stable m t a x e w h)
measured_stable m t a (Equate x) e w h = ap (equated a) (value_stable m t a x e w h)
measured_stable m t a (If x) e w h = ap (tested a) (value_stable m t a x e w h)
measured_stable m t a EndIf e w h = refl
measured_stable m t a Nest e w h = refl
measured_stable m t a Unnest e w h = refl
measured_stable m t a (Space x) e w h = ap (space_measure a) (value_stable m t a x e w h)
measured_stable m t a (Bytes list) e w h = refl
measured_stable m t a (Words list) e w h = refl
measured_stable m t a (Plain o) e w h = refl
measured_stable m t a (Byte f x) e w h = refl
measured_stable m t a (Word f x) e w h = refl
measured_stable m t a (Restart x) e w h = refl
