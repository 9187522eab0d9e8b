-- The bytes of a statement fill what it takes.
use Rattle.std.proofs.Common.{◌≡◌, ◌≤◌, ℕ, ◌+◌, ◌-◌, ◌*◌, ◌%◌, Bool, true, false, List, [], ◌∷◌, length, ap, ap₂, sym, ◌∙◌, refl, arith, length-append}
use Rattle.std.specs.Prelude.{Option, None, Some, ◌||◌, not, nat_lt, is_some, unwrap_or, if◌then◌else◌, replicate}
use Rattle.std.proofs.lemmas.List.{length-replicate}
use Rattle.std.proofs.lemmas.Bool.{true≢false}
use Rattle.std.proofs.lemmas.Bool.Decides.{nat_tests}
use Rattle.cpm_asm_expression.specs.Names.{NameTable}
use Rattle.cpm_asm_expression.specs.declared.words.ByteForm.{ByteForm}
use Rattle.cpm_asm_expression.specs.declared.words.ByteForm.TheVariants as b
use Rattle.cpm_asm_expression.specs.declared.words.WordForm.{WordForm}
use Rattle.cpm_asm_expression.specs.declared.words.WordForm.TheVariants as w
use Rattle.cpm_decode.specs.declared.operation.Op.TheVariants as op
use Rattle.cpm_asm.specs.Lines.{parts}
use Rattle.cpm_asm.specs.Operands.{comma}
use Rattle.cpm_asm.specs.Data.{all_bytes, byte_item, byte_size, is_expression, list_bytes, list_size, low_byte, operand_bytes, operand_size, plus, sizes, text_in, expression_value}
use Rattle.cpm_asm.specs.Encoding.{encoded, op_with_byte, op_with_word}
use Rattle.cpm_asm.specs.Emitting.{emitted}
use Rattle.cpm_asm.specs.Measures.{is_wrong, known_size, measured, sized}
use Rattle.cpm_asm.specs.Statements.{Deed, Wrong, Nothing, End, Origin, Equate, If, EndIf, Nest, Unnest, Space, Bytes, Words, Plain, Byte, Word, Restart}

-- ---- data

some_number : Option ℕ → ℕ
some_number None = 0
some_number (Some n) = n

if_some : (is : Bool) (k n : ℕ) → (if is then Some k else None) ≡ Some n → k ≡ n
unfolding some_number
if_some true k n h = ap some_number h
if_some false k n h = absurd (true≢false (sym (ap is_some h)))

byte_length : (t : NameTable) (a : ℕ) (x : List ℕ) (n : ℕ) (text : Option (List ℕ)) → byte_size x text ≡ Some n → length (byte_item t a x text).bytes ≡ n
unfolding some_number
byte_length t a x n None h = if_some (is_expression x) 1 n h
byte_length t a x n (Some cs) h = ap some_number h

item_length : (words : Bool) (t : NameTable) (a : ℕ) (x : List ℕ) (n : ℕ) → operand_size words x ≡ Some n → length (operand_bytes words t a x).bytes ≡ n
item_length true t a x n h = if_some (is_expression x) 2 n h
item_length false t a x n h = byte_length t a x n (text_in x) h

both : (o r : Option ℕ) (n : ℕ) → plus o r ≡ Some n → (i : ℕ) × (k : ℕ) × (o ≡ Some i) × (r ≡ Some k) × (i + k ≡ n)
unfolding some_number
both None r n h = absurd (true≢false (sym (ap is_some h)))
both (Some i) None n h = absurd (true≢false (sym (ap is_some h)))
both (Some i) (Some k) n h = (i, k, refl, refl, ap some_number h)

all_length : (words : Bool) (t : NameTable) (a : ℕ) (xs : List (List ℕ)) (n : ℕ) → sizes words xs ≡ Some n → length (all_bytes words t a xs) ≡ n
unfolding some_number
all_length words t a [] n h = ap some_number h
all_length words t a (x ∷ xs) n h =
    let p = both (operand_size words x) (sizes words xs) n h in
    length-append (operand_bytes words t a x).bytes (all_bytes words t a xs)
    ∙ ap₂ (λ (i k : ℕ). i + k) (item_length words t a x p.0 p.2) (all_length words t a xs p.1 p.3) ∙ p.4

known_length : (words : Bool) (t : NameTable) (a : ℕ) (xs : List (List ℕ)) (o : Option ℕ) → sizes words xs ≡ o → not (is_some o) ≡ false → length (all_bytes words t a xs) ≡ unwrap_or o 0
known_length words t a xs None is h = absurd (true≢false h)
known_length words t a xs (Some n) is h = all_length words t a xs n is

list_length : (words : Bool) (t : NameTable) (a : ℕ) (list : List ℕ) → not (is_some (list_size words list)) ≡ false → length (list_bytes words t a list).bytes ≡ unwrap_or (list_size words list) 0
unfolding list_size list_bytes
list_length words t a list h = known_length words t a (parts comma false list) (sizes words (parts comma false list)) refl h

-- ---- instructions

byte_form : (f : ByteForm) (n : ℕ) → length (encoded (op_with_byte f n)) ≡ 2
unfolding encoded
byte_form (b.MoveImmediate p) n = refl
byte_form (b.Arithmetic a) n = refl
byte_form b.Input n = refl
byte_form b.Output n = refl

word_form : (f : WordForm) (n : ℕ) → length (encoded (op_with_word f n)) ≡ 3
unfolding encoded
word_form (w.LoadPair p) n = refl
word_form w.StoreHl n = refl
word_form w.LoadHl n = refl
word_form w.StoreA n = refl
word_form w.LoadA n = refl
word_form w.Jump n = refl
word_form (w.JumpIf c) n = refl
word_form w.Call n = refl
word_form (w.CallIf c) n = refl

-- ---- all

next_by : (over : Bool) (a n : ℕ) → over ≡ false → (if over then 65536 else a + n) ≡ a + n
next_by true a n h = absurd (true≢false h)
next_by false a n h = refl

sized_fits : (a n : ℕ) (bytes : List ℕ) → (sized a n).is_outside ≡ false → length bytes ≡ n → a + length bytes ≤ (sized a n).next
sized_fits a n bytes inside same = let next = next_by (nat_lt (65536 - a) n) a n inside in omega (arith, next, same)

second_of : (x y : Bool) → (x || y) ≡ false → y ≡ false
second_of true y h = absurd (true≢false h)
second_of false y h = h

above : (n a : ℕ) → nat_lt n a ≡ false → a ≤ n
above n a h = grind (arith, nat_tests)

space_fits : (a n : ℕ) → (sized a n).is_outside ≡ false → a + length {A = ℕ} (replicate ((sized a n).next - a) 0) ≤ (sized a n).next
space_fits a n inside = let next = next_by (nat_lt (65536 - a) n) a n inside in omega (arith, next, length-replicate {A = ℕ} ((sized a n).next - a) 0)

restart_length : (n : ℕ) → length (encoded (op.Restart n)) ≡ 1
unfolding encoded
restart_length n = refl

pub fits : (t : NameTable) (a : ℕ) (d : Deed) → is_wrong d ≡ false → (measured t a d).is_outside ≡ false → (measured t a d).is_below ≡ false
    → a + length (emitted t a (measured t a d).next d).bytes ≤ (measured t a d).next
unfolding is_wrong measured emitted
fits t a Wrong w o h = absurd (true≢false w)
fits t a Nothing w o h = sized_fits a 0 [] o refl
fits t a End w o h = sized_fits a 0 [] o refl
fits t a (Origin e) w o h = omega (arith, above (expression_value t a e).number a h)
fits t a (Equate e) w o h = omega arith
fits t a (If e) w o h = omega arith
fits t a EndIf w o h = sized_fits a 0 [] o refl
fits t a Nest w o h = sized_fits a 0 [] o refl
fits t a Unnest w o h = sized_fits a 0 [] o refl
fits t a (Space e) w o h = space_fits a (known_size (expression_value t a e)) (second_of (expression_value t a e).is_outside (sized a (known_size (expression_value t a e))).is_outside o)
fits t a (Bytes list) w o h = sized_fits a (unwrap_or (list_size false list) 0) (list_bytes false t a list).bytes o (list_length false t a list w)
fits t a (Words list) w o h = sized_fits a (unwrap_or (list_size true list) 0) (list_bytes true t a list).bytes o (list_length true t a list w)
fits t a (Plain i) w o h = sized_fits a (length (encoded i)) (encoded i) o refl
fits t a (Byte f e) w o h = sized_fits a 2 (encoded (op_with_byte f (low_byte (expression_value t a e).number))) o (byte_form f (low_byte (expression_value t a e).number))
fits t a (Word f e) w o h = sized_fits a 3 (encoded (op_with_word f (expression_value t a e).number)) o (word_form f (expression_value t a e).number)
fits t a (Restart e) w o h = sized_fits a 1 (encoded (op.Restart (8 * ((expression_value t a e).number % 8)))) o (restart_length (8 * ((expression_value t a e).number % 8)))
