-- The row of an encoding's bytes is the instruction.
use Rattle.std.proofs.Common.{◌≡◌, ℕ, ◌+◌, ◌*◌, ◌/◌, ◌%◌, ◌<◌, Some, refl, ap, sym, ◌∙◌, subst, arith, map, get_or}
use Rattle.std.specs.List.{range_with_len}
use Rattle.std.proofs.lemmas.List.FromFn.{get_or-map-range_with_len}
use Rattle.cpm_decode.specs.Rows8080.{decoded8080}
use Rattle.cpm_decode.specs.declared.operation.Op.{Op}
use Rattle.cpm_decode.specs.declared.operation.Op.TheVariants as op
use Rattle.cpm_decode.specs.declared.operation.Operand.{Operand}
use Rattle.cpm_decode.specs.declared.operation.Operand.TheVariants as p
use Rattle.cpm_decode.specs.declared.operation.Pair.{Pair}
use Rattle.cpm_decode.specs.declared.operation.Pair.TheVariants as r
use Rattle.cpm_decode.specs.declared.operation.StackPair.{StackPair}
use Rattle.cpm_decode.specs.declared.operation.StackPair.TheVariants as t
use Rattle.cpm_decode.specs.declared.operation.Condition.{Condition}
use Rattle.cpm_decode.specs.declared.operation.Condition.TheVariants as c
use Rattle.cpm_decode.specs.declared.operation.Arithmetic.{Arithmetic}
use Rattle.cpm_decode.specs.declared.operation.Arithmetic.TheVariants as a
use Rattle.cpm_decode.specs.declared.operation.Rotation.{Rotation}
use Rattle.cpm_decode.specs.declared.operation.Rotation.TheVariants as o
use Rattle.cpm_asm.specs.Encoding.{Decodes, HasEncoding, IsDirect, IsMove, encoded}

-- the two bytes of a word make it
halves : (w : ℕ) → w % 256 + 256 * (w / 256) ≡ w
halves w = omega arith

move : (d s : Operand) → IsMove d s → Decodes (op.Move d s)
unfolding decoded8080 encoded
move p.B p.B h = refl
move p.B p.C h = refl
move p.B p.D h = refl
move p.B p.E h = refl
move p.B p.H h = refl
move p.B p.L h = refl
move p.B p.AtHl h = refl
move p.B p.A h = refl
move p.C p.B h = refl
move p.C p.C h = refl
move p.C p.D h = refl
move p.C p.E h = refl
move p.C p.H h = refl
move p.C p.L h = refl
move p.C p.AtHl h = refl
move p.C p.A h = refl
move p.D p.B h = refl
move p.D p.C h = refl
move p.D p.D h = refl
move p.D p.E h = refl
move p.D p.H h = refl
move p.D p.L h = refl
move p.D p.AtHl h = refl
move p.D p.A h = refl
move p.E p.B h = refl
move p.E p.C h = refl
move p.E p.D h = refl
move p.E p.E h = refl
move p.E p.H h = refl
move p.E p.L h = refl
move p.E p.AtHl h = refl
move p.E p.A h = refl
move p.H p.B h = refl
move p.H p.C h = refl
move p.H p.D h = refl
move p.H p.E h = refl
move p.H p.H h = refl
move p.H p.L h = refl
move p.H p.AtHl h = refl
move p.H p.A h = refl
move p.L p.B h = refl
move p.L p.C h = refl
move p.L p.D h = refl
move p.L p.E h = refl
move p.L p.H h = refl
move p.L p.L h = refl
move p.L p.AtHl h = refl
move p.L p.A h = refl
move p.AtHl p.B h = refl
move p.AtHl p.C h = refl
move p.AtHl p.D h = refl
move p.AtHl p.E h = refl
move p.AtHl p.H h = refl
move p.AtHl p.L h = refl
move p.AtHl p.AtHl h = absurd h
move p.AtHl p.A h = refl
move p.A p.B h = refl
move p.A p.C h = refl
move p.A p.D h = refl
move p.A p.E h = refl
move p.A p.H h = refl
move p.A p.L h = refl
move p.A p.AtHl h = refl
move p.A p.A h = refl

arithmetic : (x : Arithmetic) (s : Operand) → Decodes (op.Arithmetic x s)
unfolding decoded8080 encoded
arithmetic a.Add p.B = refl
arithmetic a.Add p.C = refl
arithmetic a.Add p.D = refl
arithmetic a.Add p.E = refl
arithmetic a.Add p.H = refl
arithmetic a.Add p.L = refl
arithmetic a.Add p.AtHl = refl
arithmetic a.Add p.A = refl
arithmetic a.AddCarry p.B = refl
arithmetic a.AddCarry p.C = refl
arithmetic a.AddCarry p.D = refl
arithmetic a.AddCarry p.E = refl
arithmetic a.AddCarry p.H = refl
arithmetic a.AddCarry p.L = refl
arithmetic a.AddCarry p.AtHl = refl
arithmetic a.AddCarry p.A = refl
arithmetic a.Subtract p.B = refl
arithmetic a.Subtract p.C = refl
arithmetic a.Subtract p.D = refl
arithmetic a.Subtract p.E = refl
arithmetic a.Subtract p.H = refl
arithmetic a.Subtract p.L = refl
arithmetic a.Subtract p.AtHl = refl
arithmetic a.Subtract p.A = refl
arithmetic a.SubtractBorrow p.B = refl
arithmetic a.SubtractBorrow p.C = refl
arithmetic a.SubtractBorrow p.D = refl
arithmetic a.SubtractBorrow p.E = refl
arithmetic a.SubtractBorrow p.H = refl
arithmetic a.SubtractBorrow p.L = refl
arithmetic a.SubtractBorrow p.AtHl = refl
arithmetic a.SubtractBorrow p.A = refl
arithmetic a.And p.B = refl
arithmetic a.And p.C = refl
arithmetic a.And p.D = refl
arithmetic a.And p.E = refl
arithmetic a.And p.H = refl
arithmetic a.And p.L = refl
arithmetic a.And p.AtHl = refl
arithmetic a.And p.A = refl
arithmetic a.Xor p.B = refl
arithmetic a.Xor p.C = refl
arithmetic a.Xor p.D = refl
arithmetic a.Xor p.E = refl
arithmetic a.Xor p.H = refl
arithmetic a.Xor p.L = refl
arithmetic a.Xor p.AtHl = refl
arithmetic a.Xor p.A = refl
arithmetic a.Or p.B = refl
arithmetic a.Or p.C = refl
arithmetic a.Or p.D = refl
arithmetic a.Or p.E = refl
arithmetic a.Or p.H = refl
arithmetic a.Or p.L = refl
arithmetic a.Or p.AtHl = refl
arithmetic a.Or p.A = refl
arithmetic a.Compare p.B = refl
arithmetic a.Compare p.C = refl
arithmetic a.Compare p.D = refl
arithmetic a.Compare p.E = refl
arithmetic a.Compare p.H = refl
arithmetic a.Compare p.L = refl
arithmetic a.Compare p.AtHl = refl
arithmetic a.Compare p.A = refl

increment : (d : Operand) → Decodes (op.Increment d)
unfolding decoded8080 encoded
increment p.B = refl
increment p.C = refl
increment p.D = refl
increment p.E = refl
increment p.H = refl
increment p.L = refl
increment p.AtHl = refl
increment p.A = refl

decrement : (d : Operand) → Decodes (op.Decrement d)
unfolding decoded8080 encoded
decrement p.B = refl
decrement p.C = refl
decrement p.D = refl
decrement p.E = refl
decrement p.H = refl
decrement p.L = refl
decrement p.AtHl = refl
decrement p.A = refl

move_immediate : (d : Operand) (n : ℕ) → Decodes (op.MoveImmediate d n)
unfolding decoded8080 encoded
move_immediate p.B n = refl
move_immediate p.C n = refl
move_immediate p.D n = refl
move_immediate p.E n = refl
move_immediate p.H n = refl
move_immediate p.L n = refl
move_immediate p.AtHl n = refl
move_immediate p.A n = refl

arithmetic_immediate : (x : Arithmetic) (n : ℕ) → Decodes (op.ArithmeticImmediate x n)
unfolding decoded8080 encoded
arithmetic_immediate a.Add n = refl
arithmetic_immediate a.AddCarry n = refl
arithmetic_immediate a.Subtract n = refl
arithmetic_immediate a.SubtractBorrow n = refl
arithmetic_immediate a.And n = refl
arithmetic_immediate a.Xor n = refl
arithmetic_immediate a.Or n = refl
arithmetic_immediate a.Compare n = refl

load_pair : (x : Pair) (w : ℕ) → Decodes (op.LoadPair x w)
unfolding decoded8080 encoded
load_pair r.Bc w = ap (λ (x : ℕ). Some (record { op = op.LoadPair r.Bc x; length = 3 })) (halves w)
load_pair r.De w = ap (λ (x : ℕ). Some (record { op = op.LoadPair r.De x; length = 3 })) (halves w)
load_pair r.Hl w = ap (λ (x : ℕ). Some (record { op = op.LoadPair r.Hl x; length = 3 })) (halves w)
load_pair r.Sp w = ap (λ (x : ℕ). Some (record { op = op.LoadPair r.Sp x; length = 3 })) (halves w)

increment_pair : (x : Pair) → Decodes (op.IncrementPair x)
unfolding decoded8080 encoded
increment_pair r.Bc = refl
increment_pair r.De = refl
increment_pair r.Hl = refl
increment_pair r.Sp = refl

decrement_pair : (x : Pair) → Decodes (op.DecrementPair x)
unfolding decoded8080 encoded
decrement_pair r.Bc = refl
decrement_pair r.De = refl
decrement_pair r.Hl = refl
decrement_pair r.Sp = refl

add_pair : (x : Pair) → Decodes (op.AddPair x)
unfolding decoded8080 encoded
add_pair r.Bc = refl
add_pair r.De = refl
add_pair r.Hl = refl
add_pair r.Sp = refl

store_at_pair : (x : Pair) → IsDirect x → Decodes (op.StoreAAtPair x)
unfolding decoded8080 encoded
store_at_pair r.Bc h = refl
store_at_pair r.De h = refl
store_at_pair r.Hl h = absurd h
store_at_pair r.Sp h = absurd h

load_at_pair : (x : Pair) → IsDirect x → Decodes (op.LoadAAtPair x)
unfolding decoded8080 encoded
load_at_pair r.Bc h = refl
load_at_pair r.De h = refl
load_at_pair r.Hl h = absurd h
load_at_pair r.Sp h = absurd h

push : (x : StackPair) → Decodes (op.Push x)
unfolding decoded8080 encoded
push t.Bc = refl
push t.De = refl
push t.Hl = refl
push t.Psw = refl

pop : (x : StackPair) → Decodes (op.Pop x)
unfolding decoded8080 encoded
pop t.Bc = refl
pop t.De = refl
pop t.Hl = refl
pop t.Psw = refl

rotate : (x : Rotation) → Decodes (op.Rotate x)
unfolding decoded8080 encoded
rotate o.Left = refl
rotate o.Right = refl
rotate o.LeftThroughCarry = refl
rotate o.RightThroughCarry = refl

jump_if : (x : Condition) (w : ℕ) → Decodes (op.JumpIf x w)
unfolding decoded8080 encoded
jump_if c.NotZero w = ap (λ (x : ℕ). Some (record { op = op.JumpIf c.NotZero x; length = 3 })) (halves w)
jump_if c.Zero w = ap (λ (x : ℕ). Some (record { op = op.JumpIf c.Zero x; length = 3 })) (halves w)
jump_if c.NoCarry w = ap (λ (x : ℕ). Some (record { op = op.JumpIf c.NoCarry x; length = 3 })) (halves w)
jump_if c.Carry w = ap (λ (x : ℕ). Some (record { op = op.JumpIf c.Carry x; length = 3 })) (halves w)
jump_if c.ParityOdd w = ap (λ (x : ℕ). Some (record { op = op.JumpIf c.ParityOdd x; length = 3 })) (halves w)
jump_if c.ParityEven w = ap (λ (x : ℕ). Some (record { op = op.JumpIf c.ParityEven x; length = 3 })) (halves w)
jump_if c.Plus w = ap (λ (x : ℕ). Some (record { op = op.JumpIf c.Plus x; length = 3 })) (halves w)
jump_if c.Minus w = ap (λ (x : ℕ). Some (record { op = op.JumpIf c.Minus x; length = 3 })) (halves w)

call_if : (x : Condition) (w : ℕ) → Decodes (op.CallIf x w)
unfolding decoded8080 encoded
call_if c.NotZero w = ap (λ (x : ℕ). Some (record { op = op.CallIf c.NotZero x; length = 3 })) (halves w)
call_if c.Zero w = ap (λ (x : ℕ). Some (record { op = op.CallIf c.Zero x; length = 3 })) (halves w)
call_if c.NoCarry w = ap (λ (x : ℕ). Some (record { op = op.CallIf c.NoCarry x; length = 3 })) (halves w)
call_if c.Carry w = ap (λ (x : ℕ). Some (record { op = op.CallIf c.Carry x; length = 3 })) (halves w)
call_if c.ParityOdd w = ap (λ (x : ℕ). Some (record { op = op.CallIf c.ParityOdd x; length = 3 })) (halves w)
call_if c.ParityEven w = ap (λ (x : ℕ). Some (record { op = op.CallIf c.ParityEven x; length = 3 })) (halves w)
call_if c.Plus w = ap (λ (x : ℕ). Some (record { op = op.CallIf c.Plus x; length = 3 })) (halves w)
call_if c.Minus w = ap (λ (x : ℕ). Some (record { op = op.CallIf c.Minus x; length = 3 })) (halves w)

return_if : (x : Condition) → Decodes (op.ReturnIf x)
unfolding decoded8080 encoded
return_if c.NotZero = refl
return_if c.Zero = refl
return_if c.NoCarry = refl
return_if c.Carry = refl
return_if c.ParityOdd = refl
return_if c.ParityEven = refl
return_if c.Plus = refl
return_if c.Minus = refl

-- two functions with equal values at each of 8 numbers
same_at : {A : Type 0} (f g : ℕ → A) → map f (range_with_len 0 8) ≡ map g (range_with_len 0 8) → (n : ℕ) → n < 8 → f n ≡ g n
same_at f g e n h =
    sym (get_or-map-range_with_len f 0 8 n n (f n) h (omega arith)) ∙ ap (λ xs. get_or xs n (f n)) e ∙ get_or-map-range_with_len g 0 8 n n (f n) h (omega arith)

restart : (n : ℕ) → n < 8 → Decodes (op.Restart (8 * n))
unfolding decoded8080 encoded
restart = same_at (λ n. decoded8080 (0xC7 + 8 * (8 * n / 8 % 8)) 0 0) (λ n. Some (record { op = op.Restart (8 * n); length = 1 })) refl

pub encodings : (instruction : Op) → HasEncoding instruction → Decodes instruction
unfolding decoded8080 encoded
encodings op.Nop h = refl
encodings op.Halt h = refl
encodings (op.Move d s) h = move d s h
encodings (op.MoveImmediate d n) h = move_immediate d n
encodings (op.Increment d) h = increment d
encodings (op.Decrement d) h = decrement d
encodings (op.LoadPair x w) h = load_pair x w
encodings (op.IncrementPair x) h = increment_pair x
encodings (op.DecrementPair x) h = decrement_pair x
encodings (op.AddPair x) h = add_pair x
encodings (op.StoreAAtPair x) h = store_at_pair x h
encodings (op.LoadAAtPair x) h = load_at_pair x h
encodings (op.StoreHl w) h = ap (λ (x : ℕ). Some (record { op = op.StoreHl x; length = 3 })) (halves w)
encodings (op.LoadHl w) h = ap (λ (x : ℕ). Some (record { op = op.LoadHl x; length = 3 })) (halves w)
encodings (op.StoreA w) h = ap (λ (x : ℕ). Some (record { op = op.StoreA x; length = 3 })) (halves w)
encodings (op.LoadA w) h = ap (λ (x : ℕ). Some (record { op = op.LoadA x; length = 3 })) (halves w)
encodings (op.Rotate x) h = rotate x
encodings op.DecimalAdjust h = refl
encodings op.ComplementA h = refl
encodings op.SetCarry h = refl
encodings op.ComplementCarry h = refl
encodings (op.Arithmetic x s) h = arithmetic x s
encodings (op.ArithmeticImmediate x n) h = arithmetic_immediate x n
encodings (op.Jump w) h = ap (λ (x : ℕ). Some (record { op = op.Jump x; length = 3 })) (halves w)
encodings (op.JumpIf x w) h = jump_if x w
encodings (op.Call w) h = ap (λ (x : ℕ). Some (record { op = op.Call x; length = 3 })) (halves w)
encodings (op.CallIf x w) h = call_if x w
encodings op.Return h = refl
encodings (op.ReturnIf x) h = return_if x
encodings (op.Restart address) h = subst (λ (x : ℕ). Decodes (op.Restart x)) (sym h.2) (restart h.0 h.1)
encodings (op.Push x) h = push x
encodings (op.Pop x) h = pop x
encodings op.ExchangeStack h = refl
encodings op.JumpHl h = refl
encodings op.StackFromHl h = refl
encodings op.Exchange h = refl
encodings (op.Input n) h = refl
encodings (op.Output n) h = refl
encodings op.DisableInterrupts h = refl
encodings op.EnableInterrupts h = refl
