-- An instruction stores two bytes at most.
use Rattle.std.proofs.Common.{ℕ, ◌≤◌, Bool, true, false, Option, Some, None, length, arith}
use Rattle.std.specs.Prelude.{if◌then◌else◌}
use Rattle.cpm_flags.specs.declared.regs.Cpu.{Cpu}
use Rattle.cpm_flags.specs.declared.regs.Cpu.TheVariants.{I8080}
use Rattle.cpm_flags.specs.declared.regs.Regs.{Regs}
use Rattle.cpm_memory.specs.Contents.{Contents}
use Rattle.cpm_decode.specs.declared.operation.Op.{Op}
use Rattle.cpm_decode.specs.declared.operation.Op.TheVariants as op
use Rattle.cpm_decode.specs.declared.operation.Operand.{Operand}
use Rattle.cpm_decode.specs.declared.operation.Operand.TheVariants as places
use Rattle.cpm_decode.specs.declared.operation.Decoded.{Decoded}
use Rattle.cpm_decode.specs.Rows8080.{decoded_at}
use Rattle.cpm_exec8080.specs.Effect.{Effect}
use Rattle.cpm_exec8080.specs.Operands.{place_stores, holds}
use Rattle.cpm_exec8080.specs.Meaning8080.{meaning, shared_effect, effect_of_row, shared_step, step8080_of}

pub few_places : (place : Operand) (regs : Regs) (value : ℕ) → length (place_stores regs place value) ≤ 2
few_places places.B regs value = omega arith
few_places places.C regs value = omega arith
few_places places.D regs value = omega arith
few_places places.E regs value = omega arith
few_places places.H regs value = omega arith
few_places places.L regs value = omega arith
few_places places.AtHl regs value = omega arith
few_places places.A regs value = omega arith

pub few_if : (b : Bool) (x y : Effect) → length x.stores ≤ 2 → length y.stores ≤ 2 → length (if b then x else y).stores ≤ 2
few_if true x y h g = h
few_if false x y h g = g

pub few_meant : (cpu : Cpu) (o : Op) (memory : Contents) (regs : Regs) → length (meaning cpu o memory regs).stores ≤ 2
few_meant cpu op.Nop memory regs = omega arith
few_meant cpu op.Halt memory regs = omega arith
few_meant cpu (op.Move target source) memory regs = few_places target regs _
few_meant cpu (op.MoveImmediate target value) memory regs = few_places target regs value
few_meant cpu (op.Increment place) memory regs = few_places place regs _
few_meant cpu (op.Decrement place) memory regs = few_places place regs _
few_meant cpu (op.LoadPair pair value) memory regs = omega arith
few_meant cpu (op.IncrementPair pair) memory regs = omega arith
few_meant cpu (op.DecrementPair pair) memory regs = omega arith
few_meant cpu (op.AddPair pair) memory regs = omega arith
few_meant cpu (op.StoreAAtPair pair) memory regs = omega arith
few_meant cpu (op.LoadAAtPair pair) memory regs = omega arith
few_meant cpu (op.StoreHl address) memory regs = omega arith
few_meant cpu (op.LoadHl address) memory regs = omega arith
few_meant cpu (op.StoreA address) memory regs = omega arith
few_meant cpu (op.LoadA address) memory regs = omega arith
few_meant cpu (op.Rotate rotation) memory regs = omega arith
few_meant cpu op.DecimalAdjust memory regs = omega arith
few_meant cpu op.ComplementA memory regs = omega arith
few_meant cpu op.SetCarry memory regs = omega arith
few_meant cpu op.ComplementCarry memory regs = omega arith
few_meant cpu (op.Arithmetic operation place) memory regs = omega arith
few_meant cpu (op.ArithmeticImmediate operation value) memory regs = omega arith
few_meant cpu (op.Jump address) memory regs = omega arith
few_meant cpu (op.JumpIf condition address) memory regs = few_if (holds regs.flags condition) _ _ (omega arith) (omega arith)
few_meant cpu (op.Call address) memory regs = omega arith
few_meant cpu (op.CallIf condition address) memory regs = few_if (holds regs.flags condition) _ _ (omega arith) (omega arith)
few_meant cpu op.Return memory regs = omega arith
few_meant cpu (op.ReturnIf condition) memory regs = few_if (holds regs.flags condition) _ _ (omega arith) (omega arith)
few_meant cpu (op.Restart address) memory regs = omega arith
few_meant cpu (op.Push pair) memory regs = omega arith
few_meant cpu (op.Pop pair) memory regs = omega arith
few_meant cpu op.ExchangeStack memory regs = omega arith
few_meant cpu op.JumpHl memory regs = omega arith
few_meant cpu op.StackFromHl memory regs = omega arith
few_meant cpu op.Exchange memory regs = omega arith
few_meant cpu (op.Input port) memory regs = omega arith
few_meant cpu (op.Output port) memory regs = omega arith
few_meant cpu op.DisableInterrupts memory regs = omega arith
few_meant cpu op.EnableInterrupts memory regs = omega arith

few_row : (row : Option Decoded) (memory : Contents) (regs : Regs) → length (effect_of_row I8080 row memory regs).stores ≤ 2
unfolding shared_effect
few_row None memory regs = omega arith
few_row (Some decoded) memory regs = few_meant I8080 decoded.op memory _

-- an instruction of the 8080 stores two bytes at most
pub few_stores : (memory : Contents) (regs : Regs) → length (step8080_of memory regs).stores ≤ 2
unfolding shared_step
few_stores memory regs = few_row (decoded_at memory regs.pc) memory regs
