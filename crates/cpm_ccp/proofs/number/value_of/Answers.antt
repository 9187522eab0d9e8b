use Rattle.std.proofs.Common.{◌*◌, ◌+◌, drop, get_or, suc, arith}
use Rattle.std.specs.Char.{digit_value}
use Rattle.cpm_ccp.proofs.CountLemmas.{digit_value-at, value_grows, value_step}
use Rattle.cpm_ccp.proofs.number.value_of.Goals as goal

pub returns-in_err-value : goal.returns-in_err-value
returns-in_err-value c =
    let ds = c.args.digits.now in
    let i = c.loop-digit.digit-index in
    let n = c.loop-digit.value in
    let step = value_step n i ds c.loop-digit-test.true in
    let grows = value_grows (n * 10 + digit_value (get_or ds i 0)) (drop (suc i) ds) in
    rw c.from_residual.ensures (omega (arith, step, grows, c.in_err-value.ensures, c.loop-digit.invariant))

pub returns-in_err-value-2 : goal.returns-in_err-value-2
returns-in_err-value-2 c =
    let ds = c.args.digits.now in
    let i = c.loop-digit.digit-index in
    let n = c.loop-digit.value in
    let step = value_step n i ds c.loop-digit-test.true in
    let grows = value_grows (n * 10 + digit_value (get_or ds i 0)) (drop (suc i) ds) in
    let digit = digit_value-at ds i c.requires c.loop-digit-test.true in
    rw c.from_residual-in_err-value-2.ensures (omega (arith, step, grows, digit, c.in_err-value-2.ensures, c.in_ok-value.ensures, c.loop-digit.invariant))
