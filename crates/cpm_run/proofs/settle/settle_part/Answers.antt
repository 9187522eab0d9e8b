use Rattle.std.proofs.Common.{◌≡◌, ◌∙◌, ◌≤◌, ◌+◌, List, length, nat_le, true, ap, refl, sym, arith, rules}
use Rattle.std.proofs.lemmas.Bool.Decides.{nat_tests}
use Rattle.cpm_script.specs.Script.{most_keys}
use Rattle.cpm_script.specs.declared.script.Key.{Key}
use Rattle.cpm_run.specs.Settling.{part_view}
use Rattle.cpm_run.proofs.SettleLemmas.{written_part}
use Rattle.cpm_run.proofs.settle.settle_part.Goals as goal

pub returns-in_ok-joined-in-Some-clause-sound : goal.returns-in_ok-joined-in-Some-clause-sound
returns-in_ok-joined-in-Some-clause-sound g c =
    let test : nat_le (c.pending_keys-pending.result + c.len.result + c.len-then-not-stops_idle.result) most_keys ≡ true = sym c.has_room.ensures ∙ c.if-has_room.true in
    let within : c.pending_keys-pending.result + c.len.result + c.len-then-not-stops_idle.result ≤ most_keys = grind (arith, nat_tests) in
    let pending = c.pending_keys-pending.ensures in
    let before : c.len.result ≡ length c.args.part.before.items = search rules in
    let own : c.len-then-not-stops_idle.result ≡ length c.in-Some.own.items = search rules in
    let first = ap (λ (ks : List Key). length ks) c.as_slice-in-Some.ensures.value in
    let last = ap (λ (ks : List Key). length ks) c.as_slice-in-Some-2.ensures.value in
    written_part c.args.system.now (part_view c.args.part) c.args.part.cues.items c.as_slice.result.now c.in_ok-own.field-0 c.in-Some.own c.as_slice-in-Some.result.now c.as_slice-in-Some-2.result.now
    c.in_ok-joined-in-Some.field-0.items c.requires.fit c.as_slice.ensures.value c.in_ok-own.ensures.keys c.in-Some.is c.as_slice-in-Some.ensures.value
    c.as_slice-in-Some-2.ensures.value c.in_ok-joined-in-Some.ensures refl (omega (arith, within, pending, before, own, first, last)) c.in_ok-own.ensures.counts
