use Rattle.std.proofs.Common.{List, ap, ◌≡◌, ◌∙◌, ◌+◌, ◌≤◌, sym, subst, arith, length, length-append}
use Rattle.std.specs.Prelude.{Err, IfSome}
use Rattle.cpm_script.specs.KeyText.{keys_of}
use Rattle.cpm_script.specs.Script.{is_allowed}
use Rattle.cpm_script.proofs.KeyLemmas.{added-all, added-full, added-refused, fronted, joined, joined-end, joined-first, keys_of-first, keys_of-some, not_allowed, not_empty, room_for_one}
use Rattle.cpm_script.proofs.script.add_keys.Goals as goal

pub returns-in_default-clause-added : goal.returns-in_default-clause-added
returns-in_default-clause-added c =
    let rest = c.loop-rest.rest.now in
    let none = keys_of-first rest (not_empty rest c.loop-rest-test.ensures) ∙ ap fronted (sym c.in_default.ensures) in
    added-refused c.args.limit c.args.keys.now.items c.loop-rest.keys.items c.args.count (keys_of rest) (keys_of c.args.text.now) c.loop-rest.invariant.same none

pub returns-then-is_full-clause-added : goal.returns-then-is_full-clause-added
returns-then-is_full-clause-added c =
    let rest = c.loop-rest.rest.now in
    let limit = c.args.limit in
    let counted : length c.loop-rest.keys.items ≡ c.len.result = omega (arith, c.len.ensures) in
    let many = ap (λ n. is_allowed limit (n + 1)) counted ∙ not_allowed (is_allowed limit (c.len.result + 1)) c.if-is_full.ensures in
    added-full limit c.args.keys.now.items c.loop-rest.keys.items c.args.count (keys_of rest) (keys_of c.args.text.now) c.loop-rest.invariant.same
    (λ ks is. keys_of-some rest ks (not_empty rest c.loop-rest-test.ensures) is)
    (λ ks is. keys_of-some c.args.text.now ks (not_empty c.args.text.now c.if-is_empty.ensures) is) many
    ∙ ap Err (sym c.fault_past_last_key.ensures)

pub loop-rest-preserved : goal.loop-rest-preserved
loop-rest-preserved c =
    let rest = c.loop-rest.rest.now in
    let keys = c.loop-rest.keys.items in
    let first = keys_of-first rest (not_empty rest c.loop-rest-test.ensures) ∙ ap fronted (sym c.in-Some.ensures) in
    let counted : c.len.result ≡ length keys = omega (arith, c.len.ensures) in
    let lengths = ap length c.in-Ok.ensures ∙ length-append keys _ in
    record {
      same = ap (λ (ks : List _). joined ks c.args.count (keys_of c.in-Some.after.now)) c.in-Ok.ensures
          ∙ joined-first keys c.args.count c.in-Some.byte (keys_of c.in-Some.after.now)
          ∙ ap (joined keys c.args.count) (sym first) ∙ c.loop-rest.invariant.same;
      room = subst (λ n. IfSome c.args.limit (λ most. n ≤ most)) (ap (λ n. n + 1) counted ∙ sym lengths) (room_for_one c.args.limit c.len.result c.if-is_full.ensures);
    }

pub returns-clause-added : goal.returns-clause-added
returns-clause-added c =
    added-all c.args.limit c.args.keys.now.items c.loop-rest.keys.items c.args.count (keys_of c.args.text.now)
    (λ ks is. keys_of-some c.args.text.now ks (not_empty c.args.text.now c.if-is_empty.ensures) is) c.loop-rest.invariant.room
    (joined-end c.loop-rest.keys.items c.args.count c.loop-rest.rest.now c.loop-rest-test.ensures ∙ c.loop-rest.invariant.same)
