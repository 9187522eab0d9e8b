use Rattle.std.proofs.Common.{◌≡◌, ◌≤◌, ap, sym, ◌∙◌, arith, length}
use Rattle.std.proofs.lemmas.Bool.Decides.{nat_tests}
use Rattle.cpm_asm_expression.specs.Quotes.{sized_text, characters}
use Rattle.cpm_asm_expression.proofs.Quoted.{behind_all, characters-whole, characters-full, characters-push, not_empty}
use Rattle.cpm_asm_expression.proofs.quotes.quoted_text.Goals as goal

pub returns-else-is_empty : goal.returns-else-is_empty
returns-else-is_empty c =
    let front = c.loop-after.characters.items in
    sym (characters-whole front c.loop-after.rest.now c.in-End.after.now (sym c.in-End.ensures) (not_empty front c.if-is_empty.ensures) c.loop-after.invariant.room)
    ∙ c.loop-after.invariant.same

pub returns-then-is_full : goal.returns-then-is_full
returns-then-is_full c =
    let front = c.loop-after.characters.items in
    let here = c.if-is_full.ensures.value in
    let full : length front ≡ 64 = grind (arith, nat_tests) in
    sym (characters-full front c.loop-after.rest.now c.in-Character.after.now c.in-Character.byte (sym c.in-Character.ensures) full)
    ∙ c.loop-after.invariant.same

pub loop-after-preserved : goal.loop-after-preserved
loop-after-preserved c =
    let front = c.loop-after.characters.items in
    let here = c.if-is_full.ensures.value in
    let more = c.push.ensures.len in
    let room : length front ≤ 64 = c.loop-after.invariant.room in
    record {
      same = ap (λ xs. sized_text (behind_all xs (characters c.in-Character.after.now))) c.push.ensures.items
          ∙ ap sized_text (characters-push front c.loop-after.rest.now c.in-Character.after.now c.in-Character.byte (sym c.in-Character.ensures))
          ∙ c.loop-after.invariant.same;
      room = grind (arith, nat_tests);
    }
