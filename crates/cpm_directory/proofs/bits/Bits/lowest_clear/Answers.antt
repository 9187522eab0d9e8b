use Rattle.std.proofs.Common.{◌<◌, ◌*◌, ◌+◌, ◌^◌, get_or, sym, ap, ◌∙◌, arith, rules, inl, inr}
use Rattle.std.proofs.lemmas.Bool.{cases_lt}
use Rattle.cpm_volume.specs.Reserved.{least_free}
use Rattle.cpm_directory.proofs.BitsLemmas.{lowest_in_row, full_row, all_hold}
use Rattle.cpm_directory.proofs.bits.Bits.lowest_clear.Goals as goal

pub returns-then-bits : goal.returns-then-bits
returns-then-bits c =
    let fits : get_or c.self.inside.rows c.loop-row.row 0 < 2 ^ 64 = search rules in
    let lowest = lowest_in_row c.self.inside.rows c.loop-row.row c.loop-row-test.true fits c.if-bits.true c.loop-row.invariant in
    ap (λ n. 64 * c.loop-row.row + n) c.trailing_ones.ensures ∙ (sym lowest ∙ ap least_free c.self.view_is)

pub loop-row-preserved : goal.loop-row-preserved
loop-row-preserved c = λ k h.
    elim (cases_lt k (64 * c.loop-row.row)) [
      | inl early ↦ c.loop-row.invariant k early
      | inr late ↦ full_row c.self.inside.rows c.loop-row.row (omega arith) c.if-bits.false k (omega arith)
    ]

pub returns : goal.returns
returns c = sym (all_hold c.self.inside.rows (λ k h. c.loop-row.invariant k (omega arith))) ∙ ap least_free c.self.view_is
