use Rattle.std.proofs.Common.{List, Some, ap, sym, ◌∙◌}
use Rattle.serde_json.specs.View.{items_view, view}
use Rattle.serde_json.specs.declared.value.Value.{Value}
use Rattle.cpm_protocol.proofs.KeyLemmas.{many-passed, many-refused}
use Rattle.cpm_protocol.proofs.line.requests_in.Goals as goal

pub returns-then-are_few : goal.returns-then-are_few
returns-then-are_few c =
    many-passed c.as_slice-requests.result.now (view c.args.value.now)
    (ap (λ (vs : List Value). Some (items_view vs)) c.as_slice-requests.ensures.value ∙ c.in_ok-list.ensures) (sym c.are_few.ensures ∙ c.if-are_few.true)

pub returns-else-are_few : goal.returns-else-are_few
returns-else-are_few c =
    many-refused c.as_slice-requests.result.now (view c.args.value.now)
    (ap (λ (vs : List Value). Some (items_view vs)) c.as_slice-requests.ensures.value ∙ c.in_ok-list.ensures) (sym c.are_few.ensures ∙ c.if-are_few.false)
