use Rattle.std.proofs.Common.{◌≡◌, List, ℕ, None, Some, ap, option_map, rules, ◌∙◌}
use Rattle.std.specs.Borrow.{Bor}
use Rattle.serde_json.specs.View.{view}
use Rattle.cpm_protocol.proofs.KeyLemmas.{unknown-found}
use Rattle.cpm_protocol.proofs.values.unknown_name.Goals as goal

pub returns-in_err-name : goal.returns-in_err-name
returns-in_err-name c =
    let none : c.from_residual-in_err-name.result ≡ None = search rules in
    ap (option_map (λ (t : Bor (List ℕ)). t.now)) none
    ∙ unknown-found c.args.fields.now c.in_ok-members.members.now.entries (view c.args.value.now) None c.in_ok-members.ensures c.in_err-name.ensures

pub returns : goal.returns
returns c =
    ap (λ (name : List ℕ). Some name) c.as_str.ensures.value
    ∙ unknown-found c.args.fields.now c.in_ok-members.members.now.entries (view c.args.value.now) (Some c.in_ok-name.name.now) c.in_ok-members.ensures c.in_ok-name.ensures
