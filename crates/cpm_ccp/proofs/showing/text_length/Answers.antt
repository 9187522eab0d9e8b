use Rattle.std.proofs.Common.{◌≡◌, ◌∙◌, arith}
use Rattle.std.specs.List.{position_or_len}
use Rattle.cpm_ccp.specs.Showing.{ends_text}
use Rattle.cpm_ccp.proofs.TextLemmas.{first_place, within}
use Rattle.cpm_ccp.proofs.showing.text_length.Goals as goal

pub returns-clause-count : goal.returns-clause-count
returns-clause-count c = rw c.first_end.ensures at c.unwrap_or.ensures ∙ first_place ends_text c.args.record.now

pub returns-clause-within : goal.returns-clause-within
returns-clause-within c =
    let e : c.unwrap_or.result ≡ position_or_len ends_text c.args.record.now = rw c.first_end.ensures at c.unwrap_or.ensures ∙ first_place ends_text c.args.record.now in
    let l = within ends_text c.args.record.now in
    omega arith
