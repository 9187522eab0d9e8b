use Rattle.std.proofs.Common.{◌≡◌, ◌∙◌, not, eqb, arith}
use Rattle.std.specs.List.{position_or_len}
use Rattle.cpm_ccp.proofs.TextLemmas.{first_place, within}
use Rattle.cpm_ccp.proofs.words.spaces_in_front.Goals as goal

pub returns-clause-count : goal.returns-clause-count
returns-clause-count c = rw c.first_character.ensures at c.unwrap_or.ensures ∙ first_place (λ c. not (eqb c 32)) c.args.text.now

pub returns-clause-within : goal.returns-clause-within
returns-clause-within c =
    let e : c.unwrap_or.result ≡ position_or_len (λ c. not (eqb c 32)) c.args.text.now = rw c.first_character.ensures at c.unwrap_or.ensures ∙ first_place (λ c. not (eqb c 32)) c.args.text.now in
    let l = within (λ c. not (eqb c 32)) c.args.text.now in
    omega arith
