use Rattle.std.proofs.Common.{◌≡◌, ◌∙◌, eqb, arith}
use Rattle.std.specs.List.{position_or_len}
use Rattle.cpm_directory.proofs.TextLemmas.{first_place, within}
use Rattle.cpm_directory.proofs.command_line.before_star.Goals as goal

pub returns-clause-count : goal.returns-clause-count
returns-clause-count c = rw c.first_star.ensures at c.unwrap_or.ensures ∙ first_place (λ c. eqb c 42) c.args.word.now

pub returns-clause-within : goal.returns-clause-within
returns-clause-within c =
    let e : c.unwrap_or.result ≡ position_or_len (λ c. eqb c 42) c.args.word.now = rw c.first_star.ensures at c.unwrap_or.ensures ∙ first_place (λ c. eqb c 42) c.args.word.now in
    let l = within (λ c. eqb c 42) c.args.word.now in
    omega arith
