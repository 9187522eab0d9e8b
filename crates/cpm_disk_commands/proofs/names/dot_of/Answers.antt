use Rattle.std.proofs.Common.{◌≡◌, ◌∙◌, eqb, arith}
use Rattle.std.specs.List.{position_or_len}
use Rattle.cpm_directory.proofs.TextLemmas.{first_place, within}
use Rattle.cpm_disk_commands.proofs.names.dot_of.Goals as goal

pub returns-clause-place : goal.returns-clause-place
returns-clause-place c = rw c.first_dot.ensures at c.unwrap_or.ensures ∙ first_place (λ c. eqb c 46) c.args.text.now

pub returns-clause-within : goal.returns-clause-within
returns-clause-within c =
    let e : c.unwrap_or.result ≡ position_or_len (λ c. eqb c 46) c.args.text.now = rw c.first_dot.ensures at c.unwrap_or.ensures ∙ first_place (λ c. eqb c 46) c.args.text.now in
    let l = within (λ c. eqb c 46) c.args.text.now in
    omega arith
