use Rattle.std.proofs.Common.{◌≡◌, ◌∙◌, eqb, arith}
use Rattle.std.specs.List.{position_or_len}
use Rattle.cpm_directory.proofs.TextLemmas.{first_place, within}
use Rattle.cpm_disk_commands.proofs.names.star_of.Goals as goal

pub returns-clause-place : goal.returns-clause-place
returns-clause-place c = rw c.first_star.ensures at c.unwrap_or.ensures ∙ first_place (λ c. eqb c 42) c.args.part.now

pub returns-clause-within : goal.returns-clause-within
returns-clause-within c =
    let e : c.unwrap_or.result ≡ position_or_len (λ c. eqb c 42) c.args.part.now = rw c.first_star.ensures at c.unwrap_or.ensures ∙ first_place (λ c. eqb c 42) c.args.part.now in
    let l = within (λ c. eqb c 42) c.args.part.now in
    omega arith
