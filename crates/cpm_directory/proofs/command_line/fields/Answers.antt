use Rattle.std.proofs.Common.{◌-◌, arith, refl, ◌∙◌}
use Rattle.std.specs.Prelude.{nat_lt, if◌then◌else◌}
use Rattle.std.proofs.lemmas.List.FromFn.{fill_by_all}
use Rattle.cpm_directory.specs.CommandLine.{character_of}
use Rattle.cpm_directory.proofs.command_line.fields.Goals as goal

pub returns : goal.returns
returns c =
    fill_by_all (λ k. if nat_lt k 8 then character_of c.args.name.now k else character_of c.args.kind.now (k - 8)) c.loop-place.both 11 0 c.loop-place.invariant.0 (λ k h. c.loop-place.invariant.1 k (omega arith)) ∙ refl
