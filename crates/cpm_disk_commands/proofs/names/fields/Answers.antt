use Rattle.std.proofs.Common.{◌-◌, arith, refl, ◌∙◌}
use Rattle.std.specs.Prelude.{nat_lt, if◌then◌else◌}
use Rattle.std.proofs.lemmas.List.FromFn.{fill_by_all}
use Rattle.cpm_disk_commands.specs.Names.{character_at, fields}
use Rattle.cpm_disk_commands.proofs.names.fields.Goals as goal

pub returns : goal.returns
unfolding fields
returns c =
    fill_by_all (λ k. if nat_lt k 8 then character_at c.name_part-name.result.now k else character_at c.type_part-kind.result.now (k - 8)) c.loop-place.both 11 0 c.loop-place.invariant.0 (λ k h. c.loop-place.invariant.1 k (omega arith)) ∙ rw c.name_part-name.ensures (rw c.type_part-kind.ensures refl)
