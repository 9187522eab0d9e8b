use Rattle.std.proofs.Common.{subst, sym, ◌≤◌, ℕ}
use Rattle.cpm_geom.specs.Geometry.{dpb_of}
use Rattle.cpm_disk_commands.proofs.DamageLemmas.{told_within}
use Rattle.cpm_disk_commands.proofs.damage.damage_of.Goals as goal

pub file_at-requires : goal.file_at-requires
file_at-requires c =
    subst (λ (n : ℕ). n ≤ (dpb_of c.args.image.now.format).last_entry) (sym c.fault_entry.ensures) (told_within c.args.image.now c.args.fault c.requires).0

pub file_at-requires-2 : goal.file_at-requires-2
file_at-requires-2 c =
    subst (λ (n : ℕ). n ≤ (dpb_of c.args.image.now.format).last_entry) (sym c.other_of.ensures) (told_within c.args.image.now c.args.fault c.requires).1
