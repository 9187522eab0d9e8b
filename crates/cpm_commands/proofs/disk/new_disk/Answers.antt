use Rattle.std.proofs.Common.{None, subst}
use Rattle.std.proofs.lemmas.Result.{IfErr-weaker}
use Rattle.cpm_geom.specs.Disk.{Disk}
use Rattle.cpm_commands.specs.Disk.{disk_outputs}
use Rattle.cpm_commands.specs.Disk.IsNewRefused.{Unwritten}
use Rattle.cpm_commands.specs.Files.{AreUnwritten}
use Rattle.cpm_commands.specs.Plan.{Plan}
use Rattle.cpm_commands.proofs.disk.new_disk.Goals as goal

pub returns-clause-refusal : goal.returns-clause-refusal
returns-clause-refusal g c =
    let does = g.F.Store.does in
    let gives_names = g.F.CommandFiles.gives_names in
    let seen = c.see_to.new.self in
    let sees = subst (λ (p : Plan). g.F.CommandFiles.sees_to c.args.files.now p None seen) c.in_ok-plan.ensures c.in_ok-see_to.ensures.seen in
    IfErr-weaker c.write_image.result _ _
    (λ e h. Unwritten seen sees (subst (λ (d : Disk). AreUnwritten does gives_names (disk_outputs c.args.name.now d) seen c.write_image.new.files e) c.in_ok-image.ensures h))
    c.write_image.ensures.refusal
