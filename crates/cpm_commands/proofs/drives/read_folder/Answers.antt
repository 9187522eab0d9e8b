use Rattle.std.proofs.Common.{List, inr, map, subst}
use Rattle.std.proofs.lemmas.Result.{IfErr-weaker}
use Rattle.cpm_disk_commands.specs.Folder.{host_file, IsDiskOfFilesRefusal}
use Rattle.cpm_disk_commands.specs.declared.folder.HostFile.{HostFile}
use Rattle.cpm_commands.specs.Disk.{IsDiskRefusal}
use Rattle.cpm_commands.specs.Drives.{AreReadBy, IsFileRead}
use Rattle.cpm_commands.specs.declared.drives.PlacedFile.{PlacedFile}
use Rattle.cpm_commands.proofs.drives.read_folder.Goals as goal

pub returns-clause-refusal : goal.returns-clause-refusal
returns-clause-refusal g c =
    let hosts = c.in_ok-read.read.items in
    let folder = c.args.folder.now.folder.now in
    let read = subst (λ (fs : List PlacedFile). AreReadBy (IsFileRead g.F.Store.does) fs c.args.files.now c.read_all_placed.new.files hosts) c.as_slice.ensures.value
    c.in_ok-read.ensures.read in
    IfErr-weaker c.disk_of.result _ _ (λ e h. inr (
      hosts,
      read,
      subst (λ (hs : List HostFile). IsDiskRefusal (IsDiskOfFilesRefusal folder (map host_file hs)) e) c.as_slice-2.ensures.value h,
    )) c.disk_of.ensures.refusal
