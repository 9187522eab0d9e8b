use Rattle.std.proofs.Common.{List, String, Global, flat_map, map, refl, string_bytes, subst}
use Rattle.std.specs.Prelude.{Option}
use Rattle.cpm_disk_commands.specs.Changed.{IsDiskCompared}
use Rattle.cpm_geom.specs.Disk.{Disk}
use Rattle.cpm_store.specs.Files.{StoreName}
use Rattle.cpm_commands.specs.OutFolder.{HasAddedFiles, outputs_of_file, unwritten_of_file}
use Rattle.cpm_commands.proofs.out_folder.add_drive.Goals as goal

pub returns-clause-added : goal.returns-clause-added
returns-clause-added g c =
    let old = c.args.left.now in
    let new = c.add_files.new.self in
    let folder = string_bytes c.args.start.now.folder in
    let names = c.in_ok-names.names.items in
    let compared = c.in_ok-compared.compared.items in
    let known = map string_bytes names in
    let named = subst (λ (ns : List (String Global)). HasAddedFiles old new (flat_map (outputs_of_file c.as_str-folder.result.now (map string_bytes ns)) compared)
    (flat_map (unwritten_of_file c.as_str-folder.result.now (map string_bytes ns)) compared)) c.as_slice.ensures.value c.in_ok-add_files.ensures in
    record {
      outputs = flat_map (outputs_of_file folder known) compared;
      unwritten = flat_map (unwritten_of_file folder known) compared;
      folder = record {
        names = known;
        listed = subst (λ (n : StoreName). g.F.CommandFiles.lists c.args.files.now n known) c.as_str-folder.ensures.value c.in_ok-names.ensures.listed;
        compared = compared;
        compared_are = subst (λ (s : Option Disk). IsDiskCompared s c.args.drive.now compared) c.as_ref.ensures.value c.in_ok-compared.ensures;
        outputs_are = refl;
        unwritten_are = refl;
      };
      added = subst (λ (n : StoreName). HasAddedFiles old new (flat_map (outputs_of_file n known) compared) (flat_map (unwritten_of_file n known) compared))
          c.as_str-folder.ensures.value named;
    }
