use Rattle.std.proofs.Common.{◌≡◌, ◌++◌, flat_map, map, string_bytes}
use Rattle.std.specs.Vec.Iter.{into_iter_items}
use Rattle.cpm_commands.specs.OutFolder.{IsEven, left_outputs, left_unwritten, outputs_of_file, unwritten_of_file}
use Rattle.cpm_commands.proofs.out_folder.LeftFiles.add_files.Given as goal

abbrev pub invariant-loop-file : goal.invariant-loop-file
invariant-loop-file l = record {
  outputs : left_outputs l.self ++ flat_map (outputs_of_file l.folder (map string_bytes l.names)) (into_iter_items l.file-iterator)
      ≡ left_outputs l.fn.self ++ flat_map (outputs_of_file l.folder (map string_bytes l.names)) l.fn.compared.items;
  unwritten : left_unwritten l.self ++ flat_map (unwritten_of_file l.folder (map string_bytes l.names)) (into_iter_items l.file-iterator)
      ≡ left_unwritten l.fn.self ++ flat_map (unwritten_of_file l.folder (map string_bytes l.names)) l.fn.compared.items;
  even : IsEven l.self;
}
