use Rattle.std.proofs.Common.{map}
use Rattle.std.specs.Iterator.Adapters.{zip_first, zip_second}
use Rattle.std.specs.Slice.Iter.{iter_rest}
use Rattle.cpm_commands.specs.OutFolder.{IsEven, left_outputs, left_unwritten, folder_view}
use Rattle.cpm_commands.proofs.OutFolderLemmas.{FoldersLead, FoldersStop}
use Rattle.cpm_commands.proofs.out_folder.left_files.Given as goal

abbrev pub invariant-loop-start : goal.invariant-loop-start
invariant-loop-start g l = record {
  leads : FoldersLead g.F.CommandFiles.lists l.files (map folder_view l.starts) l.drives (map folder_view (iter_rest (zip_first l.start-iterator)))
      (iter_rest (zip_second l.start-iterator)) (left_outputs l.left) (left_unwritten l.left);
  stops : FoldersStop g.F.CommandFiles.unlists l.files (map folder_view l.starts) l.drives (map folder_view (iter_rest (zip_first l.start-iterator)))
      (iter_rest (zip_second l.start-iterator));
  even : IsEven l.left;
}
