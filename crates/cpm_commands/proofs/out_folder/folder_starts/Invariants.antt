use Rattle.std.proofs.Common.{◌≡◌, ◌++◌, drop, map, vec_len}
use Rattle.cpm_commands.specs.OutFolder.{folder_view, folder_starts_of}
use Rattle.cpm_commands.proofs.out_folder.folder_starts.Given as goal

abbrev pub invariant-loop-folder : goal.invariant-loop-folder
invariant-loop-folder l = record {
  made : map folder_view l.starts.items ++ folder_starts_of (map (λ n. n.now) (drop l.folder-index l.folders)) (drop l.folder-index l.drives)
      ≡ folder_starts_of (map (λ n. n.now) l.folders) l.drives;
  count : vec_len l.starts ≡ l.folder-index;
}
