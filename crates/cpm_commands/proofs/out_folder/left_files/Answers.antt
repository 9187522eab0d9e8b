use Rattle.std.proofs.Common.{◌≡◌, ◌⊎◌, ⊎_elim, [], ap, inl, inr, map}
use Rattle.std.proofs.lemmas.List.{nil_from_length}
use Rattle.std.specs.Iterator.Adapters.{zip_first, zip_second}
use Rattle.std.specs.Slice.Iter.{iter_rest}
use Rattle.cpm_commands.specs.OutFolder.{left_outputs, left_unwritten, folder_view}
use Rattle.cpm_commands.proofs.OutFolderLemmas.{folders_all}
use Rattle.cpm_commands.proofs.out_folder.left_files.Goals as goal

pub returns-clause-left : goal.returns-clause-left
returns-clause-left g c =
    let l = c.loop-start in
    let rest = map folder_view (iter_rest (zip_first l.start-iterator)) in
    let left = iter_rest (zip_second l.start-iterator) in
    let ended : (rest ≡ []) ⊎ (left ≡ []) =
    ⊎_elim (λ a. inl (ap (map folder_view) (nil_from_length _ a.1.0))) (λ b. inr (nil_from_length _ b.1.0)) c.in-None.ensures.steps in
    folders_all g.F.CommandFiles.lists c.args.files.now (map folder_view c.args.starts.now) c.args.drives.now rest left (left_outputs l.left) (left_unwritten l.left) ended
    l.invariant.leads
