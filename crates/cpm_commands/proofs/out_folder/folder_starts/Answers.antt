use Rattle.std.proofs.Common.{◌∙◌, ◌+◌, [], ap, slice_get}
use Rattle.cpm_commands.proofs.OutFolderLemmas.{started_more}
use Rattle.cpm_commands.proofs.out_folder.folder_starts.Goals as goal

pub loop-folder-preserved : goal.loop-folder-preserved
loop-folder-preserved c =
    let l = c.loop-folder in
    let drives = c.args.drives.now in
    let start = c.in_ok-start.ensures ∙ ap (slice_get drives) (c.len.ensures ∙ l.invariant.count) in
    record {
      made = started_more (λ n. n.now) c.args.folders.now l.folder-index (record { ref_ptr = (0, 0); now = [] }) drives l.starts.items c.push.new.self.items
          (record { folder = c.in_ok-from_str.field-0; start = c.in_ok-start.start }) _ c.loop-folder-test.true c.in_ok-push.ensures.items
          (λ j. (c.in_ok-from_str.ensures.ok j, start j)) l.invariant.made;
      count = c.in_ok-push.ensures.len ∙ ap (λ n. n + 1) l.invariant.count;
    }
