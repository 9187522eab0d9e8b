use Rattle.std.proofs.Common.{◌∙◌, List, String, Global, ap, map, subst}
use Rattle.std.specs.Prelude.{Option}
use Rattle.std.proofs.lemmas.Result.{err_from_is_err_and}
use Rattle.cpm_store.specs.Files.{StoreName}
use Rattle.cpm_store.specs.Writes.{NamedBytes, named_output}
use Rattle.cpm_commands.specs.Get.{taken_outputs}
use Rattle.cpm_commands.specs.Left.{IsSeenUnwritten, record_of_play}
use Rattle.cpm_commands.specs.Left.AreFoldersUnwritten.{NotWritten}
use Rattle.cpm_commands.specs.OutFolder.{left_unwritten}
use Rattle.cpm_commands.proofs.left.write_folders.Goals as goal

pub returns-in_err-write_seen-clause-refusal : goal.returns-in_err-write_seen-clause-refusal
returns-in_err-write_seen-clause-refusal g c =
    let p = err_from_is_err_and c.from_residual-in_err-write_seen.result c.from_residual-in_err-write_seen.ensures.1 in
    let all = c.in_ok-paths.field-0 in
    let h = c.in_ok-paths.ensures.left in
    let old = c.args.files.now in
    let new = c.write_seen.new.files in
    let e = c.in_err-write_seen.field-0.0 in
    let outputs = ap (map named_output) c.as_slice-2.ensures.value ∙ c.in_ok-outputs.ensures
    ∙ ap (λ (ps : List (String Global)). taken_outputs ps all.contents.items) c.as_slice.ensures.value ∙ h.outputs in
    let told = subst (λ (to : Option StoreName). IsSeenUnwritten g.F.Store.does g.F.CommandFiles.sees_to g.F.CommandFiles.gives_names
    (map named_output c.as_slice-2.result.now) to old new e) c.in_ok-record.ensures c.in_err-write_seen.ensures.refusal in
    let seen = subst (λ (qs : List NamedBytes). IsSeenUnwritten g.F.Store.does g.F.CommandFiles.sees_to g.F.CommandFiles.gives_names qs
    (record_of_play c.args.task.now) old new e) outputs told in
    rw (p.1, p.2) (NotWritten h.left (left_unwritten all) h.found seen)
