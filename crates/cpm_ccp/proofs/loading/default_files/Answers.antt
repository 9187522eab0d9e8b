use Rattle.std.proofs.Common.{◌≡◌, ap, ◌∙◌}
use Rattle.cpm_directory.specs.CommandLine.{fcb_named, text_behind_name}
use Rattle.cpm_ccp.specs.Loading.{name_bytes, default_files}
use Rattle.cpm_ccp.proofs.LoadingTexts.{two_names, length-name_bytes}
use Rattle.cpm_ccp.proofs.loading.default_files.Goals as goal

pub returns : goal.returns
unfolding default_files
returns c =
    let tail = c.args.tail.now in
    let first : c.copy_from_slice.new.self ≡ name_bytes (fcb_named tail) = c.copy_from_slice.ensures.after ∙ (c.name_bytes.ensures ∙ ap name_bytes c.default_fcbs.ensures.first) in
    let second : c.copy_from_slice-2.new.self ≡ name_bytes (fcb_named (text_behind_name tail)) = c.copy_from_slice-2.ensures.after ∙ (c.name_bytes-2.ensures ∙ ap name_bytes c.default_fcbs.ensures.second) in
    rw (first, second) (two_names _ _ (length-name_bytes tail) (length-name_bytes (text_behind_name tail)))
