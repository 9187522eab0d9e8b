use Rattle.std.proofs.Common.{◌∙◌, option_map, subst, sym}
use Rattle.std.proofs.lemmas.Bool.{both_ways}
use Rattle.std.proofs.lemmas.Slice.Eq.{bytes_eq-Decides}
use Rattle.cpm_disk_commands.specs.Changed.{HadFile}
use Rattle.cpm_disk_commands.proofs.ChangedLemmas.{one_got}
use Rattle.cpm_disk_commands.proofs.changed.had_file.Goals as goal

pub returns-in-Ok-clause-had_not : goal.returns-in-Ok-clause-had_not
returns-in-Ok-clause-had_not c = λ differs had_it.
    let user = c.args.file.now.user in
    let name = c.args.file.now.name in
    let bytes = c.args.bytes.now in
    let got = subst (λ start. HadFile (option_map (λ d. d.now) start) user name bytes) c.in-Some.is had_it in
    let same = one_got c.in-Some.disk.now user name c.in-Ok.had.items bytes c.in-Ok.ensures got in
    both_ways _ differs (c.eq.ensures ∙ (bytes_eq-Decides c.as_slice.result.now bytes).1 (c.as_slice.ensures.value ∙ same))
