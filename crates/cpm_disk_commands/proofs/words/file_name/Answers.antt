use Rattle.std.proofs.Common.{◌≡◌, ◌∙◌, ⊎_elim, sym, ap, arith}
use Rattle.std.proofs.lemmas.Bool.{false≢true, some_since}
use Rattle.cpm_volume.specs.Files.{has_wildcard}
use Rattle.cpm_disk_commands.specs.Names.{with_marks}
use Rattle.cpm_disk_commands.proofs.NameLemmas.{name_is, plain_name}
use Rattle.cpm_disk_commands.proofs.words.file_name.Goals as goal

pub unwrap-requires : goal.unwrap-requires
unwrap-requires c =
    let is = name_is c.args.text.now c.in-Some.name c.in-Some.ensures in
    let plain : has_wildcard c.with_marks-name.result ≡ _ =
    ap has_wildcard (c.with_marks-name.ensures ∙ ap (with_marks c.args.is_read_only c.args.is_system) is.1) ∙ plain_name c.args.is_read_only c.args.is_system c.args.text.now is.0 in
    some_since _ _ _ c.new.ensures (λ h. ⊎_elim (λ l. omega (arith, l)) (λ e. false≢true (sym plain ∙ e)) h)
