use Rattle.std.proofs.Common.{◌≡◌, ◌≢◌, ◌≤◌, Option, Some, None, length, sym, subst, ap, ◌∙◌, refl, arith}
use Rattle.std.specs.Prelude.{IsSome, MatchOption}
use Rattle.cpm_geom.specs.Disk.{Disk}
use Rattle.cpm_volume.specs.Files.{deleted}
use Rattle.cpm_volume.specs.Names.{first_named}
use Rattle.cpm_directory.specs.Directory.{entries_of}
use Rattle.cpm_drive.specs.declared.drive.Drive.{Drive}
use Rattle.cpm_image_files.specs.Taken.{kept_name, IsRenamed}
use Rattle.cpm_image_files.proofs.RemovingLemmas.{fresh, first_below}
use Rattle.cpm_image_files.proofs.RenamedLemmas.{fresh_answer, renamed_by}
use Rattle.cpm_image_files.proofs.renaming.renamed.Goals as goal

must_be_some : {A : Type 0} (r : Option A) (P : Type 0) (Q : A → Type 0) → MatchOption r P Q → (P → ⊥) → IsSome r
must_be_some None P Q h none = absurd (none h)
must_be_some (Some x) P Q h none = refl

pub unwrap-kept-requires : goal.unwrap-kept-requires
unwrap-kept-requires c =
    let is = fresh c.args.image c.new-drive.result c.log_in.new.self c.new-drive.ensures c.log_in.ensures in
    let lent : c.lent.result ≡ c.args.image = c.lent.ensures ∙ ap (λ (x : Drive). x.image) is in
    let live : c.args.file.now.user ≢ deleted = λ z. absurd (let small = c.args.file.now.within in omega arith) in
    let there = first_below (entries_of c.args.image) c.args.file.now.user c.args.file.now.name c.requires.renamable.0.0 live c.requires.renamable.0.2 in
    must_be_some c.kept_name.result _ _ c.kept_name.ensures (λ past. absurd (let none = subst (λ (x : Disk). length (entries_of x) ≤ first_named (entries_of x) c.args.file.now.user c.args.file.now.name) lent past in omega arith))

pub unwrap-requires : goal.unwrap-requires
unwrap-requires c =
    let is = fresh c.args.image c.new-drive.result c.log_in.new.self c.new-drive.ensures c.log_in.ensures in
    let lent : c.lent.result ≡ c.args.image = c.lent.ensures ∙ ap (λ (x : Drive). x.image) is in
    let told = fresh_answer c.args.image c.log_in.new.self c.user.result c.args.file.now.user c.name.result.now c.args.file.now.name c.unwrap-kept.result (c.rename_files.result, c.rename_files.new.self) is c.user.ensures.value c.name.ensures.value c.rename_files.ensures in
    let kept = rw c.unwrap-kept.ensures at c.kept_name.ensures in
    let value : c.unwrap-kept.result ≡ kept_name c.args.image c.args.file.now.user c.args.file.now.name c.args.name.now.name = subst (λ (x : Disk). c.unwrap-kept.result ≡ kept_name x c.args.file.now.user c.args.file.now.name c.args.name.now.name) lent kept.0 in
    let done = renamed_by c.args.image c.args.file.now.user c.args.file.now.name c.args.name.now.name c.unwrap-kept.result c.rename_files.result c.rename_files.new.self c.args.file.now.within c.args.file.now.plain c.args.name.now.plain kept.1 c.requires.whole c.requires.bytes c.requires.sound c.requires.renamable value told in
    rw done.0.1 refl

pub returns : goal.returns
returns c =
    let is = fresh c.args.image c.new-drive.result c.log_in.new.self c.new-drive.ensures c.log_in.ensures in
    let lent : c.lent.result ≡ c.args.image = c.lent.ensures ∙ ap (λ (x : Drive). x.image) is in
    let told = fresh_answer c.args.image c.log_in.new.self c.user.result c.args.file.now.user c.name.result.now c.args.file.now.name c.unwrap-kept.result (c.rename_files.result, c.rename_files.new.self) is c.user.ensures.value c.name.ensures.value c.rename_files.ensures in
    let kept = rw c.unwrap-kept.ensures at c.kept_name.ensures in
    let value : c.unwrap-kept.result ≡ kept_name c.args.image c.args.file.now.user c.args.file.now.name c.args.name.now.name = subst (λ (x : Disk). c.unwrap-kept.result ≡ kept_name x c.args.file.now.user c.args.file.now.name c.args.name.now.name) lent kept.0 in
    let done = renamed_by c.args.image c.args.file.now.user c.args.file.now.name c.args.name.now.name c.unwrap-kept.result c.rename_files.result c.rename_files.new.self c.args.file.now.within c.args.file.now.plain c.args.name.now.plain kept.1 c.requires.whole c.requires.bytes c.requires.sound c.requires.renamable value told in
    subst (λ (x : Disk). IsRenamed c.args.image c.args.file.now.user c.args.file.now.name c.args.name.now.name x) (sym c.into_image.ensures) done.1
