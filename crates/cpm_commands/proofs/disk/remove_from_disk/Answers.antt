use Rattle.std.proofs.Common.{List, inl, inr, refl, subst}
use Rattle.std.proofs.lemmas.Result.{IfErr-weaker, err_from_is_err_and}
use Rattle.cpm_image_files.specs.declared.name.FileName.{FileName}
use Rattle.cpm_commands.specs.Disk.{AreRemoved, IsRemovalStopped}
use Rattle.cpm_commands.specs.Disk.IsChangeRefused.{Unchanged, Unwritten}
use Rattle.cpm_commands.proofs.disk.remove_from_disk.Goals as goal

pub returns-in_err-named-clause-refusal : goal.returns-in_err-named-clause-refusal
returns-in_err-named-clause-refusal g c =
    let p = err_from_is_err_and c.from_residual-in_err-named.result c.from_residual-in_err-named.ensures.1 in
    rw (p.1, p.2) (Unchanged c.in_ok-image.image c.open_image.new.files c.in_ok-image.ensures.opened (inl c.in_err-named.ensures.refusal, refl))

pub returns-in_err-image-2-clause-refusal : goal.returns-in_err-image-2-clause-refusal
returns-in_err-image-2-clause-refusal g c =
    let p = err_from_is_err_and c.from_residual-in_err-image-2.result c.from_residual-in_err-image-2.ensures.1 in
    let disk = c.in_ok-image.image in
    let stopped = subst (λ (fs : List FileName). IsRemovalStopped c.args.name.now fs disk c.in_err-image-2.field-0.0) c.as_slice.ensures.value
    c.in_err-image-2.ensures.refusal in
    rw (p.1, p.2) (Unchanged disk c.open_image.new.files c.in_ok-image.ensures.opened (inr (c.in_ok-named.named.items, c.in_ok-named.ensures.named, stopped), refl))

pub returns-clause-refusal : goal.returns-clause-refusal
returns-clause-refusal g c =
    let disk = c.in_ok-image.image in
    let begun = c.open_image.new.files in
    let removed = subst (λ (fs : List FileName). AreRemoved fs disk c.in_ok-image-2.image) c.as_slice.ensures.value c.in_ok-image-2.ensures.removed in
    IfErr-weaker c.write_image.result _ _
    (λ e h. Unwritten disk c.in_ok-image-2.image begun begun c.in_ok-image.ensures.opened (c.in_ok-named.named.items, c.in_ok-named.ensures.named, removed, refl) h)
    c.write_image.ensures.refusal
