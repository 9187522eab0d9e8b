use Rattle.std.proofs.Common.{◌≡◌, ◌∙◌, List, ◌∷◌, ◌+◌, ap, drop, inl, subst, sym}
use Rattle.std.proofs.lemmas.List.{drop_more}
use Rattle.std.proofs.lemmas.Result.{err_from_is_err_and}
use Rattle.cpm_image_files.specs.declared.name.FileName.{FileName}
use Rattle.cpm_commands.specs.Disk.{IsRemovalStopped}
use Rattle.cpm_commands.proofs.disk.remove_all.Goals as goal

pub returns-in_err-image-clause-refusal : goal.returns-in_err-image-clause-refusal
returns-in_err-image-clause-refusal c =
    let p = err_from_is_err_and c.from_residual.result c.from_residual.ensures.1 in
    let named = c.args.named.now in
    let i = c.loop-file.file-index in
    let file = c.file-item.result in
    let rest : drop i named ≡ file ∷ drop (i + 1) named = drop_more named i file c.loop-file-test.true ∙ ap (λ (f : FileName). f ∷ drop (i + 1) named) (sym c.file-item.is) in
    rw p.1 (c.loop-file.invariant.stops p.0 (subst (λ (fs : List FileName). IsRemovalStopped c.args.name.now fs c.loop-file.image p.0) (sym rest)
    (inl (c.in_err-image.field-0.0, c.in_err-image.ensures, p.2))))
