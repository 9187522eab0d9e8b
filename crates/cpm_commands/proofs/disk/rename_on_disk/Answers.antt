use Rattle.std.proofs.Common.{inl, inr, refl}
use Rattle.std.proofs.lemmas.Result.{IfErr-weaker, err_from_is_err_and, on_ok_weaker}
use Rattle.cpm_commands.specs.Disk.IsChangeRefused.{Unchanged, Unopened, Unwritten}
use Rattle.cpm_commands.proofs.disk.rename_on_disk.Goals as goal

pub returns-in_err-new_file-clause-refusal : goal.returns-in_err-new_file-clause-refusal
returns-in_err-new_file-clause-refusal g c =
    let p = err_from_is_err_and c.from_residual.result c.from_residual.ensures.1 in
    rw (p.1, p.2) (inl (c.in_err-new_file.ensures.refusal, refl))

pub returns-in_err-image-clause-refusal : goal.returns-in_err-image-clause-refusal
returns-in_err-image-clause-refusal g c =
    let p = err_from_is_err_and c.from_residual-in_err-image.result c.from_residual-in_err-image.ensures.1 in
    let names = c.in_ok-new_file in
    rw (p.1, p.2) (inr (names.file, names.new_file, names.ensures.names, Unopened c.in_err-image.ensures.refusal))

pub returns-in_err-image-2-clause-refusal : goal.returns-in_err-image-2-clause-refusal
returns-in_err-image-2-clause-refusal g c =
    let p = err_from_is_err_and c.from_residual-in_err-image-2.result c.from_residual-in_err-image-2.ensures.1 in
    let names = c.in_ok-new_file in
    rw p.1 (inr (
      names.file,
      names.new_file,
      names.ensures.names,
      Unchanged c.in_ok-image.image c.open_image.new.files c.in_ok-image.ensures.opened ((c.in_err-image-2.field-0.0, c.in_err-image-2.ensures, p.2), refl),
    ))

pub returns-clause-renamed : goal.returns-clause-renamed
returns-clause-renamed g c =
    let names = c.in_ok-new_file in
    let begun = c.open_image.new.files in
    on_ok_weaker c.write_image.result (λ h. (
      names.file,
      names.new_file,
      names.ensures.names,
      record {
        disk = c.in_ok-image.image;
        disk_now = c.in_ok-image-2.image;
        begun = begun;
        done = begun;
        opened = c.in_ok-image.ensures.opened;
        changed = (c.in_ok-image-2.ensures, refl);
        written = h;
      },
    )) c.write_image.ensures.written

pub returns-clause-refusal : goal.returns-clause-refusal
returns-clause-refusal g c =
    let names = c.in_ok-new_file in
    let begun = c.open_image.new.files in
    IfErr-weaker c.write_image.result _ _
    (λ e h. inr (
      names.file,
      names.new_file,
      names.ensures.names,
      Unwritten c.in_ok-image.image c.in_ok-image-2.image begun begun c.in_ok-image.ensures.opened (c.in_ok-image-2.ensures, refl) h,
    )) c.write_image.ensures.refusal
