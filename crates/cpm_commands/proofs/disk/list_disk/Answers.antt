use Rattle.std.proofs.Common.{refl, subst}
use Rattle.std.proofs.lemmas.Result.{err_from_is_err_and}
use Rattle.std.specs.Io.KnownBytes.{Appends}
use Rattle.cpm_disk_commands.specs.Listing.{list_text}
use Rattle.cpm_geom.specs.declared.format.Format.{Format}
use Rattle.cpm_commands.specs.Disk.IsDiskListRefused.{Unlisted, Unprinted}
use Rattle.cpm_commands.proofs.disk.list_disk.Goals as goal

pub returns-in_err-listing-clause-refusal : goal.returns-in_err-listing-clause-refusal
returns-in_err-listing-clause-refusal g c =
    let p = err_from_is_err_and c.from_residual-in_err-listing.result c.from_residual-in_err-listing.ensures.1 in
    rw p.1 (Unlisted c.in_ok-image.image c.in_ok-image.ensures.read (c.in_err-listing.field-0.0, c.in_err-listing.ensures, p.2) refl)

pub returns-in_err-write_list-clause-refusal : goal.returns-in_err-write_list-clause-refusal
returns-in_err-write_list-clause-refusal g c =
    let p = err_from_is_err_and c.from_residual-in_err-write_list.result c.from_residual-in_err-write_list.ensures.1 in
    rw p.1 (Unprinted c.in_ok-image.image c.in_ok-listing.listing c.in_ok-image.ensures.read c.in_ok-listing.ensures
    (c.in_err-write_list.field-0.0, c.in_err-write_list.ensures.refusal, p.2))

pub returns-clause-listed : goal.returns-clause-listed
returns-clause-listed g c =
    let before = g.W.Write.contents c.args.out.now in
    let printed = g.W.Write.contents c.write_list.new.out in
    record {
      disk = c.in_ok-image.image;
      listing = c.in_ok-listing.listing;
      read = c.in_ok-image.ensures.read;
      listed = c.in_ok-listing.ensures;
      text = subst (λ (f : Format). Appends before printed (list_text f c.args.user c.in_ok-listing.listing)) c.format.ensures.format c.in_ok-write_list.ensures.text;
    }
