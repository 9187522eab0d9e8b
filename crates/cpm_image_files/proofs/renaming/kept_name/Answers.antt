use Rattle.std.proofs.Common.{◌≡◌, length, true, sym, ap, ◌∙◌, arith}
use Rattle.cpm_geom.specs.Geometry.{dpb_of}
use Rattle.cpm_geom.specs.declared.dpb.Dpb.{Dpb}
use Rattle.cpm_volume.specs.declared.extent.Entry.{Entry}
use Rattle.cpm_volume.specs.Files.{entry_at}
use Rattle.cpm_volume.specs.Names.{is_named, first_named, with_attributes}
use Rattle.cpm_directory.specs.Directory.{entries_of}
use Rattle.cpm_directory.proofs.DriveLemmas.{last_entry_small, entries_length}
use Rattle.cpm_image_files.specs.Taken.{kept_name}
use Rattle.cpm_image_files.proofs.RenamedLemmas.{first_named_is}
use Rattle.cpm_image_files.proofs.renaming.kept_name.Goals as goal

pub overflow_add-index-end : goal.overflow_add-index-end
overflow_add-index-end c =
    let d : c.dpb-index-end.result ≡ dpb_of c.args.image.now.format = cc in
    let last = ap (λ (p : Dpb). p.last_entry) d in
    omega (arith, last_entry_small c.args.image.now.format)

pub returns-then-is_named : goal.returns-then-is_named
returns-then-is_named c =
    let es = entries_of c.args.image.now in
    let user = c.args.file.now.user in
    let name = c.args.file.now.name in
    let d : c.dpb-index-end.result ≡ dpb_of c.args.image.now.format = cc in
    let last = ap (λ (p : Dpb). p.last_entry) d in
    let size = entries_length c.args.image.now in
    let here : is_named user name (entry_at es c.loop-index.index) ≡ true = ap (is_named user name) (sym c.entry-entry.ensures.value) ∙ rw (sym c.user-user.ensures.value, sym c.name-old_name.ensures.value) (sym c.is_named.ensures ∙ c.if-is_named.true) in
    let first : first_named es user name ≡ c.loop-index.index = first_named_is es user name c.loop-index.index (omega arith) c.loop-index.invariant (λ _. here) in
    let names : c.entry-entry.result.extent.name ≡ (entry_at es (first_named es user name)).extent.name = ap (λ (e : Entry). e.extent.name) (c.entry-entry.ensures.value ∙ ap (entry_at es) (sym first)) in
    let value : c.with_attributes.result ≡ kept_name c.args.image.now user name c.args.name.now.name = c.with_attributes.ensures.value ∙ (ap (λ n. with_attributes n c.entry-entry.result.extent.name) c.name.ensures.value ∙ ap (with_attributes c.args.name.now.name) names) in
    (value, c.with_attributes.ensures.bytes)

pub returns : goal.returns
returns c =
    let es = entries_of c.args.image.now in
    let d : c.dpb-index-end.result ≡ dpb_of c.args.image.now.format = cc in
    let last = ap (λ (p : Dpb). p.last_entry) d in
    let size = entries_length c.args.image.now in
    let first = first_named_is es c.args.file.now.user c.args.file.now.name (length es) (omega arith) (λ k h. c.loop-index.invariant k (omega arith)) (λ h. absurd (omega arith)) in
    omega arith
