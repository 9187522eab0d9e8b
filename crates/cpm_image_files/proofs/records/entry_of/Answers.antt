use Rattle.std.proofs.Common.{◌≡◌, ◌<◌, ◌/◌, length, true, sym, ap, ◌∙◌, arith}
use Rattle.cpm_geom.specs.Geometry.{dpb_of}
use Rattle.cpm_geom.specs.declared.dpb.Dpb.{Dpb}
use Rattle.cpm_geom.specs.declared.format.Format.{Format}
use Rattle.cpm_volume.specs.Files.{entry_at, is_of, group_of, first_of}
use Rattle.cpm_directory.specs.Directory.{entries_of}
use Rattle.cpm_directory.proofs.DriveLemmas.{last_entry_small, entries_length}
use Rattle.cpm_image_files.specs.Reach.{first_for}
use Rattle.cpm_image_files.proofs.GettingLemmas.{first_is}
use Rattle.cpm_image_files.proofs.records.entry_of.Goals as goal

pub overflow_add-index-end : goal.overflow_add-index-end
overflow_add-index-end c =
    let d : c.dpb-index-end.result ≡ dpb_of c.args.image.now.format = cc in
    let last = ap (λ (p : Dpb). p.last_entry) d in
    omega (arith, last_entry_small c.args.image.now.format)

pub returns-then-is_of : goal.returns-then-is_of
returns-then-is_of c =
    let d : c.dpb-index-end.result ≡ dpb_of c.args.image.now.format = cc in
    let last = ap (λ (p : Dpb). p.last_entry) d in
    let size = entries_length c.args.image.now in
    let below : c.loop-index.index < length (entries_of c.args.image.now) = omega arith in
    let f : c.format-format.result ≡ c.args.image.now.format = c.format-format.ensures.format in
    let group : c.group_of-group.result ≡ group_of (dpb_of c.args.image.now.format) (c.args.number / 128) = c.group_of-group.ensures ∙ ap (λ (x : Format). group_of (dpb_of x) (c.args.number / 128)) f in
    let here : is_of (dpb_of c.args.image.now.format) c.args.user c.args.name.now c.group_of-group.result (entry_at (entries_of c.args.image.now) c.loop-index.index) ≡ true = cc in
    let first = first_is (dpb_of c.args.image.now.format) (entries_of c.args.image.now) c.args.user c.args.name.now c.group_of-group.result c.loop-index.index (omega arith) c.loop-index.invariant (λ _. here) in
    let at : first_for c.args.image.now c.args.user c.args.name.now c.args.number ≡ c.loop-index.index = ap (first_of (dpb_of c.args.image.now.format) (entries_of c.args.image.now) c.args.user c.args.name.now) (sym group) ∙ first in
    (c.entry-entry.ensures.value ∙ ap (entry_at (entries_of c.args.image.now)) (sym at), rw at below)

pub returns : goal.returns
returns c =
    let d : c.dpb-index-end.result ≡ dpb_of c.args.image.now.format = cc in
    let last = ap (λ (p : Dpb). p.last_entry) d in
    let size = entries_length c.args.image.now in
    let f : c.format-format.result ≡ c.args.image.now.format = c.format-format.ensures.format in
    let group : c.group_of-group.result ≡ group_of (dpb_of c.args.image.now.format) (c.args.number / 128) = c.group_of-group.ensures ∙ ap (λ (x : Format). group_of (dpb_of x) (c.args.number / 128)) f in
    let first = first_is (dpb_of c.args.image.now.format) (entries_of c.args.image.now) c.args.user c.args.name.now c.group_of-group.result (length (entries_of c.args.image.now)) (omega arith) (λ k h. c.loop-index.invariant k (omega arith)) (λ h. absurd (omega arith)) in
    let at : first_for c.args.image.now c.args.user c.args.name.now c.args.number ≡ length (entries_of c.args.image.now) = ap (first_of (dpb_of c.args.image.now.format) (entries_of c.args.image.now) c.args.user c.args.name.now) (sym group) ∙ first in
    omega arith
