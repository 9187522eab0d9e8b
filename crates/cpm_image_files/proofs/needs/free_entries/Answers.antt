use Rattle.std.proofs.Common.{◌≡◌, ◌<◌, ◌+◌, length, get_or, take, sym, ap, ◌∙◌, arith}
use Rattle.std.specs.List.{count_by}
use Rattle.std.proofs.Math.Seq.{take-length}
use Rattle.std.proofs.lemmas.List.Sums.{count_by_more_yes, count_by_more_no}
use Rattle.cpm_geom.specs.Geometry.{dpb_of}
use Rattle.cpm_geom.specs.declared.dpb.Dpb.{Dpb}
use Rattle.cpm_volume.specs.Files.{entry_at, no_entry}
use Rattle.cpm_directory.specs.Directory.{entries_of}
use Rattle.cpm_directory.proofs.DriveLemmas.{last_entry_small, entries_length}
use Rattle.cpm_image_files.specs.ImageFiles.{is_free_for, free_entries}
use Rattle.cpm_image_files.proofs.Counting.{counted_below}
use Rattle.cpm_image_files.proofs.needs.free_entries.Goals as goal
use Rattle.cpm_image_files.proofs.needs.free_entries.Goals.{then-is_free_for, else-is_free_for}

pub overflow_add-index-end : goal.overflow_add-index-end
overflow_add-index-end c =
    let d : c.dpb-index-end.result ≡ dpb_of c.args.image.now.format = cc in
    let last = ap (λ (p : Dpb). p.last_entry) d in
    omega (arith, last_entry_small c.args.image.now.format)

pub overflow_add-free : goal.overflow_add-free
overflow_add-free c =
    let so_far = c.loop-index.invariant in
    let size = entries_length c.args.image.now in
    let small = last_entry_small c.args.image.now.format in
    let most = counted_below (is_free_for c.args.file.now.user c.args.file.now.name) (entries_of c.args.image.now) c.loop-index.index in
    omega arith

pub loop-index-preserved : goal.loop-index-preserved
unfolding entry_at
loop-index-preserved c =
    let d : c.dpb-index-end.result ≡ dpb_of c.args.image.now.format = cc in
    let last = ap (λ (p : Dpb). p.last_entry) d in
    let size = entries_length c.args.image.now in
    let below : c.loop-index.index < length (entries_of c.args.image.now) = omega arith in
    let test : is_free_for c.args.file.now.user c.args.file.now.name (get_or (entries_of c.args.image.now) c.loop-index.index no_entry) ≡ c.is_free_for.result = ap (is_free_for c.args.file.now.user c.args.file.now.name) (sym c.entry.ensures.value) ∙ sym c.is_free_for.ensures in
    let so_far = c.loop-index.invariant in
    elim c.if-is_free_for.branch [
      | then-is_free_for w ↦ (
          let more = count_by_more_yes (is_free_for c.args.file.now.user c.args.file.now.name) (entries_of c.args.image.now) c.loop-index.index no_entry below (test ∙ w.if-is_free_for.true) in
          let is = w.free-is in
          is ∙ (ap (λ n. n + 1) so_far ∙ sym more))
      | else-is_free_for w ↦ (
          let more = count_by_more_no (is_free_for c.args.file.now.user c.args.file.now.name) (entries_of c.args.image.now) c.loop-index.index no_entry below (test ∙ w.if-is_free_for.false) in
          let is = w.free-is in
          is ∙ (so_far ∙ sym more))
    ]

pub returns : goal.returns
unfolding free_entries
returns c =
    let d : c.dpb-index-end.result ≡ dpb_of c.args.image.now.format = cc in
    let last = ap (λ (p : Dpb). p.last_entry) d in
    let size = entries_length c.args.image.now in
    let all : take c.loop-index.index (entries_of c.args.image.now) ≡ entries_of c.args.image.now = ap (λ k. take k (entries_of c.args.image.now)) (let e : c.loop-index.index ≡ length (entries_of c.args.image.now) = omega arith in e) ∙ take-length (entries_of c.args.image.now) in
    c.loop-index.invariant ∙ ap (count_by (is_free_for c.args.file.now.user c.args.file.now.name)) all
