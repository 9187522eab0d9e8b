use Rattle.std.proofs.Common.{◌≡◌, ◌<◌, ◌&&◌, ◌||◌, not, ltb, eqb, true, length, get_or, take, sym, ap, ◌∙◌, arith}
use Rattle.std.specs.List.{list_any}
use Rattle.std.proofs.Math.Seq.{take-length}
use Rattle.cpm_geom.specs.Geometry.{dpb_of}
use Rattle.cpm_geom.specs.declared.dpb.Dpb.{Dpb}
use Rattle.cpm_volume.specs.declared.extent.Entry.{Entry}
use Rattle.cpm_volume.specs.Files.{entry_at, no_entry}
use Rattle.cpm_volume.specs.Reserved.{is_directory_block}
use Rattle.cpm_volume.specs.Names.{is_named, is_erased, reserved_after}
use Rattle.cpm_directory.specs.Directory.{entries_of}
use Rattle.cpm_directory.proofs.DriveLemmas.{last_entry_small, entries_length}
use Rattle.cpm_directory.proofs.LoginLemmas.{none_erased, entry_erased, entry_stays, erased}
use Rattle.cpm_directory.proofs.reserved.without_files.Goals as goal
use Rattle.cpm_directory.proofs.reserved.without_files.Goals.{then-is_named, else-is_named}

pub overflow_add-index-end : goal.overflow_add-index-end
overflow_add-index-end c =
    let d : c.dpb-dpb.result ≡ dpb_of c.args.image.now.format = cc in
    let last = ap (λ (p : Dpb). p.last_entry) d in
    omega (arith, last_entry_small c.args.image.now.format)

pub loop-index-init : goal.loop-index-init
loop-index-init c =
    (rw c.copied-blocks.ensures c.reserved.invariant.0, λ b h. none_erased c.args.user c.args.name.now b (entries_of c.args.image.now) (get_or c.copied-blocks.result b true) (is_directory_block c.dpb-dpb.result b))

pub loop-index-preserved : goal.loop-index-preserved
unfolding entry_at
loop-index-preserved c =
    let d : c.dpb-dpb.result ≡ dpb_of c.args.image.now.format = cc in
    let last = ap (λ (p : Dpb). p.last_entry) d in
    let size = entries_length c.args.image.now in
    let below : c.loop-index.index < length (entries_of c.args.image.now) = omega arith in
    let is : c.entry-entry.result ≡ get_or (entries_of c.args.image.now) c.loop-index.index no_entry = c.entry-entry.ensures.value in
    let named = sym (c.is_named.ensures ∙ ap (is_named c.args.user c.args.name.now) is) in
    elim c.if-is_named.branch [
      | then-is_named w ↦ (
        rw w.blocks-is w.release.ensures.size,
        λ b h. rw w.blocks-is (entry_erased c.args.user c.args.name.now b (entries_of c.args.image.now) c.loop-index.index no_entry (get_or c.copied-blocks.result b true) (is_directory_block c.dpb-dpb.result b) (get_or c.loop-index.blocks b true) (get_or w.release.new.blocks b true) below (named ∙ w.if-is_named.true) (c.loop-index.invariant.1 b h) (w.release.ensures.value b h ∙ ap (λ (x : Entry). get_or c.loop-index.blocks b true && (is_directory_block c.dpb-dpb.result b || not (ltb 0 b && list_any (λ number. eqb number b) x.extent.blocks))) is)),
      )
      | else-is_named w ↦ (
        rw w.blocks-is c.loop-index.invariant.0,
        λ b h. rw w.blocks-is (entry_stays c.args.user c.args.name.now b (entries_of c.args.image.now) c.loop-index.index no_entry (get_or c.copied-blocks.result b true) (is_directory_block c.dpb-dpb.result b) (get_or c.loop-index.blocks b true) below (named ∙ w.if-is_named.false) (c.loop-index.invariant.1 b h)),
      )
    ]

pub returns : goal.returns
returns c =
    let d : c.dpb-dpb.result ≡ dpb_of c.args.image.now.format = cc in
    let last = ap (λ (p : Dpb). p.last_entry) d in
    let size = entries_length c.args.image.now in
    let all : take c.loop-index.index (entries_of c.args.image.now) ≡ entries_of c.args.image.now = ap (λ k. take k (entries_of c.args.image.now)) (let e : c.loop-index.index ≡ length (entries_of c.args.image.now) = omega arith in e) ∙ take-length (entries_of c.args.image.now) in
    let kept = erased c.dpb-dpb.result c.args.user c.args.name.now (entries_of c.args.image.now) c.copied-blocks.result c.loop-index.blocks c.reserved.inside.count (rw c.copied-blocks.ensures c.reserved.invariant.0) c.loop-index.invariant.0 c.reserved.invariant.1 (λ b h. c.loop-index.invariant.1 b h ∙ ap (λ es. get_or c.copied-blocks.result b true && (is_directory_block c.dpb-dpb.result b || not (is_erased c.args.user c.args.name.now es b))) all) in
    let same = ap (λ blocks. reserved_after c.dpb-dpb.result c.args.user c.args.name.now (entries_of c.args.image.now) (take c.reserved.inside.count blocks)) c.copied-blocks.ensures in
    kept ∙ (same ∙ (ap (λ p. reserved_after p c.args.user c.args.name.now (entries_of c.args.image.now) (take c.reserved.inside.count c.reserved.inside.blocks)) d ∙ ap (reserved_after (dpb_of c.args.image.now.format) c.args.user c.args.name.now (entries_of c.args.image.now)) c.reserved.view_is))
