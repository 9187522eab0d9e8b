use Rattle.std.proofs.Common.{◌≡◌, ◌<◌, length, get_or, take, refl, sym, ap, ◌∙◌, arith}
use Rattle.std.proofs.Math.Seq.{take-length}
use Rattle.cpm_geom.specs.Geometry.{dpb_of}
use Rattle.cpm_geom.specs.declared.dpb.Dpb.{Dpb}
use Rattle.cpm_volume.specs.Files.{entry_at, no_entry}
use Rattle.cpm_volume.specs.Names.{is_named, compute_size_on_volume}
use Rattle.cpm_directory.specs.Directory.{entries_of}
use Rattle.cpm_directory.proofs.DriveLemmas.{last_entry_small, entries_length}
use Rattle.cpm_drive.proofs.NamedLemmas.{size_named, size_other}
use Rattle.cpm_drive.proofs.searching.compute_size.Goals as goal
use Rattle.cpm_drive.proofs.searching.compute_size.Goals.{then-is_named, else-is_named}

pub overflow_add-index-end : goal.overflow_add-index-end
overflow_add-index-end c =
    let d : c.dpb-index-end.result ≡ dpb_of c.args.image.now.format = cc in
    let last = ap (λ (p : Dpb). p.last_entry) d in
    omega (arith, last_entry_small c.args.image.now.format)

pub loop-index-init : goal.loop-index-init
unfolding compute_size_on_volume
loop-index-init c = (refl, tt)

pub loop-index-preserved : goal.loop-index-preserved
unfolding entry_at
loop-index-preserved c =
    let d : c.dpb-index-end.result ≡ dpb_of c.args.image.now.format = cc in
    let last = ap (λ (p : Dpb). p.last_entry) d in
    let size = entries_length c.args.image.now in
    let below : c.loop-index.index < length (entries_of c.args.image.now) = omega arith in
    let is : c.entry-entry.result ≡ get_or (entries_of c.args.image.now) c.loop-index.index no_entry = c.entry-entry.ensures.value in
    let named = sym (c.is_named.ensures ∙ ap (is_named c.args.user c.args.name.now) is) in
    elim c.if-is_named.branch [
      | then-is_named w ↦ rw w.size-is (size_named (entries_of c.args.image.now) c.args.user c.args.name.now c.loop-index.index no_entry below c.loop-index.size w.greater.result c.loop-index.invariant.0 (named ∙ w.if-is_named.true) (rw (w.records_to.ensures.value, is) at w.greater.ensures.value), w.greater.ensures.small 65664 c.loop-index.invariant.1 w.records_to.ensures.small)
      | else-is_named w ↦ rw w.size-is (c.loop-index.invariant.0 ∙ size_other (entries_of c.args.image.now) c.args.user c.args.name.now c.loop-index.index no_entry below (named ∙ w.if-is_named.false), c.loop-index.invariant.1)
    ]

pub returns-clause-value : goal.returns-clause-value
returns-clause-value c =
    let d : c.dpb-index-end.result ≡ dpb_of c.args.image.now.format = cc in
    let last = ap (λ (p : Dpb). p.last_entry) d in
    let size = entries_length c.args.image.now in
    let all : take c.loop-index.index (entries_of c.args.image.now) ≡ entries_of c.args.image.now = ap (λ k. take k (entries_of c.args.image.now)) (let e : c.loop-index.index ≡ length (entries_of c.args.image.now) = omega arith in e) ∙ take-length (entries_of c.args.image.now) in
    c.loop-index.invariant.0 ∙ ap (λ es. compute_size_on_volume es c.args.user c.args.name.now) all
