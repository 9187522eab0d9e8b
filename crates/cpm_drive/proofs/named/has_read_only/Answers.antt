use Rattle.std.proofs.Common.{◌≡◌, ◌<◌, true, length, get_or, take, sym, ap, ◌∙◌, arith}
use Rattle.std.specs.List.{list_any}
use Rattle.std.proofs.Math.Seq.{take-length}
use Rattle.std.proofs.lemmas.List.Folds.{list_any_more, list_any_at}
use Rattle.cpm_geom.specs.Geometry.{dpb_of}
use Rattle.cpm_geom.specs.declared.dpb.Dpb.{Dpb}
use Rattle.cpm_volume.specs.Files.{entry_at, no_entry}
use Rattle.cpm_volume.specs.Names.{protects}
use Rattle.cpm_directory.specs.Directory.{entries_of}
use Rattle.cpm_directory.proofs.DriveLemmas.{last_entry_small, entries_length}
use Rattle.cpm_drive.proofs.named.has_read_only.Goals as goal

pub overflow_add-index-end : goal.overflow_add-index-end
overflow_add-index-end c =
    let d : c.dpb-index-end.result ≡ dpb_of c.args.image.now.format = cc in
    let last = ap (λ (p : Dpb). p.last_entry) d in
    omega (arith, last_entry_small c.args.image.now.format)

pub returns-then-protects : goal.returns-then-protects
unfolding entry_at
returns-then-protects c =
    let d : c.dpb-index-end.result ≡ dpb_of c.args.image.now.format = cc in
    let last = ap (λ (p : Dpb). p.last_entry) d in
    let size = entries_length c.args.image.now in
    let below : c.loop-index.index < length (entries_of c.args.image.now) = omega arith in
    let here : protects c.args.user c.args.name.now (get_or (entries_of c.args.image.now) c.loop-index.index no_entry) ≡ true = ap (protects c.args.user c.args.name.now) (sym c.entry.ensures.value) ∙ (sym c.protects.ensures ∙ c.if-protects.true) in
    sym (list_any_at (protects c.args.user c.args.name.now) (entries_of c.args.image.now) c.loop-index.index no_entry below here)

pub loop-index-preserved : goal.loop-index-preserved
unfolding entry_at
loop-index-preserved c =
    let d : c.dpb-index-end.result ≡ dpb_of c.args.image.now.format = cc in
    let last = ap (λ (p : Dpb). p.last_entry) d in
    let size = entries_length c.args.image.now in
    let below : c.loop-index.index < length (entries_of c.args.image.now) = omega arith in
    let here = ap (protects c.args.user c.args.name.now) (sym c.entry.ensures.value) ∙ (sym c.protects.ensures ∙ c.if-protects.false) in
    rw (list_any_more (protects c.args.user c.args.name.now) (entries_of c.args.image.now) c.loop-index.index no_entry below, c.loop-index.invariant) here

pub returns : goal.returns
returns c =
    let d : c.dpb-index-end.result ≡ dpb_of c.args.image.now.format = cc in
    let last = ap (λ (p : Dpb). p.last_entry) d in
    let size = entries_length c.args.image.now in
    let all : take c.loop-index.index (entries_of c.args.image.now) ≡ entries_of c.args.image.now = ap (λ k. take k (entries_of c.args.image.now)) (let e : c.loop-index.index ≡ length (entries_of c.args.image.now) = omega arith in e) ∙ take-length (entries_of c.args.image.now) in
    sym (ap (list_any (protects c.args.user c.args.name.now)) (sym all) ∙ c.loop-index.invariant)
