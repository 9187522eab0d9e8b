use Rattle.std.proofs.Common.{◌≡◌, true, sym, ap, ◌∙◌, arith}
use Rattle.cpm_geom.specs.Geometry.{dpb_of}
use Rattle.cpm_geom.specs.declared.dpb.Dpb.{Dpb}
use Rattle.cpm_volume.specs.Files.{entry_at, is_of, group_of, extent_number}
use Rattle.cpm_directory.specs.Directory.{entries_of}
use Rattle.cpm_directory.specs.WellFormed.{twice_entry_in}
use Rattle.cpm_directory.proofs.DriveLemmas.{entries_length}
use Rattle.cpm_directory.proofs.CheckingLemmas.{again_is, alone_is}
use Rattle.cpm_directory.proofs.checking.twice_entry.Goals as goal

pub returns-then-is_of_same : goal.returns-then-is_of_same
returns-then-is_of_same c =
    let es = entries_of c.args.image.now in
    let d : c.dpb-dpb.result ≡ dpb_of c.args.image.now.format = cc in
    let size = entries_length c.args.image.now in
    let this = c.entry-this.result in
    let here : is_of c.dpb-dpb.result this.user this.extent.name (group_of c.dpb-dpb.result (extent_number this.extent)) (entry_at es c.loop-earlier.earlier) ≡ true =
    ap (is_of c.dpb-dpb.result this.user this.extent.name (group_of c.dpb-dpb.result (extent_number this.extent))) (sym c.entry.ensures.value) ∙ (sym c.is_of_same.ensures ∙ c.if-is_of_same.true) in
    sym (ap (λ (p : Dpb). twice_entry_in p es c.args.index) (sym d) ∙ again_is c.dpb-dpb.result es c.args.index c.loop-earlier.earlier this c.entry-this.ensures.value c.loop-earlier-test.true (omega (arith, c.requires)) c.loop-earlier.invariant here)

pub returns : goal.returns
returns c =
    let es = entries_of c.args.image.now in
    let d : c.dpb-dpb.result ≡ dpb_of c.args.image.now.format = cc in
    let size = entries_length c.args.image.now in
    sym (ap (λ (p : Dpb). twice_entry_in p es c.args.index) (sym d) ∙ alone_is c.dpb-dpb.result es c.args.index c.entry-this.result c.entry-this.ensures.value (omega (arith, c.requires)) (λ k h. c.loop-earlier.invariant k (omega (arith, c.loop-earlier-test.false))))
