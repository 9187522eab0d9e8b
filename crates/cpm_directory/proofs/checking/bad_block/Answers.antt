use Rattle.std.proofs.Common.{◌≡◌, length, sym, ap, ◌∙◌, arith}
use Rattle.cpm_geom.specs.Geometry.{dpb_of}
use Rattle.cpm_geom.specs.declared.dpb.Dpb.{Dpb}
use Rattle.cpm_volume.specs.declared.extent.Entry.{Entry}
use Rattle.cpm_directory.specs.Directory.{entries_of}
use Rattle.cpm_directory.specs.WellFormed.{bad_block_in}
use Rattle.cpm_directory.proofs.CheckingLemmas.{map_length, bad_is, good_is}
use Rattle.cpm_directory.proofs.checking.bad_block.Goals as goal

pub returns-then-is_bad_block : goal.returns-then-is_bad_block
returns-then-is_bad_block c =
    let es = entries_of c.args.image.now in
    let d : c.dpb-dpb.result ≡ dpb_of c.args.image.now.format = cc in
    let size : length c.entry.result.extent.blocks ≡ 16 = ap (λ (e : Entry). length e.extent.blocks) c.entry.ensures.value ∙ map_length c.args.image.now c.args.index c.requires in
    sym (ap (λ (p : Dpb). bad_block_in p es c.args.index) (sym d) ∙ bad_is c.dpb-dpb.result es c.args.index c.loop-block.block-index c.entry.result c.entry.ensures.value (omega (arith, c.loop-block-test.true)) c.loop-block.invariant (sym c.is_bad_block.ensures ∙ c.if-is_bad_block.true))

pub returns : goal.returns
returns c =
    let es = entries_of c.args.image.now in
    let d : c.dpb-dpb.result ≡ dpb_of c.args.image.now.format = cc in
    let size : length c.entry.result.extent.blocks ≡ 16 = ap (λ (e : Entry). length e.extent.blocks) c.entry.ensures.value ∙ map_length c.args.image.now c.args.index c.requires in
    sym (ap (λ (p : Dpb). bad_block_in p es c.args.index) (sym d) ∙ good_is c.dpb-dpb.result es c.args.index c.entry.result c.entry.ensures.value (λ k h. c.loop-block.invariant k (omega (arith, c.loop-block-test.false))))
