use Rattle.std.proofs.Common.{◌≡◌, ◌+◌, true, sym, ap, ◌∙◌, arith}
use Rattle.std.proofs.lemmas.List.Sums.{position_or_len_is}
use Rattle.cpm_geom.specs.Geometry.{dpb_of}
use Rattle.cpm_geom.specs.declared.dpb.Dpb.{Dpb}
use Rattle.cpm_volume.specs.Files.{entry_at, no_entry}
use Rattle.cpm_directory.specs.Directory.{entries_of}
use Rattle.cpm_directory.specs.Login.{has_block}
use Rattle.cpm_directory.specs.WellFormed.{owner_of}
use Rattle.cpm_directory.proofs.DriveLemmas.{last_entry_small, entries_length}
use Rattle.cpm_directory.proofs.checking.owner_of.Goals as goal

pub overflow_add-count : goal.overflow_add-count
overflow_add-count c =
    let d : c.dpb-count.result ≡ dpb_of c.args.image.now.format = cc in
    let last = ap (λ (p : Dpb). p.last_entry) d in
    omega (arith, last_entry_small c.args.image.now.format)

pub returns-then-has_block : goal.returns-then-has_block
unfolding owner_of entry_at
returns-then-has_block c =
    let es = entries_of c.args.image.now in
    let d : c.dpb-count.result ≡ dpb_of c.args.image.now.format = cc in
    let last = ap (λ (p : Dpb). p.last_entry) d in
    let size = entries_length c.args.image.now in
    let here : has_block c.args.block (entry_at es c.loop-index.index) ≡ true = ap (has_block c.args.block) (sym c.entry.ensures.value) ∙ (sym c.has_block.ensures ∙ c.if-has_block.true) in
    sym (position_or_len_is (has_block c.args.block) es c.loop-index.index no_entry (omega arith) c.loop-index.invariant (λ _. here))

pub returns : goal.returns
unfolding owner_of entry_at
returns c =
    let es = entries_of c.args.image.now in
    let d : c.dpb-count.result ≡ dpb_of c.args.image.now.format = cc in
    let last = ap (λ (p : Dpb). p.last_entry) d in
    let size = entries_length c.args.image.now in
    sym (position_or_len_is (has_block c.args.block) es (c.dpb-count.result.last_entry + 1) no_entry (omega arith) (λ k h. c.loop-index.invariant k (omega arith)) (λ h. absurd (omega arith)))
