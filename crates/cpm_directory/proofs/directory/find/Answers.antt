use Rattle.std.proofs.Common.{◌≡◌, ◌<◌, length, true, refl, sym, ap, arith}
use Rattle.cpm_geom.specs.Geometry.{dpb_of}
use Rattle.cpm_geom.specs.declared.dpb.Dpb.{Dpb}
use Rattle.cpm_volume.specs.Files.{entry_at}
use Rattle.cpm_directory.specs.Directory.{entries_of}
use Rattle.cpm_directory.specs.Matching.{is_match}
use Rattle.cpm_directory.proofs.DriveLemmas.{last_entry_small, entries_length}
use Rattle.cpm_directory.proofs.FirstLemmas.{match_is, no_match}
use Rattle.cpm_directory.proofs.directory.find.Goals as goal

pub overflow_add-index-end : goal.overflow_add-index-end
overflow_add-index-end c =
    let d : c.dpb-dpb.result ≡ dpb_of c.args.image.now.format = cc in
    let last = ap (λ (p : Dpb). p.last_entry) d in
    omega (arith, last_entry_small c.args.image.now.format)

pub returns-then-matches : goal.returns-then-matches
returns-then-matches c =
    let d : c.dpb-dpb.result ≡ dpb_of c.args.image.now.format = cc in
    let last = ap (λ (p : Dpb). p.last_entry) d in
    let size = entries_length c.args.image.now in
    let below : c.loop-index.index < length (entries_of c.args.image.now) = omega arith in
    let here : is_match (dpb_of c.args.image.now.format) c.args.pattern.now (entry_at (entries_of c.args.image.now) c.loop-index.index) ≡ true = cc in
    (sym (match_is _ c.args.pattern.now (entries_of c.args.image.now) c.args.from c.loop-index.index c.loop-index.auto.index below c.loop-index.invariant here), below)

pub returns : goal.returns
returns c =
    let d : c.dpb-dpb.result ≡ dpb_of c.args.image.now.format = cc in
    let last = ap (λ (p : Dpb). p.last_entry) d in
    let size = entries_length c.args.image.now in
    (refl, no_match _ c.args.pattern.now (entries_of c.args.image.now) c.args.from (λ k low high. c.loop-index.invariant k low (omega arith)))
