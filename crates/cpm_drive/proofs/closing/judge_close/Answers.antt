use Rattle.std.proofs.Common.{◌≡◌, ◌≤◌, true, false, length, sym, arith}
use Rattle.cpm_geom.specs.Geometry.{dpb_of}
use Rattle.cpm_volume.specs.Files.{extent_number, group_of, first_match}
use Rattle.cpm_volume.specs.Operations.{has_bad_block}
use Rattle.cpm_directory.specs.Directory.{entries_of}
use Rattle.cpm_directory.proofs.DriveLemmas.{entries_length}
use Rattle.cpm_drive.proofs.CloseLemmas.{close_none, close_bad, close_unlike, close_protected, close_closed}
use Rattle.cpm_drive.proofs.closing.judge_close.Goals as goal

pub returns-in_default-clause-value : goal.returns-in_default-clause-value
returns-in_default-clause-value c =
    let d : c.dpb-dpb.result ≡ dpb_of c.args.image.now.format = cc in
    let none : length (entries_of c.args.image.now) ≤ first_match (dpb_of c.args.image.now.format) (entries_of c.args.image.now) c.args.user c.args.extent.now.name c.group_of-group.result = c.in_default.ensures in
    let group : c.group_of-group.result ≡ group_of (dpb_of c.args.image.now.format) (extent_number c.args.extent.now) = cc in
    sym (close_none (dpb_of c.args.image.now.format) c.args.is_protected (entries_of c.args.image.now) c.args.user c.args.extent.now (rw group at none))

pub returns-then-has_bad_block-clause-value : goal.returns-then-has_bad_block-clause-value
returns-then-has_bad_block-clause-value c =
    let d : c.dpb-dpb.result ≡ dpb_of c.args.image.now.format = cc in
    let size = entries_length c.args.image.now in
    let group : c.group_of-group.result ≡ group_of (dpb_of c.args.image.now.format) (extent_number c.args.extent.now) = cc in
    let is : c.in-Some.index ≡ first_match (dpb_of c.args.image.now.format) (entries_of c.args.image.now) c.args.user c.args.extent.now.name (group_of (dpb_of c.args.image.now.format) (extent_number c.args.extent.now)) = rw group at c.in-Some.ensures.0 in
    let bad : has_bad_block (dpb_of c.args.image.now.format) c.args.extent.now.blocks ≡ true = cc in
    let within = c.in-Some.ensures.1 in
    sym (close_bad (dpb_of c.args.image.now.format) c.args.is_protected (entries_of c.args.image.now) c.args.user c.args.extent.now c.in-Some.index is (omega arith) bad)

pub returns-then-not-agree-clause-value : goal.returns-then-not-agree-clause-value
returns-then-not-agree-clause-value c =
    let d : c.dpb-dpb.result ≡ dpb_of c.args.image.now.format = cc in
    let size = entries_length c.args.image.now in
    let group : c.group_of-group.result ≡ group_of (dpb_of c.args.image.now.format) (extent_number c.args.extent.now) = cc in
    let is : c.in-Some.index ≡ first_match (dpb_of c.args.image.now.format) (entries_of c.args.image.now) c.args.user c.args.extent.now.name (group_of (dpb_of c.args.image.now.format) (extent_number c.args.extent.now)) = rw group at c.in-Some.ensures.0 in
    let bad : has_bad_block (dpb_of c.args.image.now.format) c.args.extent.now.blocks ≡ false = cc in
    let within = c.in-Some.ensures.1 in
    sym (close_unlike (dpb_of c.args.image.now.format) c.args.is_protected (entries_of c.args.image.now) c.args.user c.args.extent.now c.in-Some.index is (omega arith) c.entry-stored.result c.entry-stored.ensures.value bad (cc))

pub returns-then-must_stay-clause-value : goal.returns-then-must_stay-clause-value
returns-then-must_stay-clause-value c =
    let d : c.dpb-dpb.result ≡ dpb_of c.args.image.now.format = cc in
    let size = entries_length c.args.image.now in
    let group : c.group_of-group.result ≡ group_of (dpb_of c.args.image.now.format) (extent_number c.args.extent.now) = cc in
    let is : c.in-Some.index ≡ first_match (dpb_of c.args.image.now.format) (entries_of c.args.image.now) c.args.user c.args.extent.now.name (group_of (dpb_of c.args.image.now.format) (extent_number c.args.extent.now)) = rw group at c.in-Some.ensures.0 in
    let bad : has_bad_block (dpb_of c.args.image.now.format) c.args.extent.now.blocks ≡ false = cc in
    let within = c.in-Some.ensures.1 in
    sym (close_protected (dpb_of c.args.image.now.format) c.args.is_protected (entries_of c.args.image.now) c.args.user c.args.extent.now c.in-Some.index is (omega arith) c.entry-stored.result c.merged-blocks.result c.closed_entry-entry.result c.entry-stored.ensures.value c.merged-blocks.ensures c.closed_entry-entry.ensures bad (cc) (cc))

pub returns-clause-value : goal.returns-clause-value
returns-clause-value c =
    let d : c.dpb-dpb.result ≡ dpb_of c.args.image.now.format = cc in
    let size = entries_length c.args.image.now in
    let group : c.group_of-group.result ≡ group_of (dpb_of c.args.image.now.format) (extent_number c.args.extent.now) = cc in
    let is : c.in-Some.index ≡ first_match (dpb_of c.args.image.now.format) (entries_of c.args.image.now) c.args.user c.args.extent.now.name (group_of (dpb_of c.args.image.now.format) (extent_number c.args.extent.now)) = rw group at c.in-Some.ensures.0 in
    let bad : has_bad_block (dpb_of c.args.image.now.format) c.args.extent.now.blocks ≡ false = cc in
    let within = c.in-Some.ensures.1 in
    sym (close_closed (dpb_of c.args.image.now.format) c.args.is_protected (entries_of c.args.image.now) c.args.user c.args.extent.now c.in-Some.index is (omega arith) c.entry-stored.result c.merged-blocks.result c.closed_entry-entry.result c.entry-stored.ensures.value c.merged-blocks.ensures c.closed_entry-entry.ensures bad (cc) (cc))
