use Rattle.std.proofs.Common.{◌≡◌, ◌≤◌, length, sym, ap, ◌∙◌, arith}
use Rattle.cpm_geom.specs.Geometry.{dpb_of}
use Rattle.cpm_geom.specs.declared.dpb.Dpb.{Dpb}
use Rattle.cpm_volume.specs.declared.extent.Entry.{Entry}
use Rattle.cpm_volume.specs.Files.{entry_at}
use Rattle.cpm_directory.specs.Directory.{entries_of}
use Rattle.cpm_directory.proofs.DriveLemmas.{last_entry_small, entries_length}
use Rattle.cpm_directory.proofs.FirstLemmas.{free_is}
use Rattle.cpm_drive.specs.Judged.{entries_after}
use Rattle.cpm_drive.proofs.ChangeLemmas.{after_length}
use Rattle.cpm_drive.proofs.change.first_free.Goals as goal

pub overflow_add-index-end : goal.overflow_add-index-end
overflow_add-index-end c =
    let d : c.dpb-index-end.result ≡ dpb_of c.args.image.now.format = cc in
    let last = ap (λ (p : Dpb). p.last_entry) d in
    omega (arith, last_entry_small c.args.image.now.format)

pub returns-then-entry_after : goal.returns-then-entry_after
returns-then-entry_after c =
    let d : c.dpb-index-end.result ≡ dpb_of c.args.image.now.format = cc in
    let last = ap (λ (p : Dpb). p.last_entry) d in
    let size = entries_length c.args.image.now in
    let same = after_length (entries_of c.args.image.now) c.args.change in
    let below : c.loop-index.index ≤ (dpb_of c.args.image.now.format).last_entry = omega arith in
    let here : (entry_at (entries_after (entries_of c.args.image.now) c.args.change) c.loop-index.index).user ≡ 229 = ap (λ (e : Entry). e.user) (sym c.entry_after.ensures) ∙ c.if-entry_after.true in
    (sym (free_is (entries_after (entries_of c.args.image.now) c.args.change) c.loop-index.index (omega arith) c.loop-index.invariant (λ _. here)), below)

pub returns : goal.returns
returns c =
    let d : c.dpb-index-end.result ≡ dpb_of c.args.image.now.format = cc in
    let last = ap (λ (p : Dpb). p.last_entry) d in
    let size = entries_length c.args.image.now in
    let same = after_length (entries_of c.args.image.now) c.args.change in
    let free = free_is (entries_after (entries_of c.args.image.now) c.args.change) (length (entries_of c.args.image.now)) (omega arith) (λ k h. c.loop-index.invariant k (omega arith)) (λ h. absurd (omega arith)) in
    omega arith
