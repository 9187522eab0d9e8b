use Rattle.std.proofs.Common.{◌≡◌, false, true, ap, inl, inr, arith}
use Rattle.std.proofs.lemmas.Bool.{cases_lt}
use Rattle.std.proofs.lemmas.List.{length-replicate, get_or-replicate}
use Rattle.cpm_geom.specs.Geometry.{dpb_of}
use Rattle.cpm_geom.specs.declared.dpb.Dpb.{Dpb}
use Rattle.cpm_directory.specs.Directory.{entries_of}
use Rattle.cpm_directory.proofs.DriveLemmas.{last_entry_small, entries_length}
use Rattle.cpm_directory.proofs.CheckingLemmas.{past_the_last}
use Rattle.cpm_directory.proofs.checking.well_formed.Goals as goal

pub overflow_add-index-end : goal.overflow_add-index-end
overflow_add-index-end c =
    let d : c.dpb-index-end.result ≡ dpb_of c.args.image.now.format = cc in
    let last = ap (λ (p : Dpb). p.last_entry) d in
    omega (arith, last_entry_small c.args.image.now.format)

pub loop-index-init : goal.loop-index-init
loop-index-init c = (
  record {
    size = rw c.none-before.ensures (length-replicate 512 false);
    at = λ b low high. rw c.none-before.ensures (get_or-replicate 512 b false true high);
  },
  λ j h. absurd (omega arith),
)

pub returns : goal.returns
returns c =
    let d : c.dpb-index-end.result ≡ dpb_of c.args.image.now.format = cc in
    let last = ap (λ (p : Dpb). p.last_entry) d in
    let size = entries_length c.args.image.now in
    λ i. elim (cases_lt i c.loop-index.index) [
      | inl low ↦ c.loop-index.invariant.1 i low
      | inr high ↦ past_the_last (dpb_of c.args.image.now.format) (entries_of c.args.image.now) i (omega arith)
    ]
