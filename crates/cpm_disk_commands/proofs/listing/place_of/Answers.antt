use Rattle.std.proofs.Common.{◌∙◌, ◌≤◌, length, sym, arith}
use Rattle.std.proofs.lemmas.List.Sums.{position_or_len_is}
use Rattle.cpm_disk_commands.specs.Listing.{comes_before}
use Rattle.cpm_disk_commands.proofs.ListingLemmas.{no_file}
use Rattle.cpm_disk_commands.proofs.listing.place_of.Goals as goal

pub returns-then-comes_before-clause-place : goal.returns-then-comes_before-clause-place
returns-then-comes_before-clause-place c =
    let within : c.loop-place.place ≤ length c.args.files.now = omega arith in
    sym (position_or_len_is (comes_before c.args.file.now) c.args.files.now c.loop-place.place no_file within (λ k l. c.loop-place.invariant k no_file l) (λ l. sym c.comes_before.ensures ∙ c.if-comes_before.true))

pub returns-clause-place : goal.returns-clause-place
returns-clause-place c =
    sym (position_or_len_is (comes_before c.args.file.now) c.args.files.now (length c.args.files.now) no_file (omega arith) (λ k l. c.loop-place.invariant k no_file (omega arith)) (λ l. absurd (omega arith)))
