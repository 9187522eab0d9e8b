use Rattle.std.proofs.Common.{◌≡◌, ◌∙◌, ◌<◌, length, get_or, ap, arith}
use Rattle.std.specs.List.{insert, position_or_len}
use Rattle.cpm_disk_commands.specs.Listing.{comes_before}
use Rattle.cpm_disk_commands.proofs.ListingLemmas.{no_file, placed_end, placed_more}
use Rattle.cpm_disk_commands.proofs.listing.in_order.Goals as goal

pub loop-file-preserved : goal.loop-file-preserved
loop-file-preserved c =
    let l : c.loop-file.file-index < length c.args.files.now = omega arith in
    let file = get_or c.args.files.now c.loop-file.file-index no_file in
    let place : c.place_of-place.result ≡ position_or_len (comes_before file) c.loop-file.sorted.items = c.place_of-place.ensures.place ∙ ap (position_or_len (comes_before file)) c.deref.ensures.value in
    let put : c.insert.new.self.items ≡ insert c.loop-file.sorted.items (position_or_len (comes_before file) c.loop-file.sorted.items) file =
    c.in_ok-insert.ensures.items ∙ ap (λ k. insert c.loop-file.sorted.items k file) place in
    placed_more c.loop-file.sorted.items c.insert.new.self.items c.args.files.now c.loop-file.file-index no_file _ l put c.loop-file.invariant

pub returns : goal.returns
returns c = placed_end c.loop-file.sorted.items c.args.files.now c.loop-file.file-index _ (omega arith) c.loop-file.invariant
