use Rattle.std.proofs.Common.{◌∙◌, ◌<◌, ◌≤◌, length, sym, arith}
use Rattle.cpm_disk_commands.proofs.ListingLemmas.{less_differs, less_end, less_same}
use Rattle.cpm_disk_commands.proofs.listing.is_less.Goals as goal

pub returns-then-character-beside : goal.returns-then-character-beside
returns-then-character-beside c =
    let l : c.loop-place.place < length c.args.name.now = omega (arith, c.told-name) in
    let m : c.loop-place.place < length c.args.other.now = omega (arith, c.told-other) in
    sym (less_differs c.args.name.now c.args.other.now c.loop-place.place l m c.if-character-beside.true) ∙ c.loop-place.invariant

pub loop-place-preserved : goal.loop-place-preserved
loop-place-preserved c =
    let l : c.loop-place.place < length c.args.name.now = omega (arith, c.told-name) in
    let m : c.loop-place.place < length c.args.other.now = omega (arith, c.told-other) in
    sym (less_same c.args.name.now c.args.other.now c.loop-place.place l m c.if-character-beside.false) ∙ c.loop-place.invariant

pub returns : goal.returns
returns c =
    let past : length c.args.name.now ≤ c.loop-place.place = omega (arith, c.told-name) in
    sym (less_end c.args.name.now c.args.other.now c.loop-place.place past) ∙ c.loop-place.invariant
