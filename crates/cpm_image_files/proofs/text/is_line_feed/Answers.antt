use Rattle.std.proofs.Common.{◌<◌, ◌≤◌, length, sym, ◌∙◌, arith}
use Rattle.std.proofs.lemmas.Bool.{le-ltb}
use Rattle.cpm_image_files.proofs.TextLemmas.{next_there, next_none}
use Rattle.cpm_image_files.proofs.text.is_line_feed.Goals as goal

pub returns-then-place-bytes : goal.returns-then-place-bytes
returns-then-place-bytes c =
    let below : c.args.place < length c.args.bytes.now = omega arith in
    sym (next_there c.args.bytes.now c.args.place below)

pub returns-else-place-bytes : goal.returns-else-place-bytes
returns-else-place-bytes c =
    let past : length c.args.bytes.now ≤ c.args.place = omega arith in
    le-ltb c.args.place (length c.args.bytes.now) past ∙ sym (next_none c.args.bytes.now c.args.place past)
