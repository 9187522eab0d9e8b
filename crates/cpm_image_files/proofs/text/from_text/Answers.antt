use Rattle.std.proofs.Common.{◌≡◌, ◌≢◌, ◌<◌, ◌≤◌, ◌+◌, true, false, ◌&&◌, eqb, List, [], ◌∷◌, ◌++◌, length, get_or, drop, sym, ap, ◌∙◌, arith}
use Rattle.cpm_image_files.specs.Texts.{from_text, begins_with_line_feed}
use Rattle.cpm_image_files.proofs.TextLemmas.{from_end, from_stop, from_line, from_byte, more_written, same_written, all_written}
use Rattle.cpm_image_files.proofs.text.from_text.Goals as goal
use Rattle.cpm_image_files.proofs.text.from_text.Goals.{then-not-ends_line+in_ok-push, else-not-ends_line}

pub returns-then-bytes-place-eq-END_OF_FILE : goal.returns-then-bytes-place-eq-END_OF_FILE
returns-then-bytes-place-eq-END_OF_FILE c =
    let below : c.loop-place.place < length c.args.bytes.now = omega arith in
    all_written c.loop-place.text.items (from_text (drop c.loop-place.place c.args.bytes.now)) (from_text c.args.bytes.now) c.loop-place.invariant (from_stop c.args.bytes.now c.loop-place.place below c.if-bytes-place-eq-END_OF_FILE.true)

pub loop-place-preserved : goal.loop-place-preserved
loop-place-preserved c =
    let below : c.loop-place.place < length c.args.bytes.now = omega arith in
    let b = get_or c.args.bytes.now c.loop-place.place 0 in
    let other : b ≢ 26 = c.if-bytes-place-eq-END_OF_FILE.false in
    let rest = from_text (drop (c.loop-place.place + 1) c.args.bytes.now) in
    elim c.if-not-ends_line.branch [
      | then-not-ends_line+in_ok-push w ↦
          let first : c.if-not-ends_line.text.items ≡ c.loop-place.text.items ++ b ∷ [] = cc (w.text-is, w.in_ok-push.ensures.items) in
          let test : (eqb b 13 && begins_with_line_feed (drop (c.loop-place.place + 1) c.args.bytes.now)) ≡ false = sym c.ends_line.ensures ∙ w.if-not-ends_line.true in
          more_written c.loop-place.text.items c.if-not-ends_line.text.items (from_text (drop c.loop-place.place c.args.bytes.now)) rest (from_text c.args.bytes.now) b c.loop-place.invariant first (from_byte c.args.bytes.now c.loop-place.place below other test)
      | else-not-ends_line w ↦
          let first : c.if-not-ends_line.text.items ≡ c.loop-place.text.items = cc w.text-is in
          let test : (eqb b 13 && begins_with_line_feed (drop (c.loop-place.place + 1) c.args.bytes.now)) ≡ true = sym c.ends_line.ensures ∙ w.if-not-ends_line.false in
          ap (λ (t : List _). t ++ rest) first ∙ same_written c.loop-place.text.items (from_text (drop c.loop-place.place c.args.bytes.now)) rest (from_text c.args.bytes.now) c.loop-place.invariant (from_line c.args.bytes.now c.loop-place.place below other test)
    ]

pub returns : goal.returns
returns c =
    let past : length c.args.bytes.now ≤ c.loop-place.place = omega arith in
    all_written c.loop-place.text.items (from_text (drop c.loop-place.place c.args.bytes.now)) (from_text c.args.bytes.now) c.loop-place.invariant (from_end c.args.bytes.now c.loop-place.place past)
