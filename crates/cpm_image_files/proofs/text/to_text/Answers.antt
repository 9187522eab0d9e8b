use Rattle.std.proofs.Common.{◌≡◌, ◌≢◌, ◌<◌, ◌≤◌, ◌+◌, true, false, ◌&&◌, eqb, not, List, [], ◌∷◌, ◌++◌, length, get_or, drop, sym, ap, ◌∙◌, refl, arith}
use Rattle.std.proofs.lemmas.Bool.{eqb-true, and_parts, eq-eqb, false≢true}
use Rattle.cpm_image_files.specs.Texts.{text_behind}
use Rattle.cpm_image_files.proofs.TextLemmas.{behind_end, line_more, byte_more, more_written, all_written}
use Rattle.cpm_image_files.proofs.text.to_text.Goals as goal
use Rattle.cpm_image_files.proofs.text.to_text.Goals.{then-lacks_return+in_ok-push, else-lacks_return}

pub loop-byte-preserved : goal.loop-byte-preserved
loop-byte-preserved c =
    let below : c.loop-byte.byte-index < length c.args.bytes.now = omega arith in
    let b = get_or c.args.bytes.now c.loop-byte.byte-index 0 in
    let rest = text_behind b (drop (c.loop-byte.byte-index + 1) c.args.bytes.now) in
    let pushed : c.push-in-loop-byte.new.self.items ≡ c.if-lacks_return.text.items ++ b ∷ [] = c.in_ok-push-2.ensures.items in
    elim c.if-lacks_return.branch [
      | then-lacks_return+in_ok-push w ↦
          let first : c.if-lacks_return.text.items ≡ c.loop-byte.text.items ++ 13 ∷ [] = cc (w.text-is, w.in_ok-push.ensures.items) in
          let test : (eqb b 10 && not (eqb c.loop-byte.previous 13)) ≡ true = sym c.lacks_return.ensures ∙ w.if-lacks_return.true in
          let parts = and_parts (eqb b 10) (not (eqb c.loop-byte.previous 13)) test in
          let other : c.loop-byte.previous ≢ 13 = λ e. false≢true (ap not (sym (eq-eqb c.loop-byte.previous 13 e)) ∙ parts.1) in
          let step = line_more c.args.bytes.now c.loop-byte.byte-index c.loop-byte.previous below (eqb-true b 10 parts.0) other in
          more_written c.if-lacks_return.text.items c.push-in-loop-byte.new.self.items (b ∷ rest) rest (text_behind 0 c.args.bytes.now) b (more_written c.loop-byte.text.items c.if-lacks_return.text.items (text_behind c.loop-byte.previous (drop c.loop-byte.byte-index c.args.bytes.now)) (b ∷ rest) (text_behind 0 c.args.bytes.now) 13 c.loop-byte.invariant first step) pushed refl
      | else-lacks_return w ↦
          let first : c.if-lacks_return.text.items ≡ c.loop-byte.text.items = cc w.text-is in
          let test : (eqb b 10 && not (eqb c.loop-byte.previous 13)) ≡ false = sym c.lacks_return.ensures ∙ w.if-lacks_return.false in
          let step = byte_more c.args.bytes.now c.loop-byte.byte-index c.loop-byte.previous below test in
          more_written c.loop-byte.text.items c.push-in-loop-byte.new.self.items (text_behind c.loop-byte.previous (drop c.loop-byte.byte-index c.args.bytes.now)) rest (text_behind 0 c.args.bytes.now) b c.loop-byte.invariant (pushed ∙ ap (λ (t : List _). t ++ b ∷ []) first) step
    ]

pub returns : goal.returns
returns c =
    let past : length c.args.bytes.now ≤ c.loop-byte.byte-index = omega arith in
    all_written c.loop-byte.text.items (text_behind c.loop-byte.previous (drop c.loop-byte.byte-index c.args.bytes.now)) (text_behind 0 c.args.bytes.now) c.loop-byte.invariant (behind_end c.args.bytes.now c.loop-byte.byte-index c.loop-byte.previous past)
