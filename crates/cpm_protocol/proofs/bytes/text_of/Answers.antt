use Rattle.std.proofs.Common.{◌++◌, List, ℕ, ap, ap₂, encode_utf8, sym, ◌∙◌}
use Rattle.cpm_protocol.proofs.ByteLemmas.{text_more}
use Rattle.cpm_protocol.proofs.bytes.text_of.Goals as goal

pub loop-byte-preserved : goal.loop-byte-preserved
loop-byte-preserved c =
    c.in_ok-push.ensures.bytes
    ∙ ap₂ (λ (done end : List ℕ). done ++ end) c.loop-byte.invariant (ap encode_utf8 c.from.ensures)
    ∙ sym (text_more c.args.bytes.now c.loop-byte.byte-index c.loop-byte-test.true)
