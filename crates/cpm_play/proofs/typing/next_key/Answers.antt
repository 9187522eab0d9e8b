use Rattle.std.proofs.Common.{[], ◌∷◌, ◌∙◌, sym}
use Rattle.std.specs.Io.KnownBytes.{Consumes}
use Rattle.cpm_play.proofs.TypingLemmas.{of_byte, pass_byte, read_key, read_kept, read_more}
use Rattle.cpm_play.proofs.typing.next_key.Goals.{in-Ok-Some+else-is_ascii, in-Err}
use Rattle.cpm_play.proofs.typing.next_key.Goals as goal

pub returns-in-Ok-Some-clause-key : goal.returns-in-Ok-Some-clause-key
returns-in-Ok-Some-clause-key g c =
    let before = g.I.Read.remaining c.loop.input in
    let after = g.I.Read.remaining c.read_byte.new.input in
    let next : Consumes before after (c.in-Ok-Some.byte ∷ []) = of_byte _ (λ b. Consumes before after (b ∷ [])) c.read_byte.result c.in-Ok-Some.field-0 c.in-Ok-Some.byte c.in-Ok-Some.is c.in-Ok-Some.field-0-is c.read_byte.ensures.byte in
    read_key (g.I.Read.remaining c.args.input.now) before after c.in-Ok-Some.byte c.loop.invariant next c.in-Ok-Some.byte-test.1 (sym c.is_ascii.ensures ∙ c.if-is_ascii.true)

pub loop-preserved : goal.loop-preserved
loop-preserved g c =
    let start = g.I.Read.remaining c.args.input.now in
    let before = g.I.Read.remaining c.loop.input in
    let after = g.I.Read.remaining c.read_byte.new.input in
    elim c.match-read_byte.branch [
      | in-Ok-Some+else-is_ascii w ↦ (
          let next : Consumes before after (w.in-Ok-Some.byte ∷ []) = of_byte _ (λ b. Consumes before after (b ∷ [])) c.read_byte.result w.in-Ok-Some.field-0 w.in-Ok-Some.byte w.in-Ok-Some.is w.in-Ok-Some.field-0-is c.read_byte.ensures.byte in
          pass_byte start before after w.in-Ok-Some.byte c.loop.invariant next w.in-Ok-Some.byte-test.1 (sym w.is_ascii.ensures ∙ w.if-is_ascii.false))
      | in-Err w ↦ read_more start before after [] [] c.loop.invariant (read_kept before after w.in-Err.ensures.none)
    ]
