use Rattle.std.proofs.lemmas.Result.{IfOk-weaker}
use Rattle.cpm_run.proofs.PartLemmas.{said_typed}
use Rattle.cpm_run.proofs.part.said_at.Goals as goal

pub returns-in-Some : goal.returns-in-Some
returns-in-Some c =
    IfOk-weaker c.after_keys.result _ _
    (λ v h. said_typed c.args.typed.now (c.in-Some.typed_at, c.in-Some.play) c.args.place c.args.cues v c.as_slice.result.now c.new.result.items c.in-Some.is c.if-typed_at-place.true c.as_slice.ensures.value
    c.new.ensures.items h) c.after_keys.ensures
