use Rattle.std.proofs.Common.{inl, inr, map, refl}
use Rattle.cpm_commands.specs.Words.{NamesTask}
use Rattle.cpm_commands.proofs.words.typed_at_status.Goals as goal

pub returns-in-Ok : goal.returns-in-Ok
returns-in-Ok c =
    let named : NamesTask (map (λ w. w.now) c.args.line.now) c.in-Ok.task =
    record { named = c.in-Ok.ensures.task.0; faultless = c.in-Ok.ensures.faultless; options = c.in-Ok.ensures.task.1 } in
    inl (c.in-Ok.task, named, c.typed_status.ensures)

pub returns-in-Err : goal.returns-in-Err
returns-in-Err c = inr (c.in-Err.field-0, c.in-Err.ensures.refusal, refl)
