use Rattle.std.proofs.Common.{Err, ap, inl, inr, map, refl}
use Rattle.cpm_commands.specs.Words.{NamesTask}
use Rattle.cpm_commands.proofs.words.do_command.Goals as goal

pub returns-in-Ok : goal.returns-in-Ok
returns-in-Ok g c =
    let named : NamesTask (map (λ w. w.now) c.args.line.now) c.in-Ok.task =
    record { named = c.in-Ok.ensures.task.0; faultless = c.in-Ok.ensures.faultless; options = c.in-Ok.ensures.task.1 } in
    inl (c.in-Ok.task, named, c.do_task.ensures)

pub returns-in-Err : goal.returns-in-Err
returns-in-Err g c = inr (c.in-Err.error, c.in-Err.ensures.refusal, ap Err c.from.ensures, refl)
