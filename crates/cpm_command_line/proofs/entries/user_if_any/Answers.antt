use Rattle.std.proofs.Common.{None, Some, arith, codes, subst, sym}
use Rattle.clap.specs.Words.{found_of}
use Rattle.clap.proofs.WalkLemmas.{one_text-rows}
use Rattle.cpm_command_line.specs.DiskLine.{IsUserIfAny}
use Rattle.cpm_command_line.proofs.EntryLemmas.{user_if_any}
use Rattle.cpm_command_line.proofs.entries.user_if_any.Goals as goal

pub overflow_cast-result : goal.overflow_cast-result
overflow_cast-result c =
    let any = subst IsUserIfAny (sym (one_text-rows (found_of c.args.matches.now) (codes "user"))) c.requires in
    let read = user_if_any _ (Some c.in-Some.number) c.in-Some.ensures.none c.in-Some.ensures.value any in
    omega (arith, read.1)

pub returns-in-Some : goal.returns-in-Some
returns-in-Some c =
    let any = subst IsUserIfAny (sym (one_text-rows (found_of c.args.matches.now) (codes "user"))) c.requires in
    rw (← one_text-rows (found_of c.args.matches.now) (codes "user"))
    (user_if_any _ (Some c.in-Some.number) c.in-Some.ensures.none c.in-Some.ensures.value any)

pub returns-in-None : goal.returns-in-None
returns-in-None c =
    let any = subst IsUserIfAny (sym (one_text-rows (found_of c.args.matches.now) (codes "user"))) c.requires in
    rw (← one_text-rows (found_of c.args.matches.now) (codes "user"))
    (user_if_any _ None c.in-None.ensures.none c.in-None.ensures.value any)
