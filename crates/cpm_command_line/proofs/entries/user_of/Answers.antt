use Rattle.std.proofs.Common.{arith, codes, subst, sym}
use Rattle.clap.specs.Words.{found_of}
use Rattle.clap.proofs.WalkLemmas.{one_text-rows}
use Rattle.cpm_command_line.specs.DiskLine.{IsUser}
use Rattle.cpm_command_line.proofs.EntryLemmas.{count_given, user_count, user_read}
use Rattle.cpm_command_line.proofs.entries.user_of.Goals as goal

pub unwrap-requires : goal.unwrap-requires
unwrap-requires c =
    let user = subst IsUser (sym (one_text-rows (found_of c.args.matches.now) (codes "user"))) c.requires in
    count_given _ c.get_one.result c.get_one.ensures.value (user_count _ user)

pub returns : goal.returns
returns c =
    let user = subst IsUser (sym (one_text-rows (found_of c.args.matches.now) (codes "user"))) c.requires in
    rw (← one_text-rows (found_of c.args.matches.now) (codes "user"))
    (user_read _ c.get_one.result c.unwrap.result c.get_one.ensures.none c.get_one.ensures.value c.unwrap.ensures user)

pub overflow_cast-result : goal.overflow_cast-result
overflow_cast-result c =
    let user = subst IsUser (sym (one_text-rows (found_of c.args.matches.now) (codes "user"))) c.requires in
    let read = user_read _ c.get_one.result c.unwrap.result c.get_one.ensures.none c.get_one.ensures.value c.unwrap.ensures user in
    omega (arith, read.1)
