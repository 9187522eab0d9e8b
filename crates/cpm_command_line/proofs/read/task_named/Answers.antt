use Rattle.std.proofs.Common.{IfOk, subst, sym}
use Rattle.clap.specs.Words.{Text, found_of, rows_of}
use Rattle.cpm_command_line.specs.CommandLine.{HasEntriesOf}
use Rattle.cpm_command_line.proofs.NamedLemmas.{IsWholeAs, whole_as, whole_last}
use Rattle.cpm_command_line.proofs.read.task_named.Goals as goal

-- ---- the entries are whole as those that a command's function wants

pub com_task-requires : goal.com_task-requires
com_task-requires c =
    let rows = rows_of (found_of c.args.matches.now) in
    subst (λ (n : Text). IsWholeAs n rows) c.in-com.is (whole_as (c.args.name.now, rows) c.requires)

pub boot_task-requires : goal.boot_task-requires
boot_task-requires c =
    let rows = rows_of (found_of c.args.matches.now) in
    subst (λ (n : Text). IsWholeAs n rows) c.in-boot.is (whole_as (c.args.name.now, rows) c.requires)

pub asm_task-requires : goal.asm_task-requires
asm_task-requires c =
    let rows = rows_of (found_of c.args.matches.now) in
    subst (λ (n : Text). IsWholeAs n rows) c.in-asm.is (whole_as (c.args.name.now, rows) c.requires)

pub list_task-requires : goal.list_task-requires
list_task-requires c =
    let rows = rows_of (found_of c.args.matches.now) in
    subst (λ (n : Text). IsWholeAs n rows) c.in-list.is (whole_as (c.args.name.now, rows) c.requires)

pub check_task-requires : goal.check_task-requires
check_task-requires c =
    let rows = rows_of (found_of c.args.matches.now) in
    subst (λ (n : Text). IsWholeAs n rows) c.in-check.is (whole_as (c.args.name.now, rows) c.requires)

pub run_task-requires : goal.run_task-requires
run_task-requires c =
    let rows = rows_of (found_of c.args.matches.now) in
    subst (λ (n : Text). IsWholeAs n rows) c.in-run.is (whole_as (c.args.name.now, rows) c.requires)

pub debug_task-requires : goal.debug_task-requires
debug_task-requires c =
    let rows = rows_of (found_of c.args.matches.now) in
    subst (λ (n : Text). IsWholeAs n rows) c.in-debug.is (whole_as (c.args.name.now, rows) c.requires)

pub serve_task-requires : goal.serve_task-requires
serve_task-requires c =
    let rows = rows_of (found_of c.args.matches.now) in
    subst (λ (n : Text). IsWholeAs n rows) c.in-serve.is (whole_as (c.args.name.now, rows) c.requires)

pub saved_task-requires : goal.saved_task-requires
saved_task-requires c =
    let rows = rows_of (found_of c.args.matches.now) in
    (whole_last (c.args.name.now, rows) c.in_default.not-com c.in_default.not-boot c.in_default.not-asm c.in_default.not-list c.in_default.not-check c.in_default.not-run c.in_default.not-debug c.in_default.not-serve
    c.requires).1

-- ---- the task has the entries of this name

pub returns-in-com : goal.returns-in-com
returns-in-com c =
    let rows = rows_of (found_of c.args.matches.now) in
    subst (λ (n : Text). IfOk c.com_task.result (HasEntriesOf (n, rows))) (sym c.in-com.is) c.com_task.ensures

pub returns-in-boot : goal.returns-in-boot
returns-in-boot c =
    let rows = rows_of (found_of c.args.matches.now) in
    subst (λ (n : Text). IfOk c.boot_task.result (HasEntriesOf (n, rows))) (sym c.in-boot.is) c.boot_task.ensures

pub returns-in-asm : goal.returns-in-asm
returns-in-asm c =
    let rows = rows_of (found_of c.args.matches.now) in
    subst (λ (n : Text). HasEntriesOf (n, rows) c.asm_task.result) (sym c.in-asm.is) c.asm_task.ensures

pub returns-in-list : goal.returns-in-list
returns-in-list c =
    let rows = rows_of (found_of c.args.matches.now) in
    subst (λ (n : Text). HasEntriesOf (n, rows) c.list_task.result) (sym c.in-list.is) c.list_task.ensures

pub returns-in-check : goal.returns-in-check
returns-in-check c =
    let rows = rows_of (found_of c.args.matches.now) in
    subst (λ (n : Text). HasEntriesOf (n, rows) c.check_task.result) (sym c.in-check.is) c.check_task.ensures

pub returns-in-run : goal.returns-in-run
returns-in-run c =
    let rows = rows_of (found_of c.args.matches.now) in
    subst (λ (n : Text). IfOk c.run_task.result (HasEntriesOf (n, rows))) (sym c.in-run.is) c.run_task.ensures

pub returns-in-debug : goal.returns-in-debug
returns-in-debug c =
    let rows = rows_of (found_of c.args.matches.now) in
    subst (λ (n : Text). HasEntriesOf (n, rows) c.debug_task.result) (sym c.in-debug.is) c.debug_task.ensures

pub returns-in-serve : goal.returns-in-serve
returns-in-serve c =
    let rows = rows_of (found_of c.args.matches.now) in
    subst (λ (n : Text). HasEntriesOf (n, rows) c.serve_task.result) (sym c.in-serve.is) c.serve_task.ensures

pub returns-in_default : goal.returns-in_default
returns-in_default c =
    let rows = rows_of (found_of c.args.matches.now) in
    subst (λ (n : Text). HasEntriesOf (n, rows) c.saved_task.result)
    (sym (whole_last (c.args.name.now, rows) c.in_default.not-com c.in_default.not-boot c.in_default.not-asm c.in_default.not-list c.in_default.not-check c.in_default.not-run c.in_default.not-debug c.in_default.not-serve
    c.requires).0) c.saved_task.ensures
