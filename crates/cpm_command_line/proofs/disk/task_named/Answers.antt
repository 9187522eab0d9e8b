use Rattle.std.proofs.Common.{IfOk, subst, sym}
use Rattle.clap.specs.Words.{Text, found_of, rows_of}
use Rattle.cpm_command_line.specs.DiskLine.{HasDiskEntriesOf}
use Rattle.cpm_command_line.proofs.NamedLemmas.{IsWholeDiskAs, disk_whole_as, disk_whole_last}
use Rattle.cpm_command_line.proofs.disk.task_named.Goals as goal

-- ---- the entries are whole as those that a command's function wants

pub new_task-requires : goal.new_task-requires
new_task-requires c =
    let rows = rows_of (found_of c.args.matches.now) in
    subst (λ (n : Text). IsWholeDiskAs n rows) c.in-new.is (disk_whole_as (c.args.name.now, rows) c.requires)

pub list_task-requires : goal.list_task-requires
list_task-requires c =
    let rows = rows_of (found_of c.args.matches.now) in
    subst (λ (n : Text). IsWholeDiskAs n rows) c.in-list.is (disk_whole_as (c.args.name.now, rows) c.requires)

pub put_task-requires : goal.put_task-requires
put_task-requires c =
    let rows = rows_of (found_of c.args.matches.now) in
    subst (λ (n : Text). IsWholeDiskAs n rows) c.in-put.is (disk_whole_as (c.args.name.now, rows) c.requires)

pub get_task-requires : goal.get_task-requires
get_task-requires c =
    let rows = rows_of (found_of c.args.matches.now) in
    subst (λ (n : Text). IsWholeDiskAs n rows) c.in-get.is (disk_whole_as (c.args.name.now, rows) c.requires)

pub remove_task-requires : goal.remove_task-requires
remove_task-requires c =
    let rows = rows_of (found_of c.args.matches.now) in
    subst (λ (n : Text). IsWholeDiskAs n rows) c.in-remove.is (disk_whole_as (c.args.name.now, rows) c.requires)

pub rename_task-requires : goal.rename_task-requires
rename_task-requires c =
    let rows = rows_of (found_of c.args.matches.now) in
    (disk_whole_last (c.args.name.now, rows) c.in_default.not-new c.in_default.not-list c.in_default.not-put c.in_default.not-get c.in_default.not-remove c.requires).1

-- ---- the task has the entries of this name

pub returns-in-new : goal.returns-in-new
returns-in-new c =
    let rows = rows_of (found_of c.args.matches.now) in
    subst (λ (n : Text). HasDiskEntriesOf (n, rows) c.new_task.result) (sym c.in-new.is) c.new_task.ensures

pub returns-in-list : goal.returns-in-list
returns-in-list c =
    let rows = rows_of (found_of c.args.matches.now) in
    subst (λ (n : Text). HasDiskEntriesOf (n, rows) c.list_task.result) (sym c.in-list.is) c.list_task.ensures

pub returns-in-put : goal.returns-in-put
returns-in-put c =
    let rows = rows_of (found_of c.args.matches.now) in
    subst (λ (n : Text). IfOk c.put_task.result (HasDiskEntriesOf (n, rows))) (sym c.in-put.is) c.put_task.ensures

pub returns-in-get : goal.returns-in-get
returns-in-get c =
    let rows = rows_of (found_of c.args.matches.now) in
    subst (λ (n : Text). IfOk c.get_task.result (HasDiskEntriesOf (n, rows))) (sym c.in-get.is) c.get_task.ensures

pub returns-in-remove : goal.returns-in-remove
returns-in-remove c =
    let rows = rows_of (found_of c.args.matches.now) in
    subst (λ (n : Text). IfOk c.remove_task.result (HasDiskEntriesOf (n, rows))) (sym c.in-remove.is) c.remove_task.ensures

pub returns-in_default : goal.returns-in_default
returns-in_default c =
    let rows = rows_of (found_of c.args.matches.now) in
    subst (λ (n : Text). HasDiskEntriesOf (n, rows) c.rename_task.result)
    (sym (disk_whole_last (c.args.name.now, rows) c.in_default.not-new c.in_default.not-list c.in_default.not-put c.in_default.not-get c.in_default.not-remove c.requires).0) c.rename_task.ensures
