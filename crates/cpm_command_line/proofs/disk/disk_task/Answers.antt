use Rattle.std.proofs.Common.{◌≡◌, ◌∙◌, ap, true, subst, sym, [], List, Option, map, IsSomeAnd}
use Rattle.clap.specs.Words.{App, Row, Text, fault_of, is_simple, is_simple_and_free, kind_of, subcommand_of, subcommand_rows_of, takes}
use Rattle.clap.specs.Kinds.{HasKind}
use Rattle.cpm_command_line.specs.DiskLine.{HasDiskEntriesOf, IsWholeDisk, disk_app}
use Rattle.cpm_command_line.proofs.LineLemmas.{disk_alone, disk_page, disk_task_of}
use Rattle.cpm_command_line.proofs.RefusalLemmas.{answer_asked, answer_page, answer_refused, answer_taken, unasked}
use Rattle.cpm_command_line.proofs.WholeDisk.{faultless_disk}
use Rattle.cpm_command_line.proofs.disk.disk_task.Goals as goal

pub task_of-requires : goal.task_of-requires
task_of-requires c =
    let words = map (λ w. w.now) c.args.words.now in
    let app = c.in-Ok.ensures.app in
    let rows : subcommand_rows_of c.in-Ok-try_get_matches_from.matches ≡ subcommand_of disk_app words =
    (c.in-Ok-try_get_matches_from.ensures.matches (ap is_simple app)).1 ∙ ap (λ (a : App). subcommand_of a words) app in
    let faultless : fault_of disk_app words ≡ [] =
    sym (ap (λ (a : App). fault_of a words) app) ∙ c.in-Ok-try_get_matches_from.ensures.kinds (ap is_simple_and_free app) in
    subst IsWholeDisk (sym rows) (faultless_disk words faultless)

pub returns-in-Ok-task_of-clause-task : goal.returns-in-Ok-task_of-clause-task
returns-in-Ok-task_of-clause-task c =
    let words = map (λ w. w.now) c.args.words.now in
    let app = c.in-Ok.ensures.app in
    let rows : subcommand_rows_of c.in-Ok-try_get_matches_from.matches ≡ subcommand_of disk_app words =
    (c.in-Ok-try_get_matches_from.ensures.matches (ap is_simple app)).1 ∙ ap (λ (a : App). subcommand_of a words) app in
    let faultless : fault_of disk_app words ≡ [] =
    sym (ap (λ (a : App). fault_of a words) app) ∙ c.in-Ok-try_get_matches_from.ensures.kinds (ap is_simple_and_free app) in
    disk_task_of c.args.page words c.in-Ok-task_of.task faultless
    (subst (λ (o : Option (Text × List Row)). IsSomeAnd o (λ given. HasDiskEntriesOf given c.in-Ok-task_of.task)) rows c.in-Ok-task_of.ensures)

pub returns-in-Ok-task_of-clause-asked : goal.returns-in-Ok-task_of-clause-asked
returns-in-Ok-task_of-clause-asked c =
    let words = map (λ w. w.now) c.args.words.now in
    let app = c.in-Ok.ensures.app in
    let faultless : fault_of disk_app words ≡ [] =
    sym (ap (λ (a : App). fault_of a words) app) ∙ c.in-Ok-try_get_matches_from.ensures.kinds (ap is_simple_and_free app) in
    λ asks. absurd (unasked (fault_of disk_app words) faultless asks)

pub returns-in-Err-try_get_matches_from-clause-task : goal.returns-in-Err-try_get_matches_from-clause-task
returns-in-Err-try_get_matches_from-clause-task c =
    let words = map (λ w. w.now) c.args.words.now in
    let app = c.in-Ok.ensures.app in
    let fails = subst (λ (a : App). HasKind (fault_of a words) c.in-Err-try_get_matches_from.error) app
    (c.in-Err-try_get_matches_from.ensures.kinds (ap is_simple_and_free app)) in
    disk_page c.args.page words c.answer.result (answer_page true c.args.page disk_app words (kind_of c.in-Err-try_get_matches_from.error) fails (disk_alone words) c.answer.result c.answer.ensures)

pub returns-in-Err-try_get_matches_from-clause-asked : goal.returns-in-Err-try_get_matches_from-clause-asked
returns-in-Err-try_get_matches_from-clause-asked c =
    let words = map (λ w. w.now) c.args.words.now in
    let app = c.in-Ok.ensures.app in
    let fails = subst (λ (a : App). HasKind (fault_of a words) c.in-Err-try_get_matches_from.error) app
    (c.in-Err-try_get_matches_from.ensures.kinds (ap is_simple_and_free app)) in
    λ asks. answer_asked true c.args.page disk_app words (kind_of c.in-Err-try_get_matches_from.error) fails asks c.answer.result c.answer.ensures

pub returns-in-Err-try_get_matches_from-clause-taken : goal.returns-in-Err-try_get_matches_from-clause-taken
returns-in-Err-try_get_matches_from-clause-taken c =
    let words = map (λ w. w.now) c.args.words.now in
    let app = c.in-Ok.ensures.app in
    λ taken. answer_taken true c.args.page (kind_of c.in-Err-try_get_matches_from.error)
    (c.in-Err-try_get_matches_from.ensures.passes (ap (λ (a : App). takes a words) app ∙ taken)) c.answer.result c.answer.ensures

pub returns-in-Err-try_get_matches_from-clause-refusal : goal.returns-in-Err-try_get_matches_from-clause-refusal
returns-in-Err-try_get_matches_from-clause-refusal c =
    let words = map (λ w. w.now) c.args.words.now in
    let app = c.in-Ok.ensures.app in
    let fails = subst (λ (a : App). HasKind (fault_of a words) c.in-Err-try_get_matches_from.error) app
    (c.in-Err-try_get_matches_from.ensures.kinds (ap is_simple_and_free app)) in
    answer_refused true c.args.page disk_app words (kind_of c.in-Err-try_get_matches_from.error) fails c.answer.result c.answer.ensures
