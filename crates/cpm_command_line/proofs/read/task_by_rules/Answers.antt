use Rattle.std.proofs.Common.{◌≡◌, ◌∙◌, Bool, false, true, if◌then◌else◌, IfErr, IfOk, List, drop, map, subst, sym}
use Rattle.clap.specs.Words.{Text, fault_of, takes}
use Rattle.cpm_command_line.specs.CommandLine.{host_app}
use Rattle.cpm_command_line.specs.DiskLine.{disk_app}
use Rattle.cpm_command_line.specs.HelpWords.{page_of_line}
use Rattle.cpm_command_line.specs.Line.{IsDiskTask, IsPageOrMemory, asks_by_flag, names_disk}
use Rattle.cpm_command_line.specs.Refusals.{IsRefusalBy}
use Rattle.cpm_command_line.specs.declared.fault.UsageError.{UsageError}
use Rattle.cpm_command_line.specs.declared.fault.UsageError.TheVariants.{OutOfMemory}
use Rattle.cpm_command_line.specs.declared.usage.Page.{Page}
use Rattle.cpm_command_line.proofs.LineLemmas.{asked_result, disk_result, host_result}
use Rattle.cpm_command_line.proofs.RestLemmas.{rest_words}
use Rattle.cpm_command_line.proofs.read.task_by_rules.Goals as goal

pub returns-else-is_disk_line-clause-task : goal.returns-else-is_disk_line-clause-task
returns-else-is_disk_line-clause-task c =
    let words = map (λ w. w.now) c.args.words.now in
    let is : names_disk words ≡ false = sym c.is_disk_line.ensures ∙ c.if-is_disk_line.false in
    λ other. host_result words other is c.page_of_line-page.result c.page_of_line-page.ensures c.host_task.result c.host_task.ensures.task

pub returns-else-is_disk_line-clause-asked : goal.returns-else-is_disk_line-clause-asked
returns-else-is_disk_line-clause-asked c =
    let words = map (λ w. w.now) c.args.words.now in
    let is : names_disk words ≡ false = sym c.is_disk_line.ensures ∙ c.if-is_disk_line.false in
    λ p other asked. asked_result words other false is c.page_of_line-page.result c.page_of_line-page.ensures c.host_task.result c.host_task.ensures.asked p asked

pub returns-else-is_disk_line-clause-taken : goal.returns-else-is_disk_line-clause-taken
returns-else-is_disk_line-clause-taken c =
    let words = map (λ w. w.now) c.args.words.now in
    let is : names_disk words ≡ false = sym c.is_disk_line.ensures ∙ c.if-is_disk_line.false in
    subst (λ (b : Bool). takes (if b then disk_app else host_app) (if b then drop 1 words else words) ≡ true
    → IfErr c.host_task.result (λ (e : UsageError). e ≡ OutOfMemory)) (sym is) c.host_task.ensures.taken

pub returns-else-is_disk_line-clause-refusal : goal.returns-else-is_disk_line-clause-refusal
returns-else-is_disk_line-clause-refusal c =
    let words = map (λ w. w.now) c.args.words.now in
    let is : names_disk words ≡ false = sym c.is_disk_line.ensures ∙ c.if-is_disk_line.false in
    let refusal = subst (λ (p : Page). IfErr c.host_task.result (IsRefusalBy false p host_app words)) c.page_of_line-page.ensures c.host_task.ensures.refusal in
    subst (λ (b : Bool). IfErr c.host_task.result (IsRefusalBy b (page_of_line words)
    (if b then disk_app else host_app) (if b then drop 1 words else words))) (sym is) refusal

pub returns-then-is_disk_line-clause-task : goal.returns-then-is_disk_line-clause-task
returns-then-is_disk_line-clause-task c =
    let words = map (λ w. w.now) c.args.words.now in
    let is : names_disk words ≡ true = sym c.is_disk_line.ensures ∙ c.if-is_disk_line.true in
    let own = subst (λ (ws : List Text). IfOk c.disk_task.result (IsDiskTask c.page_of_line-page.result ws)) (sym (rest_words c.args.words.now)) c.disk_task.ensures.task in
    λ other. disk_result words other is c.page_of_line-page.result c.page_of_line-page.ensures c.disk_task.result own

pub returns-then-is_disk_line-clause-asked : goal.returns-then-is_disk_line-clause-asked
returns-then-is_disk_line-clause-asked c =
    let words = map (λ w. w.now) c.args.words.now in
    let is : names_disk words ≡ true = sym c.is_disk_line.ensures ∙ c.if-is_disk_line.true in
    let own = subst (λ (ws : List Text). asks_by_flag (fault_of disk_app ws) ≡ true → IsPageOrMemory c.page_of_line-page.result c.disk_task.result)
    (sym (rest_words c.args.words.now)) c.disk_task.ensures.asked in
    λ p other asked. asked_result words other true is c.page_of_line-page.result c.page_of_line-page.ensures c.disk_task.result own p asked

pub returns-then-is_disk_line-clause-taken : goal.returns-then-is_disk_line-clause-taken
returns-then-is_disk_line-clause-taken c =
    let words = map (λ w. w.now) c.args.words.now in
    let is : names_disk words ≡ true = sym c.is_disk_line.ensures ∙ c.if-is_disk_line.true in
    let taken = subst (λ (ws : List Text). takes disk_app ws ≡ true → IfErr c.disk_task.result (λ (e : UsageError). e ≡ OutOfMemory))
    (sym (rest_words c.args.words.now)) c.disk_task.ensures.taken in
    subst (λ (b : Bool). takes (if b then disk_app else host_app) (if b then drop 1 words else words) ≡ true
    → IfErr c.disk_task.result (λ (e : UsageError). e ≡ OutOfMemory)) (sym is) taken

pub returns-then-is_disk_line-clause-refusal : goal.returns-then-is_disk_line-clause-refusal
returns-then-is_disk_line-clause-refusal c =
    let words = map (λ w. w.now) c.args.words.now in
    let is : names_disk words ≡ true = sym c.is_disk_line.ensures ∙ c.if-is_disk_line.true in
    let own = subst (λ (ws : List Text). IfErr c.disk_task.result (IsRefusalBy true c.page_of_line-page.result disk_app ws))
    (sym (rest_words c.args.words.now)) c.disk_task.ensures.refusal in
    let refusal = subst (λ (p : Page). IfErr c.disk_task.result (IsRefusalBy true p disk_app (drop 1 words))) c.page_of_line-page.ensures own in
    subst (λ (b : Bool). IfErr c.disk_task.result (IsRefusalBy b (page_of_line words)
    (if b then disk_app else host_app) (if b then drop 1 words else words))) (sym is) refusal
