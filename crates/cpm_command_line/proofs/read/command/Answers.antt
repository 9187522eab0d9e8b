use Rattle.std.proofs.Common.{◌≡◌, ◌∙◌, false, true, inl, inr, map, subst, sym}
use Rattle.cpm_command_line.specs.HelpWords.{is_help_line}
use Rattle.cpm_command_line.specs.Refusals.{IsTaskRefusal}
use Rattle.cpm_command_line.proofs.LineLemmas.{faultless_of, help_asked, help_faultless, help_refused, help_task_of, help_untaken, help_users, no_page, other_refused}
use Rattle.cpm_command_line.proofs.UserLemmas.{users_of}
use Rattle.cpm_command_line.proofs.read.command.Goals as goal

-- ---- a question behind `help`

pub returns-then-is_help_line-clause-task : goal.returns-then-is_help_line-clause-task
returns-then-is_help_line-clause-task c =
    let words = map (λ w. w.now) c.args.words.now in
    let help : is_help_line words ≡ true = sym c.is_help_line.ensures ∙ c.if-is_help_line.true in
    help_task_of words help c.help_task.result c.help_task.ensures

pub returns-then-is_help_line-clause-asked : goal.returns-then-is_help_line-clause-asked
returns-then-is_help_line-clause-asked c =
    let words = map (λ w. w.now) c.args.words.now in
    let help : is_help_line words ≡ true = sym c.is_help_line.ensures ∙ c.if-is_help_line.true in
    λ p asked. help_asked words help p asked c.help_task.result c.help_task.ensures

pub returns-then-is_help_line-clause-users : goal.returns-then-is_help_line-clause-users
returns-then-is_help_line-clause-users c =
    let words = map (λ w. w.now) c.args.words.now in
    let help : is_help_line words ≡ true = sym c.is_help_line.ensures ∙ c.if-is_help_line.true in
    help_users words help c.help_task.result c.help_task.ensures

pub returns-then-is_help_line-clause-faultless : goal.returns-then-is_help_line-clause-faultless
returns-then-is_help_line-clause-faultless c =
    let words = map (λ w. w.now) c.args.words.now in
    let help : is_help_line words ≡ true = sym c.is_help_line.ensures ∙ c.if-is_help_line.true in
    help_faultless words help c.help_task.result c.help_task.ensures

pub returns-then-is_help_line-clause-taken : goal.returns-then-is_help_line-clause-taken
returns-then-is_help_line-clause-taken c =
    let words = map (λ w. w.now) c.args.words.now in
    let help : is_help_line words ≡ true = sym c.is_help_line.ensures ∙ c.if-is_help_line.true in
    λ taken. absurd (help_untaken words help taken)

pub returns-then-is_help_line-clause-refusal : goal.returns-then-is_help_line-clause-refusal
returns-then-is_help_line-clause-refusal c =
    let words = map (λ w. w.now) c.args.words.now in
    let help : is_help_line words ≡ true = sym c.is_help_line.ensures ∙ c.if-is_help_line.true in
    help_refused words help c.help_task.result c.help_task.ensures

-- ---- another line, of which clap makes no task

pub returns-in-Err-clause-asked : goal.returns-in-Err-clause-asked
returns-in-Err-clause-asked c =
    let words = map (λ w. w.now) c.args.words.now in
    let other : is_help_line words ≡ false = sym c.is_help_line.ensures ∙ c.if-is_help_line.false in
    λ p asked. c.in-Err.ensures.asked p other asked

pub returns-in-Err-clause-taken : goal.returns-in-Err-clause-taken
returns-in-Err-clause-taken c =
    let words = map (λ w. w.now) c.args.words.now in
    let other : is_help_line words ≡ false = sym c.is_help_line.ensures ∙ c.if-is_help_line.false in
    λ taken. subst (IsTaskRefusal words) (sym (c.in-Err.ensures.taken taken)) tt

pub returns-in-Err-clause-refusal : goal.returns-in-Err-clause-refusal
returns-in-Err-clause-refusal c =
    let words = map (λ w. w.now) c.args.words.now in
    let other : is_help_line words ≡ false = sym c.is_help_line.ensures ∙ c.if-is_help_line.false in
    other_refused words other c.in-Err.error (inl c.in-Err.ensures.refusal)

-- ---- a task whose options don't go together

pub returns-in-Some-clause-asked : goal.returns-in-Some-clause-asked
returns-in-Some-clause-asked c =
    let words = map (λ w. w.now) c.args.words.now in
    let other : is_help_line words ≡ false = sym c.is_help_line.ensures ∙ c.if-is_help_line.false in
    λ p asked. absurd (no_page c.in-Ok.task c.in-Some.fault p (sym c.options_fault.ensures ∙ c.in-Some.is) (c.in-Ok.ensures.asked p other asked))

pub returns-in-Some-clause-taken : goal.returns-in-Some-clause-taken
returns-in-Some-clause-taken c =
    let words = map (λ w. w.now) c.args.words.now in
    let other : is_help_line words ≡ false = sym c.is_help_line.ensures ∙ c.if-is_help_line.false in
    let given = c.in-Ok.ensures.task other in
    λ taken. (c.in-Ok.task, given.0, sym c.options_fault.ensures ∙ c.in-Some.is, c.page_of_line.ensures)

pub returns-in-Some-clause-refusal : goal.returns-in-Some-clause-refusal
returns-in-Some-clause-refusal c =
    let words = map (λ w. w.now) c.args.words.now in
    let other : is_help_line words ≡ false = sym c.is_help_line.ensures ∙ c.if-is_help_line.false in
    let given = c.in-Ok.ensures.task other in
    let is = sym c.options_fault.ensures ∙ c.in-Some.is in
    other_refused words other _ (inr (faultless_of words c.in-Ok.task c.in-Some.fault is given.1, (c.in-Ok.task, given.0, is, c.page_of_line.ensures)))

-- ---- a task

pub returns-clause-task : goal.returns-clause-task
returns-clause-task c =
    let words = map (λ w. w.now) c.args.words.now in
    let other : is_help_line words ≡ false = sym c.is_help_line.ensures ∙ c.if-is_help_line.false in
    let given = c.in-Ok.ensures.task other in
    (given.0, sym c.options_fault.ensures ∙ c.in-None.is)

pub returns-clause-asked : goal.returns-clause-asked
returns-clause-asked c =
    let words = map (λ w. w.now) c.args.words.now in
    let other : is_help_line words ≡ false = sym c.is_help_line.ensures ∙ c.if-is_help_line.false in
    λ p asked. c.in-Ok.ensures.asked p other asked

pub returns-clause-users : goal.returns-clause-users
returns-clause-users c =
    let words = map (λ w. w.now) c.args.words.now in
    let other : is_help_line words ≡ false = sym c.is_help_line.ensures ∙ c.if-is_help_line.false in
    let given = c.in-Ok.ensures.task other in
    users_of words c.in-Ok.task given.0

pub returns-clause-faultless : goal.returns-clause-faultless
returns-clause-faultless c =
    let words = map (λ w. w.now) c.args.words.now in
    let other : is_help_line words ≡ false = sym c.is_help_line.ensures ∙ c.if-is_help_line.false in
    let given = c.in-Ok.ensures.task other in
    given.1
