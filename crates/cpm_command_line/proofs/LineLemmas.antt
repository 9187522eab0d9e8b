-- The task, the page or the refusal of a whole line, by what reads it.
use Rattle.std.proofs.Common.{◌≡◌, ◌∙◌, ◌⊎◌, ◌&&◌, ◌||◌, ap, sym, subst, refl, Bool, true, false, cond, true≢false, List, [], ◌∷◌, Option, Some, None, Result, Ok, Err, IfErr, IfOk, IsSomeAnd, codes, drop}
use Rattle.std.specs.Str.{bytes_eq}
use Rattle.clap.specs.Words.{Text, fault_of, subcommand_of, takes}
use Rattle.clap.specs.Walk.{nothing_held, walk}
use Rattle.clap.specs.Simple.{argument_words, built, names_of}
use Rattle.clap.specs.Takes.{entered_passes}
use Rattle.clap.proofs.OnLiterals.{clap_on_literals}
use Rattle.cpm_command_line.specs.CommandLine.{HasEntriesOf, host_app}
use Rattle.cpm_command_line.specs.DiskLine.{HasDiskEntriesOf, disk_app}
use Rattle.cpm_command_line.specs.HelpWords.{Naming, begins_with_help, extra_name, is_help_line, known_page, line_of_page, named_by, page_of_line, page_of_naming, unknown_name}
use Rattle.cpm_command_line.specs.Line.{HasUsers, IsDiskTask, IsFaultless, IsHostTask, IsPageOrMemory, IsTaskOf, app_of_line, asked_page, asks_by_flag, fault_of_line, names_disk, words_of_line}
use Rattle.cpm_command_line.specs.Options.{task_fault}
use Rattle.cpm_command_line.specs.Refusals.{IsHelpAnswer, IsRefusalBy, IsRefusalIn, IsRefusalOf, IsTaskRefusal}
use Rattle.cpm_command_line.specs.declared.fault.UsageError.{UsageError}
use Rattle.cpm_command_line.specs.declared.fault.UsageError.TheVariants.{Usage, OutOfMemory}
use Rattle.cpm_command_line.specs.declared.fault.UsageFault.{UsageFault}
use Rattle.cpm_command_line.specs.declared.task.DiskTask.{DiskTask}
use Rattle.cpm_command_line.specs.declared.task.Task.{Task}
use Rattle.cpm_command_line.specs.declared.task.Task.TheVariants.{Asm, Boot, Check, Com, Debug, Disk, Help, List as Listing, Run, Saved, Serve}
use Rattle.cpm_command_line.specs.declared.usage.Page.{Page}
use Rattle.cpm_command_line.specs.declared.usage.Page.TheVariants as page
use Rattle.cpm_command_line.proofs.FilledRows.{same_bytes}
use Rattle.cpm_command_line.proofs.HelpKinds.{HasHelpAlone, help_alone}

-- ---- the line that prints a page

pub page_asks : (p : Page) → asked_page (line_of_page p) ≡ Some p
unfolding clap_on_literals
page_asks page.Overview = refl
page_asks page.Com = refl
page_asks page.Boot = refl
page_asks page.Asm = refl
page_asks page.List = refl
page_asks page.Check = refl
page_asks page.Run = refl
page_asks page.Debug = refl
page_asks page.Serve = refl
page_asks page.Saved = refl
page_asks page.Disk = refl
page_asks page.DiskNew = refl
page_asks page.DiskList = refl
page_asks page.DiskPut = refl
page_asks page.DiskGet = refl
page_asks page.DiskRemove = refl
page_asks page.DiskRename = refl
page_asks page.Status = refl

-- ---- a line that isn't a question behind `help`

no_entries : {A : Type 0} (o : Option A) → IsSomeAnd o (λ given. ⊥) → ⊥
no_entries None h = h
no_entries (Some x) h = h

-- entries of the program's command make its task
pub host_task_of : (p : Page) (words : List Text) (t : Task) → fault_of host_app words ≡ [] → IsSomeAnd (subcommand_of host_app words) (λ given. HasEntriesOf given t)
    → IsHostTask p words t
host_task_of p words (Com task) e h = (e, h)
host_task_of p words (Boot task) e h = (e, h)
host_task_of p words (Asm source out list) e h = (e, h)
host_task_of p words (Listing file cpu) e h = (e, h)
host_task_of p words (Check image) e h = (e, h)
host_task_of p words (Run task) e h = (e, h)
host_task_of p words (Debug task) e h = (e, h)
host_task_of p words (Serve task) e h = (e, h)
host_task_of p words (Saved file) e h = (e, h)
host_task_of p words (Disk task) e h = (e, h)
host_task_of p words (Help q) e h = absurd (no_entries (subcommand_of host_app words) h)

-- and of `disk` its task
pub disk_task_of : (p : Page) (words : List Text) (t : DiskTask) → fault_of disk_app words ≡ [] → IsSomeAnd (subcommand_of disk_app words) (λ given. HasDiskEntriesOf given t)
    → IsDiskTask p words (Disk t)
disk_task_of p words t e h = (e, h)

-- what is wrong with words by clap's rules is help alone, where it is that
pub host_alone : (words : List Text) → HasHelpAlone (fault_of host_app words)
host_alone words = help_alone (built host_app) refl refl nothing_held (argument_words host_app words)

pub disk_alone : (words : List Text) → HasHelpAlone (fault_of disk_app words)
disk_alone words = help_alone (built disk_app) refl refl nothing_held (argument_words disk_app words)

-- a page for which a flag asks is a task
pub host_page : (p : Page) (words : List Text) (r : Result Task UsageError) → IfOk r (λ t. (t ≡ Help p) × (asks_by_flag (fault_of host_app words) ≡ true))
    → IfOk r (IsHostTask p words)
host_page p words (Err e) h = tt
host_page p words (Ok t) h = subst (IsHostTask p words) (sym h.0) (h.1, refl)

pub disk_page : (p : Page) (words : List Text) (r : Result Task UsageError) → IfOk r (λ t. (t ≡ Help p) × (asks_by_flag (fault_of disk_app words) ≡ true))
    → IfOk r (IsDiskTask p words)
disk_page p words (Err e) h = tt
disk_page p words (Ok t) h = subst (IsDiskTask p words) (sym h.0) (h.1, refl)

-- ---- the page that a flag asks for

asked_in : (b f : Bool) (x : Option Page) (p : Page) → b ≡ false → f ≡ true → cond b x (cond f (Some p) None) ≡ Some p
asked_in true f x p none asks = absurd (true≢false none)
asked_in false false x p none asks = absurd (true≢false (sym asks))
asked_in false true x p none asks = refl

asks_in : (b f : Bool) (x : Option Page) (p q : Page) → b ≡ false → cond b x (cond f (Some p) None) ≡ Some q → (f ≡ true) × (q ≡ p)
asks_in true f x p q none h = absurd (true≢false none)
asks_in false false x p q none h = absurd (let bad : ⊥ = cc in bad)
asks_in false true x p q none h = (refl, cc)

module _ (words : List Text) (no_help : is_help_line words ≡ false) where
  -- what a flag asks of the line's own command, it asks of the line
  asked_of_line : (is_disk : Bool) → names_disk words ≡ is_disk → asks_by_flag (fault_of (cond is_disk disk_app host_app) (cond is_disk (drop 1 words) words)) ≡ true
      → asked_page words ≡ Some (page_of_line words)
  asked_of_line is_disk is asks =
      let flag : asks_by_flag (fault_of_line words) ≡ true =
      subst (λ (b : Bool). asks_by_flag (fault_of (cond b disk_app host_app) (cond b (drop 1 words) words)) ≡ true) (sym is) asks in
      asked_in (is_help_line words) (asks_by_flag (fault_of_line words)) (page_of_naming (named_by words)) (page_of_line words) no_help flag

  -- and back
  pub flag_asks : (p : Page) → asked_page words ≡ Some p → (asks_by_flag (fault_of_line words) ≡ true) × (p ≡ page_of_line words)
  flag_asks p asked = asks_in (is_help_line words) (asks_by_flag (fault_of_line words)) (page_of_naming (named_by words)) (page_of_line words) p no_help asked

  faultless_line : (is_disk : Bool) → names_disk words ≡ is_disk → fault_of (cond is_disk disk_app host_app) (cond is_disk (drop 1 words) words) ≡ [] → fault_of_line words ≡ []
  faultless_line is_disk is e = subst (λ (b : Bool). fault_of (cond b disk_app host_app) (cond b (drop 1 words) words) ≡ []) (sym is) e

  page_task : (is_disk : Bool) (q : Page) → names_disk words ≡ is_disk → asks_by_flag (fault_of (cond is_disk disk_app host_app) (cond is_disk (drop 1 words) words)) ≡ true
      → q ≡ page_of_line words → asked_page words ≡ Some q
  page_task is_disk q is asks same = asked_of_line is_disk is asks ∙ ap (λ (p : Page). Some p) (sym same)

  -- the task of the program's command is the line's
  pub host_line : names_disk words ≡ false → (t : Task) → IsHostTask (page_of_line words) words t → IsTaskOf words t × IsFaultless words t
  host_line is (Com task) h = ((is, h.1), (no_help, faultless_line false is h.0))
  host_line is (Boot task) h = ((is, h.1), (no_help, faultless_line false is h.0))
  host_line is (Asm source out list) h = ((is, h.1), (no_help, faultless_line false is h.0))
  host_line is (Listing file cpu) h = ((is, h.1), (no_help, faultless_line false is h.0))
  host_line is (Check image) h = ((is, h.1), (no_help, faultless_line false is h.0))
  host_line is (Run task) h = ((is, h.1), (no_help, faultless_line false is h.0))
  host_line is (Debug task) h = ((is, h.1), (no_help, faultless_line false is h.0))
  host_line is (Serve task) h = ((is, h.1), (no_help, faultless_line false is h.0))
  host_line is (Saved file) h = ((is, h.1), (no_help, faultless_line false is h.0))
  host_line is (Disk task) h = absurd (no_entries (subcommand_of host_app words) h.1)
  host_line is (Help q) h = (page_task false q is h.0 h.1, tt)

  -- and so is that of `disk`
  pub disk_line : names_disk words ≡ true → (t : Task) → IsDiskTask (page_of_line words) (drop 1 words) t → IsTaskOf words t × IsFaultless words t
  disk_line is (Com task) h = absurd h
  disk_line is (Boot task) h = absurd h
  disk_line is (Asm source out list) h = absurd h
  disk_line is (Listing file cpu) h = absurd h
  disk_line is (Check image) h = absurd h
  disk_line is (Run task) h = absurd h
  disk_line is (Debug task) h = absurd h
  disk_line is (Serve task) h = absurd h
  disk_line is (Saved file) h = absurd h
  disk_line is (Disk task) h = ((is, h.1), (no_help, faultless_line true is h.0))
  disk_line is (Help q) h = (page_task true q is h.0 h.1, tt)

  pub host_result : names_disk words ≡ false → (p : Page) → p ≡ page_of_line words → (r : Result Task UsageError) → IfOk r (IsHostTask p words)
      → IfOk r (λ t. IsTaskOf words t × IsFaultless words t)
  host_result is p same (Err e) h = tt
  host_result is p same (Ok t) h = host_line is t (subst (λ (q : Page). IsHostTask q words t) same h)

  pub disk_result : names_disk words ≡ true → (p : Page) → p ≡ page_of_line words → (r : Result Task UsageError) → IfOk r (IsDiskTask p (drop 1 words))
      → IfOk r (λ t. IsTaskOf words t × IsFaultless words t)
  disk_result is p same (Err e) h = tt
  disk_result is p same (Ok t) h = disk_line is t (subst (λ (q : Page). IsDiskTask q (drop 1 words) t) same h)

  -- the page that the line asks for is printed
  pub asked_result : (is_disk : Bool) → names_disk words ≡ is_disk → (own : Page) → own ≡ page_of_line words → (r : Result Task UsageError)
      → (asks_by_flag (fault_of (cond is_disk disk_app host_app) (cond is_disk (drop 1 words) words)) ≡ true → IsPageOrMemory own r)
      → (p : Page) → asked_page words ≡ Some p → IsPageOrMemory p r
  asked_result is_disk is own same r prints p asked =
      let found = flag_asks p asked in
      subst (λ (q : Page). IsPageOrMemory q r) (same ∙ sym found.1)
      (prints (subst (λ (b : Bool). asks_by_flag (fault_of (cond b disk_app host_app) (cond b (drop 1 words) words)) ≡ true) is found.0))

-- a task with a fault of its own is no page
pub faultless_of : (words : List Text) (t : Task) (f : UsageFault) → task_fault t ≡ Some f → IsFaultless words t → fault_of_line words ≡ []
faultless_of words (Com task) f is h = h.1
faultless_of words (Boot task) f is h = h.1
faultless_of words (Asm source out list) f is h = h.1
faultless_of words (Listing file cpu) f is h = h.1
faultless_of words (Check image) f is h = h.1
faultless_of words (Run task) f is h = h.1
faultless_of words (Debug task) f is h = h.1
faultless_of words (Serve task) f is h = h.1
faultless_of words (Saved file) f is h = h.1
faultless_of words (Disk task) f is h = h.1
faultless_of words (Help q) f is h = absurd (let bad : ⊥ = cc in bad)

pub no_page : (t : Task) (f : UsageFault) (p : Page) → task_fault t ≡ Some f → t ≡ Help p → ⊥
no_page t f p is page =
    let bad : None ≡ Some f = sym (ap task_fault page) ∙ is in
    cc

pub other_refused : (words : List Text) → is_help_line words ≡ false → (e : UsageError)
    → IsRefusalBy (names_disk words) (page_of_line words) (app_of_line words) (words_of_line words) e ⊎ ((fault_of_line words ≡ []) × IsTaskRefusal words e)
    → IsRefusalOf words e
other_refused words other e refusal = subst (λ (b : Bool). IsRefusalIn b words e) (sym other) refusal

-- ---- a question behind `help`

module _ (words : List Text) (help : is_help_line words ≡ true) where
  asked_by_names : asked_page words ≡ page_of_naming (named_by words)
  asked_by_names = go (is_help_line words) help
    where
      go : (b : Bool) → b ≡ true → cond b (page_of_naming (named_by words)) (cond (asks_by_flag (fault_of_line words)) (Some (page_of_line words)) None) ≡ page_of_naming (named_by words)
      go true e = refl
      go false e = absurd (true≢false (sym e))

  named_task : (t : Task) (named : Option Page) → page_of_naming (named_by words) ≡ named → IsSomeAnd named (λ p. t ≡ Help p)
      → IsTaskOf words t × (task_fault t ≡ None) × HasUsers t × IsFaultless words t
  named_task t None e h = absurd h
  named_task t (Some p) e h = subst (λ (x : Task). IsTaskOf words x × (task_fault x ≡ None) × HasUsers x × IsFaultless words x) (sym h) (asked_by_names ∙ e, refl, tt, tt)

  pub help_task_of : (r : Result Task UsageError) → IsHelpAnswer (named_by words) r → IfOk r (λ t. IsTaskOf words t × (task_fault t ≡ None))
  help_task_of (Err e) is = tt
  help_task_of (Ok t) is = let all = named_task t (page_of_naming (named_by words)) refl is in (all.0, all.1)

  pub help_users : (r : Result Task UsageError) → IsHelpAnswer (named_by words) r → IfOk r HasUsers
  help_users (Err e) is = tt
  help_users (Ok t) is = (named_task t (page_of_naming (named_by words)) refl is).2

  pub help_faultless : (r : Result Task UsageError) → IsHelpAnswer (named_by words) r → IfOk r (IsFaultless words)
  help_faultless (Err e) is = tt
  help_faultless (Ok t) is = (named_task t (page_of_naming (named_by words)) refl is).3

  pub help_asked : (p : Page) → asked_page words ≡ Some p → (r : Result Task UsageError) → IsHelpAnswer (named_by words) r → IsPageOrMemory p r
  help_asked p asked r is = go (named_by words) (sym asked_by_names ∙ asked) r is
    where
      go : (naming : Naming) → page_of_naming naming ≡ Some p → (x : Result Task UsageError) → IsHelpAnswer naming x → IsPageOrMemory p x
      go (known_page q) e (Ok t) h = let same : q ≡ p = cc in h ∙ ap (λ (z : Page). Help z) same
      go (known_page q) e (Err (Usage f)) h = absurd h
      go (known_page q) e (Err OutOfMemory) h = absurd h
      go (unknown_name word q) e x h = absurd (let bad : ⊥ = cc in bad)
      go (extra_name word q) e x h = absurd (let bad : ⊥ = cc in bad)

  pub help_refused : (r : Result Task UsageError) → IsHelpAnswer (named_by words) r → IfErr r (IsRefusalOf words)
  help_refused (Ok t) is = tt
  help_refused (Err e) is = subst (λ (b : Bool). IsRefusalIn b words e) (sym help) is

-- ---- clap's rules take no question behind `help`, as none of their commands has that name

both_no : (e : Bool) → (e && false) ≡ true → ⊥
both_no true h = true≢false (sym h)
both_no false h = true≢false (sym h)

host_takes_none : (name : Text) (rest : List Text) → takes host_app (name ∷ codes "help" ∷ rest) ≡ true → ⊥
unfolding clap_on_literals
host_takes_none name rest h = both_no (entered_passes (built host_app) (walk (built host_app).top.rules (names_of (built host_app)) nothing_held
    (argument_words host_app (name ∷ codes "help" ∷ rest))).stopped) h

disk_takes_none : (name : Text) (rest : List Text) → takes disk_app (name ∷ codes "help" ∷ rest) ≡ true → ⊥
unfolding clap_on_literals
disk_takes_none name rest h = both_no (entered_passes (built disk_app) (walk (built disk_app).top.rules (names_of (built disk_app)) nothing_held
    (argument_words disk_app (name ∷ codes "help" ∷ rest))).stopped) h

pub help_untaken : (words : List Text) → is_help_line words ≡ true → takes (app_of_line words) (words_of_line words) ≡ true → ⊥
help_untaken [] e h = true≢false (sym e)
help_untaken (name ∷ []) e h = true≢false (sym e)
help_untaken (name ∷ word ∷ rest) e h = go (bytes_eq word (codes "help")) refl (bytes_eq word (codes "disk")) refl rest e h
  where
    go : (b : Bool) → bytes_eq word (codes "help") ≡ b → (d : Bool) → bytes_eq word (codes "disk") ≡ d → (more : List Text) → (b || (d && begins_with_help more)) ≡ true
        → takes (cond d disk_app host_app) (cond d (word ∷ more) (name ∷ word ∷ more)) ≡ true → ⊥
    go true is true also more f t = true≢false (sym (subst (λ (w : Text). bytes_eq w (codes "disk") ≡ true) (same_bytes word _ is) also))
    go true is false also more f t = host_takes_none name more (subst (λ (w : Text). takes host_app (name ∷ w ∷ more) ≡ true) (same_bytes word _ is) t)
    go false is true also [] f t = true≢false (sym f)
    go false is true also (first ∷ more) f t = disk_takes_none word more (subst (λ (w : Text). takes disk_app (word ∷ w ∷ more) ≡ true) (same_bytes first _ f) t)
    go false is false also more f t = true≢false (sym f)
