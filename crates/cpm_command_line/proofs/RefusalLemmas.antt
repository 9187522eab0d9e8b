-- What clap's error comes to, by the words that made it.
use Rattle.std.proofs.Common.{◌≡◌, ◌∙◌, ◌⊎◌, ⊎_elim, ap, sym, subst, refl, Bool, true, true≢false, List, [], ◌∷◌, Result, Ok, Err, IfErr, IfOk}
use Rattle.clap.specs.Words.{App, IsAmong, Kinds, Text, fault_of}
use Rattle.clap.specs.declared.error.kind.ErrorKind.{ErrorKind}
use Rattle.clap.specs.declared.error.kind.ErrorKind.TheVariants as kind
use Rattle.cpm_command_line.specs.Line.{IsPageOrMemory, asks_by_flag}
use Rattle.cpm_command_line.specs.Refusals.{IsAnswer, IsRefusalBy}
use Rattle.cpm_command_line.specs.declared.fault.UsageError.{UsageError}
use Rattle.cpm_command_line.specs.declared.fault.UsageError.TheVariants.{Usage, OutOfMemory}
use Rattle.cpm_command_line.specs.declared.task.Task.{Task}
use Rattle.cpm_command_line.specs.declared.task.Task.TheVariants.{Help}
use Rattle.cpm_command_line.specs.declared.usage.Page.{Page}
use Rattle.cpm_command_line.proofs.HelpKinds.{HasHelpAlone}

-- a flag that asks is all that clap finds
pub asked_alone : (ks : Kinds) → asks_by_flag ks ≡ true → ks ≡ kind.DisplayHelp ∷ []
asked_alone [] e = absurd (true≢false (sym e))
asked_alone (kind.DisplayHelp ∷ []) e = refl
asked_alone (kind.DisplayHelp ∷ k ∷ ks) e = absurd (true≢false (sym e))
asked_alone (kind.InvalidValue ∷ ks) e = absurd (true≢false (sym e))
asked_alone (kind.UnknownArgument ∷ ks) e = absurd (true≢false (sym e))
asked_alone (kind.InvalidSubcommand ∷ ks) e = absurd (true≢false (sym e))
asked_alone (kind.NoEquals ∷ ks) e = absurd (true≢false (sym e))
asked_alone (kind.ValueValidation ∷ ks) e = absurd (true≢false (sym e))
asked_alone (kind.TooManyValues ∷ ks) e = absurd (true≢false (sym e))
asked_alone (kind.TooFewValues ∷ ks) e = absurd (true≢false (sym e))
asked_alone (kind.WrongNumberOfValues ∷ ks) e = absurd (true≢false (sym e))
asked_alone (kind.ArgumentConflict ∷ ks) e = absurd (true≢false (sym e))
asked_alone (kind.MissingRequiredArgument ∷ ks) e = absurd (true≢false (sym e))
asked_alone (kind.MissingSubcommand ∷ ks) e = absurd (true≢false (sym e))
asked_alone (kind.DisplayHelpOnMissingArgumentOrSubcommand ∷ ks) e = absurd (true≢false (sym e))
asked_alone (kind.DisplayVersion ∷ ks) e = absurd (true≢false (sym e))
asked_alone (kind.Io ∷ ks) e = absurd (true≢false (sym e))
asked_alone (kind.Format ∷ ks) e = absurd (true≢false (sym e))
asked_alone (kind.OutOfMemory ∷ ks) e = absurd (true≢false (sym e))

-- and where nothing is wrong, none asks
pub unasked : (ks : Kinds) → ks ≡ [] → asks_by_flag ks ≡ true → ⊥
unasked ks none asks = true≢false (sym asks ∙ ap asks_by_flag none)

module _ (is_disk : Bool) (p : Page) (app : App) (words : List Text) (k : ErrorKind) (fails : (k ≡ kind.OutOfMemory) ⊎ IsAmong k (fault_of app words)) where
  -- a page is printed where a flag asks for it
  pub answer_page : HasHelpAlone (fault_of app words) → (r : Result Task UsageError) → IsAnswer is_disk p k r
      → IfOk r (λ t. (t ≡ Help p) × (asks_by_flag (fault_of app words) ≡ true))
  answer_page alone (Err e) is = tt
  answer_page alone (Ok t) is = ⊎_elim
      (λ (h : k ≡ kind.OutOfMemory). let bad : kind.DisplayHelp ≡ kind.OutOfMemory = sym is.1 ∙ h in absurd cc)
      (λ among. (is.0, ap asks_by_flag (alone (subst (λ (x : ErrorKind). IsAmong x (fault_of app words)) is.1 among)))) fails

  -- and wherever one does, but for memory
  pub answer_asked : asks_by_flag (fault_of app words) ≡ true → (r : Result Task UsageError) → IsAnswer is_disk p k r → IsPageOrMemory p r
  answer_asked asks (Ok t) is = is.0
  answer_asked asks (Err e) is = ⊎_elim (λ h. is.2 h)
      (λ among. ⊎_elim (λ h. is.1 h) (λ (none : ⊥). absurd none) (subst (IsAmong k) (asked_alone (fault_of app words) asks) among)) fails

  pub answer_refused : (r : Result Task UsageError) → IsAnswer is_disk p k r → IfErr r (IsRefusalBy is_disk p app words)
  answer_refused (Ok t) is = tt
  answer_refused (Err OutOfMemory) is = tt
  answer_refused (Err (Usage f)) is = ⊎_elim (λ h. let bad = is.2 h in absurd cc) (λ among. (k, is.0.0, is.0.1, is.0.2, among)) fails

pub answer_taken : (is_disk : Bool) (p : Page) (k : ErrorKind) → k ≡ kind.OutOfMemory → (r : Result Task UsageError) → IsAnswer is_disk p k r
    → IfErr r (λ e. e ≡ OutOfMemory)
answer_taken is_disk p k memory (Ok t) is = tt
answer_taken is_disk p k memory (Err e) is = is.2 memory
