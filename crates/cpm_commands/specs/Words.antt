-- What the words of a command line come to: a task that is done, or an answer of the program itself. All of it is own.
use Rattle.std.specs.Prelude.{◌≡◌, ◌⊎◌, ℕ, Bool, true, false, if◌then◌else◌, is_some, List, [], ◌∷◌, Option, Some, None, Result, Ok, Err, MatchResult, codes}
use Rattle.std.specs.Io.KnownBytes.{Appends}
use Rattle.std.specs.Str.{bytes_eq}
use Rattle.cpm_command_line.specs.HelpWords.{asks_version}
use Rattle.cpm_command_line.specs.Line.{IsFaultless, IsTaskOf}
use Rattle.cpm_command_line.specs.Options.{task_fault}
use Rattle.cpm_command_line.specs.Refusals.{IsRefusalOf}
use Rattle.cpm_command_line.specs.declared.fault.UsageError.{UsageError}
use Rattle.cpm_command_line.specs.declared.task.Task.{Task}
use Rattle.cpm_command_line.specs.declared.task.Task.TheVariants.{Com, Boot, Run}
use Rattle.cpm_command_line.specs.declared.usage.TheConstants.{VERSION}
use Rattle.cpm_host.specs.Refusals.{code_of_command, host_error_of}
use Rattle.cpm_host.specs.declared.error.HostError.{HostError}
use Rattle.cpm_host.specs.declared.error.HostError.TheVariants.{OutOfMemory}
use Rattle.cpm_refusals.specs.Codes.{status_of_code}
use Rattle.cpm_commands.specs.Report.{IsUnprinted}

-- ---- the line

-- the words of a line, each by its bytes
abbrev pub LineWords : Type 0
LineWords = List (List ℕ)

-- what a line asks for, whose first word is the program's own name, but for the version: whether one types at the line behind; or the command of a line, at
-- which typing ends where a file of a name comes, if one is given
pub data LineOrder : Type 0 where
  TellTypedAt : (line : LineWords) → LineOrder
  DoCommand : (end : Option (List ℕ)) → (line : LineWords) → LineOrder

-- a line behind such words, with the program's name before it
abbrev pub line_behind : LineWords → LineWords
line_behind words = codes "cpmhost" ∷ words

-- `typed-from END` stands before a line; without a name it is a command's
abbrev pub typed_from_order : (words behind : LineWords) → LineOrder
typed_from_order words [] = DoCommand None words
typed_from_order words (end ∷ line) = DoCommand (Some end) (line_behind line)

-- `typed-at` stands before a line too
abbrev pub order_of_words : LineWords → LineOrder
order_of_words (name ∷ word ∷ rest) =
    if bytes_eq word (codes "typed-at") then TellTypedAt (line_behind rest)
    else (if bytes_eq word (codes "typed-from") then typed_from_order (name ∷ word ∷ rest) rest else DoCommand None (name ∷ word ∷ rest))
order_of_words words = DoCommand None words

-- ---- the task

-- the line names this task, nothing is wrong with it, and the options of the task go together
pub record NamesTask (line : LineWords) (task : Task) : Type 0 where
  pub named : IsTaskOf line task
  pub faultless : IsFaultless line task
  pub options : task_fault task ≡ None

-- the keys of standard input are typed at the task as they come
abbrev pub takes_typed_keys : Task → Bool
takes_typed_keys (Com task) = task.is_live
takes_typed_keys (Boot task) = task.is_live
takes_typed_keys (Run task) = is_some task.keyboard
takes_typed_keys _ = false

-- ---- what comes of it

-- the task that the line names was done, with its status, or was refused; or the line names none, and nothing was done
abbrev pub IsCommandDone : {D : Type 0} → (D → Option (List ℕ) → Task → Result ℕ HostError → D → Type 0) → Option (List ℕ) → (line : LineWords) → (old new : D)
    → Result ℕ HostError → Type 0
IsCommandDone {D} does_task end line old new done =
    ((task : Task) × NamesTask line task × does_task old end task done new)
    ⊎ ((e : UsageError) × IsRefusalOf line e × (done ≡ Err (host_error_of e)) × (new ≡ old))

-- 0 where one types at the task that the line names, and 1 where one doesn't, or where it names none
abbrev pub IsTypedAtTold : (line : LineWords) → (status : ℕ) → Type 0
IsTypedAtTold line status =
    ((task : Task) × NamesTask line task × (status ≡ (if takes_typed_keys task then 0 else 1)))
    ⊎ ((e : UsageError) × IsRefusalOf line e × (status ≡ 1))

-- what was asked for was done, and only a command does a task; or memory was refused before
abbrev pub IsOrderDone : {D : Type 0} → (D → Option (List ℕ) → Task → Result ℕ HostError → D → Type 0) → LineOrder → (old new : D) → Result ℕ HostError → Type 0
IsOrderDone {D} does_task (TellTypedAt line) old new done = (new ≡ old) × MatchResult done (IsTypedAtTold line) (λ e. e ≡ OutOfMemory)
IsOrderDone {D} does_task (DoCommand end line) old new done =
    IsCommandDone does_task end line old new done ⊎ ((done ≡ Err OutOfMemory) × (new ≡ old))

-- the version was printed, or can't be
abbrev pub IsVersionTold : {W : Type 0} → (contents : W → Option (List ℕ)) → (out out_now : W) → Result ℕ HostError → Type 0
IsVersionTold {W} contents out out_now done =
    MatchResult done (λ status. (status ≡ 0) × Appends (contents out) (contents out_now) VERSION.now) IsUnprinted

-- where the line asks for the version, that is told; else nothing is printed here, and the rest is done
abbrev pub IsAnswered : {D W : Type 0} → (D → Option (List ℕ) → Task → Result ℕ HostError → D → Type 0) → (contents : W → Option (List ℕ)) → (version : Bool)
    → LineOrder → (old new : D) → (out out_now : W) → Result ℕ HostError → Type 0
IsAnswered {D} {W} does_task contents true order old new out out_now done = (new ≡ old) × IsVersionTold contents out out_now done
IsAnswered {D} {W} does_task contents false order old new out out_now done = (out_now ≡ out) × IsOrderDone does_task order old new done

-- what the line asks for was done
abbrev pub IsLineDone : {D W : Type 0} → (D → Option (List ℕ) → Task → Result ℕ HostError → D → Type 0) → (contents : W → Option (List ℕ)) → (line : LineWords)
    → (old new : D) → (out out_now : W) → Result ℕ HostError → Type 0
IsLineDone {D} {W} does_task contents line old new out out_now done =
    IsAnswered does_task contents (asks_version line) (order_of_words line) old new out out_now done

-- ---- how the program ends

-- the exit status: the task's own, or that of the refusal's code
abbrev pub outcome_status : Result ℕ HostError → ℕ
outcome_status (Ok status) = status
outcome_status (Err e) = status_of_code (code_of_command e)
