-- What is printed of a run. All of it is own.
use Rattle.std.specs.Prelude.{⊤, ◌⊎◌, ℕ, Option, Bool, true, false, List, [], ◌∷◌, ◌++◌, Some, codes, decimal, flat_map}
use Rattle.std.specs.Io.KnownBytes.{Appends}
use Rattle.cpm_host.specs.declared.error.HostError.{HostError}
use Rattle.cpm_host.specs.declared.error.HostError.TheVariants.{OutOfMemory, OutputUnwritable}
use Rattle.cpm_play.specs.declared.live.PlayEnd.{PlayEnd}
use Rattle.cpm_play.specs.declared.live.PlayEnd.TheVariants.{Typing}
use Rattle.cpm_play.specs.declared.typist.TypingEnd.TheVariants.{Quit, InputEnd, Signal}
use Rattle.cpm_run.specs.Ending.{end_word}
use Rattle.cpm_run.specs.Run.{ReportEntry, report_view}
use Rattle.cpm_run.specs.declared.report.SessionReport.{SessionReport}
use Rattle.cpm_run.specs.declared.report.SessionStop.{SessionStop}

-- it waits for a key, and none comes
abbrev pub waiting_word : Bool → List ℕ
waiting_word false = []
waiting_word true = codes " waiting"

-- the word for why no more was typed, where that ended it
abbrev pub typing_word : Option PlayEnd → List ℕ
typing_word (Some (Typing Quit)) = codes " quit"
typing_word (Some (Typing InputEnd)) = codes " input-end"
typing_word (Some (Typing Signal)) = codes " signal"
typing_word end = []

-- the words for how a session stopped
abbrev pub stop_words : SessionStop → List ℕ
stop_words stop = waiting_word stop.is_idle ++ typing_word stop.typing

-- the line of a session: its name, its end, its steps, the bytes of its console, whether it stopped where it waits, and why no more was typed at it
abbrev pub report_line : ReportEntry → SessionStop → List ℕ
report_line r stop =
    r.name ++ codes " " ++ end_word r.ending.ended ++ codes " " ++ decimal r.ending.count ++ codes " " ++ decimal r.bytes ++ stop_words stop ++ codes "\n"

-- a line for each session, in their order
abbrev pub report_text : List (SessionReport × SessionStop) → List ℕ
report_text sessions = flat_map (λ s. report_line (report_view s.0) s.1) sessions

-- the report was printed, from the beginning of a line on
abbrev pub IsReported : (before printed : Option (List ℕ)) → List ℕ → Type 0
IsReported before printed text = Appends before printed text ⊎ Appends before printed (0x0A ∷ text)

-- it can't be printed, or memory was refused
abbrev pub IsUnprinted : HostError → Type 0
IsUnprinted (OutputUnwritable reason) = ⊤
IsUnprinted OutOfMemory = ⊤
IsUnprinted _ = ⊥
