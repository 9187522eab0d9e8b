-- What a call on a file comes to before anything is written: the entries that it is going to write, and where it stands.
use Rattle.std.specs.Prelude.{ℕ, ◌≤◌, Bool, ◌||◌, ◌==◌, List, [], ◌∷◌, ◌++◌, Option, Some, None, Result, Ok, Err, IfSome, slice_set}
use Rattle.cpm_geom.specs.declared.dpb.Dpb.{Dpb}
use Rattle.cpm_volume.specs.declared.extent.Extent.{Extent}
use Rattle.cpm_volume.specs.declared.extent.Entry.{Entry}
use Rattle.cpm_volume.specs.declared.answer.Answer.{Answer}
use Rattle.cpm_volume.specs.Files.{Volume, entry_put}
use Rattle.cpm_volume.specs.Operations.{Close, refused, close_fault, closed, Place, stopped, standing, Target, Purpose, reading, writing}
use Rattle.cpm_drive.specs.declared.change.Change.{Change}
use Rattle.cpm_drive.specs.declared.closing.CloseJudgement.{CloseJudgement}
use Rattle.cpm_drive.specs.declared.closing.CloseJudgement.TheVariants.{Refused, Fault, Closed}
use Rattle.cpm_drive.specs.declared.place.Arrival.{Arrival}
use Rattle.cpm_drive.specs.declared.place.SoughtRecord.{SoughtRecord}
use Rattle.cpm_drive.specs.declared.place.Access.{Access}
use Rattle.cpm_drive.specs.declared.place.Access.TheVariants.{Read, Write}

-- the entries once one is written
abbrev pub entries_after : List Entry → Option Change → List Entry
entries_after es None = es
entries_after es (Some c) = slice_set es c.index c.entry

-- a volume once an entry is written
unfoldable pub with_change : Volume → Option Change → Volume
with_change v None = v
with_change v (Some c) =
    record v { entries = slice_set v.entries c.index c.entry; written = v.written ++ entry_put c.index c.entry ∷ [] }

-- the entry is one of the directory's
abbrev pub IsEntryWithin : Dpb → Option Change → Type 0
IsEntryWithin d change = IfSome change (λ c. c.index ≤ d.last_entry)

-- what a close comes to
abbrev pub close_of : List Entry → CloseJudgement → Close
close_of es Refused = refused
close_of es (Fault which) = close_fault which
close_of es (Closed change extent) = closed change.index (slice_set es change.index change.entry) extent

-- the entry that is to be written then
abbrev pub change_of : CloseJudgement → Option Change
change_of Refused = None
change_of (Fault which) = None
change_of (Closed change extent) = Some change

-- no place has two different numbers, for two of them
abbrev pub agreeing : ℕ × ℕ → Bool
agreeing p = (p.0 == 0) || ((p.1 == 0) || (p.0 == p.1))

-- the extent that is made, and the entry for it
abbrev pub make_of : List Entry → Option Change → Option (List Entry × Extent)
make_of es None = None
make_of es (Some c) = Some (slice_set es c.index c.entry, c.entry.extent)

-- what a call does at its record
abbrev pub purpose_of : Access → Purpose
purpose_of Read = reading
purpose_of Write = writing

-- an extent that is sought
abbrev pub target_by : SoughtRecord → Target
target_by s = record { number = s.number; current = s.current; unclosed = s.unclosed; missing = s.missing }

abbrev pub place_by : Volume → Extent → Result ℕ Answer → Place
place_by v x (Ok here) = standing v x here
place_by v x (Err answer) = stopped answer v x

-- where a call stands when it comes to its record
abbrev pub place_of_arrival : Volume → Arrival → Place
place_of_arrival v a = place_by (with_change (with_change v a.closed) a.made) a.extent a.current

-- a call that stands in the extent that was sought
abbrev pub arrived : SoughtRecord → Extent → Change → Option Change → Arrival
arrived s x change made =
    record { current = Ok s.current; extent = x; closed = Some change; made = made }

-- a call that stands in the extent that was open, or stops there
abbrev pub standing_in : Extent → ℕ → Arrival
standing_in x current = record { current = Ok current; extent = x; closed = None; made = None }

abbrev pub stopped_in : Extent → Answer → Arrival
stopped_in x answer = record { current = Err answer; extent = x; closed = None; made = None }

-- the entries that it writes are the directory's
pub record IsArrival (d : Dpb) (a : Arrival) : Type 0 where
  pub closed : IsEntryWithin d a.closed
  pub made : IsEntryWithin d a.made
