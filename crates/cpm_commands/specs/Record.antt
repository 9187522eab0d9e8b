-- How a record of typed keys ends, or is refused. All of it is own.
use Rattle.std.specs.Prelude.{⊤, ◌≡◌, ℕ, List, Option}
use Rattle.cpm_host.specs.declared.error.HostError.{HostError}
use Rattle.cpm_host.specs.declared.error.HostError.TheVariants.{OutOfMemory, RecordUnwritable}

-- it can't be written, or can't have its name; or memory was refused
abbrev pub IsUnrecorded : HostError → Type 0
IsUnrecorded (RecordUnwritable reason) = ⊤
IsUnrecorded OutOfMemory = ⊤
IsUnrecorded _ = ⊥

-- it was ended where it had got this, and what came of that
pub record HasEndedRecord {R : Type 0} (ends : R → Option HostError → R → Type 0) (contents : R → Option (List ℕ)) (record_now : Option (List ℕ)) (new : R)
    (fault : Option HostError) : Type 0 where
  pub typed : R
  pub got : contents typed ≡ record_now
  pub ended : ends typed fault new
