-- Laws of savings. (own)
use Rattle.std.specs.Prelude.{◌≡◌, ℕ, List, Ok}
use Rattle.cpm_saved.specs.Layout.{AreBelow, IsOf}
use Rattle.cpm_machine.specs.Runner.{IsRunnerSound}
use Rattle.cpm_machine.specs.Saving.{IsSavable, Saving, restored, bytes_of_saving, saving_fields, saving_layout}

-- what is restored of the saving of a machine is the machine
abbrev pub SavedIsRestored : Type 0
SavedIsRestored = (x : Saving) → IsSavable x.state → IsRunnerSound x.state → IsOf saving_layout (saving_fields x) → restored (bytes_of_saving x) ≡ Ok x

-- bytes of which a machine is restored are just its saving
abbrev pub RestoredIsSaved : Type 0
RestoredIsSaved = (bytes : List ℕ) (x : Saving) → AreBelow 256 bytes → restored bytes ≡ Ok x → bytes_of_saving x ≡ bytes
