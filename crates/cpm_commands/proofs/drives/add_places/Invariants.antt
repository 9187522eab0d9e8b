use Rattle.std.proofs.Common.{◌≡◌, ◌++◌, drop}
use Rattle.cpm_commands.specs.Drives.{inputs_of_places}
use Rattle.cpm_commands.specs.Plan.{named_files}
use Rattle.cpm_commands.proofs.drives.add_places.Given as goal

abbrev pub invariant-loop-place : goal.invariant-loop-place
invariant-loop-place l =
    named_files l.inputs.items ++ inputs_of_places (drop l.place-index l.places) ≡ named_files l.fn.inputs.items ++ inputs_of_places l.fn.places
