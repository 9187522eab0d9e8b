use Rattle.cpm_console.proofs.Erasing.{erased_as_typed}
use Rattle.cpm_console.proofs.laws.erased_as_typed.Goals as goal

pub returns : goal.returns
returns c = erased_as_typed
