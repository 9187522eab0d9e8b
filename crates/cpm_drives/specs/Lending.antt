-- What the place of a drive ends as, where a `&mut` to the drive is lent.
use Rattle.std.specs.Prelude.{Option, Some}
use Rattle.std.specs.Borrow.{Lends, Fml, MutBor}
use Rattle.std.specs.contracts.prelude.Option.{the_row as option_row}
use Rattle.cpm_drive.specs.declared.drive.Drive.{Drive}
use Rattle.cpm_drive.specs.contracts.drive.Drive.{the_row}

abbrev pub LendsDrive : MutBor (Option Drive) → MutBor Drive → Fml
LendsDrive place r = Lends (option_row the_row) the_row place r (λ d. Some d)
