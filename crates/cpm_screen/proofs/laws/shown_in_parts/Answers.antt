use Rattle.std.proofs.lemmas.Grind.{fold-append}
use Rattle.cpm_screen.specs.Shown.{byte_shown}
use Rattle.cpm_screen.proofs.laws.shown_in_parts.Goals as goal

pub returns : goal.returns
returns c = λ first second s. fold-append byte_shown s first second
