use Rattle.std.proofs.Common.{set, true, ap, sym, ◌∙◌, arith}
use Rattle.std.proofs.lemmas.List.{set_past}
use Rattle.cpm_directory.specs.Bits.{tests_of}
use Rattle.cpm_directory.proofs.BitsLemmas.{tests_length, inserted}
use Rattle.cpm_directory.proofs.bits.Bits.insert.Goals as goal

pub returns-then-number : goal.returns-then-number
returns-then-number c = inserted c.self.inside.rows c.args.number c.self.told (omega (arith, c.if-number.true)) ∙ ap (λ tests. set tests c.args.number true) c.self.view_is

pub returns-else-number : goal.returns-else-number
returns-else-number c = rw (← c.self.view_is) (sym (set_past (tests_of c.self.inside.rows) c.args.number true (omega (arith, tests_length c.self.inside.rows, c.if-number.false))))
