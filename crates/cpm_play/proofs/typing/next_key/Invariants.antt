use Rattle.std.proofs.Common.{[]}
use Rattle.cpm_play.specs.Typing.{HasReadKeys}
use Rattle.cpm_play.proofs.typing.next_key.Given as goal

abbrev pub invariant-loop : goal.invariant-loop
invariant-loop g l = HasReadKeys (g.I.Read.remaining l.fn.input) (g.I.Read.remaining l.input) []
