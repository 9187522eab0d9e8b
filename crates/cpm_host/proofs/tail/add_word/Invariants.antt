use Rattle.std.proofs.Common.{◌≡◌, ◌++◌, drop, map}
use Rattle.cpm_ccp.specs.Capitals.{capital}
use Rattle.cpm_host.specs.Tails.{tail_with_word}
use Rattle.cpm_host.proofs.tail.add_word.Given as goal

abbrev pub invariant-loop-c : goal.invariant-loop-c
invariant-loop-c l = l.text.items ++ map capital (drop l.c-index l.c-items) ≡ tail_with_word l.fn.text.items l.fn.word
