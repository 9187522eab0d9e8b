use Rattle.std.proofs.Common.{◌≡◌, ◌≤◌, [], drop, length, map}
use Rattle.cpm_host.specs.Tails.{tail_from}
use Rattle.cpm_host.proofs.tail.tail_of.Given as goal

abbrev pub invariant-loop-word : goal.invariant-loop-word
invariant-loop-word l = record {
  rest : tail_from l.text.items (map (λ w. w.now) (drop l.word-index l.words)) ≡ tail_from [] (map (λ w. w.now) l.fn.words);
  short : length l.text.items ≤ 126;
}
