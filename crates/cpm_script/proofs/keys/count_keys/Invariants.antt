use Rattle.std.proofs.Common.{◌≡◌, ◌+◌, ◌≤◌, length, option_map}
use Rattle.cpm_script.specs.KeyText.{keys_of}
use Rattle.cpm_script.proofs.keys.count_keys.Given as goal

abbrev pub invariant-loop-rest : goal.invariant-loop-rest
invariant-loop-rest l =
    record {
      same : option_map (λ ks. l.count + length ks) (keys_of l.rest) ≡ option_map length (keys_of l.text);
      fits : l.count + length l.rest ≤ length l.text;
    }

abbrev pub decreases-loop-rest : goal.decreases-loop-rest
decreases-loop-rest l = length l.rest
