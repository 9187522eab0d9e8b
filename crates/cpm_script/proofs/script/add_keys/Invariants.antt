use Rattle.std.proofs.Common.{◌≡◌, ◌≤◌, ◌++◌, length, option_map}
use Rattle.std.specs.Prelude.{IfSome}
use Rattle.cpm_script.specs.KeyText.{keys_of}
use Rattle.cpm_script.specs.Script.{keys_at}
use Rattle.cpm_script.proofs.script.add_keys.Given as goal

-- the keys so far with those of the rest are the keys at the start with those of the text
abbrev pub invariant-loop-rest : goal.invariant-loop-rest
invariant-loop-rest l =
    record {
      same : option_map (λ ks. l.keys.items ++ keys_at l.count ks) (keys_of l.rest) ≡ option_map (λ ks. l.fn.keys.items ++ keys_at l.count ks) (keys_of l.text);
      room : IfSome l.limit (λ most. length l.keys.items ≤ most);
    }

abbrev pub decreases-loop-rest : goal.decreases-loop-rest
decreases-loop-rest l = length l.rest
