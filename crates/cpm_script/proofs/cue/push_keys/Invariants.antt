use Rattle.std.proofs.Common.{true, ◌≡◌, ◌≤◌, ◌+◌, ◌++◌, length, map, option_map}
use Rattle.std.specs.Prelude.{IfSome, is_some}
use Rattle.cpm_script.specs.KeyText.{keys_of}
use Rattle.cpm_script.specs.Cues.{IsReading, all_said, key_cue}
use Rattle.cpm_script.proofs.cue.push_keys.Given as goal

-- the cues so far with the keys of the rest are those at the start with the keys of the text
abbrev pub invariant-loop-byte : goal.invariant-loop-byte
invariant-loop-byte l =
    record {
      same : option_map (λ ks. all_said l.reading.cues ++ map (key_cue l.at) ks) (keys_of l.rest) ≡ option_map (λ ks. all_said l.fn.reading.cues ++ map (key_cue l.at) ks) (keys_of l.text);
      some : is_some (keys_of l.rest) ≡ true;
      reading : IsReading l.reading;
      room : IfSome (keys_of l.rest) (λ ks. l.reading.keys + length ks ≤ 4096);
    }

abbrev pub decreases-loop-byte : goal.decreases-loop-byte
decreases-loop-byte l = length l.rest
