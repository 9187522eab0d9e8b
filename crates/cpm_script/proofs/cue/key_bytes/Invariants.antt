use Rattle.std.proofs.Common.{◌≡◌, ◌++◌, length, option_map}
use Rattle.cpm_script.specs.KeyText.{keys_of}
use Rattle.cpm_script.proofs.cue.key_bytes.Given as goal

-- the bytes so far with those of the rest are those of the text
abbrev pub invariant-loop-byte : goal.invariant-loop-byte
invariant-loop-byte l = option_map (λ ks. l.bytes.items ++ ks) (keys_of l.rest) ≡ keys_of l.text

abbrev pub decreases-loop-byte : goal.decreases-loop-byte
decreases-loop-byte l = length l.rest
