use Rattle.std.proofs.Common.{◌≡◌, length, true}
use Rattle.std.specs.Prelude.{is_some}
use Rattle.cpm_script.specs.KeyText.{keys_of}
use Rattle.cpm_debug.specs.Dialog.{keys_in_text, press}
use Rattle.cpm_debug.proofs.press.press.Given as goal

-- the rest stands for keys, and pressing them now does what pressing all of them did at the start
abbrev pub invariant-loop-key : goal.invariant-loop-key
invariant-loop-key l = record {
  keys : is_some (keys_of l.rest) ≡ true;
  same : press (keys_in_text l.rest) l.machine ≡ press (keys_in_text l.text) l.fn.machine;
}

abbrev pub decreases-loop-key : goal.decreases-loop-key
decreases-loop-key l = length l.rest
