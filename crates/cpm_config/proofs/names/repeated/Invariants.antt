use Rattle.std.proofs.Common.{◌≡◌, take, drop, map}
use Rattle.cpm_config.specs.Rules.{name_placed, repeated, repeated_after}
use Rattle.cpm_config.proofs.names.repeated.Given as goal

abbrev pub invariant-loop-named : goal.invariant-loop-named
invariant-loop-named l = record {
  same : repeated_after (map name_placed (take l.named-index l.names)) (map name_placed (drop l.named-index l.names)) ≡ repeated (map name_placed l.names);
  count : l.count ≡ l.named-index;
}
