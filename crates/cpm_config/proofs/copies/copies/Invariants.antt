use Rattle.std.proofs.Common.{◌≡◌, take, map}
use Rattle.cpm_config.specs.Rules.{texts_of_strings}
use Rattle.cpm_config.proofs.copies.copies.Given as goal

abbrev pub invariant-loop-text : goal.invariant-loop-text
invariant-loop-text l = texts_of_strings l.copies ≡ map (λ t. t.now) (take l.text-index l.texts)
