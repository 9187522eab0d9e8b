use Rattle.std.proofs.Common.{◌≡◌, ◌++◌, drop, map}
use Rattle.std.specs.Prelude.{string_bytes}
use Rattle.cpm_store.specs.Writes.{named_output}
use Rattle.cpm_commands.specs.Get.{paths_text}
use Rattle.cpm_commands.proofs.get.text_of.Given as goal

abbrev pub invariant-loop-output : goal.invariant-loop-output
invariant-loop-output l = string_bytes l.text ++ paths_text (map named_output (drop l.output-index l.outputs)) ≡ paths_text (map named_output l.fn.outputs)
