use Rattle.std.proofs.Common.{◌≡◌, drop, length}
use Rattle.cpm_commands.specs.Get.{taken_outputs}
use Rattle.cpm_commands.proofs.GetLemmas.{TakenLeads, TakingStops}
use Rattle.cpm_commands.proofs.get.take_all.Given as goal

abbrev pub invariant-loop-file : goal.invariant-loop-file
invariant-loop-file l = record {
  leads : TakenLeads l.image l.to l.is_text l.fn.named (drop l.file-index l.named) (taken_outputs l.paths.items l.contents.items);
  stops : TakingStops l.fn.name l.image l.to l.is_text l.fn.named (drop l.file-index l.named);
  even : length l.paths.items ≡ length l.contents.items;
}
