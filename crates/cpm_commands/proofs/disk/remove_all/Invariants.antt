use Rattle.std.proofs.Common.{drop}
use Rattle.cpm_commands.proofs.DiskLemmas.{RemovalStops, RemovedLeads}
use Rattle.cpm_commands.proofs.disk.remove_all.Given as goal

abbrev pub invariant-loop-file : goal.invariant-loop-file
invariant-loop-file l = record {
  leads : RemovedLeads l.fn.named (drop l.file-index l.named) l.fn.image l.image;
  stops : RemovalStops l.fn.name l.fn.named (drop l.file-index l.named) l.fn.image l.image;
}
