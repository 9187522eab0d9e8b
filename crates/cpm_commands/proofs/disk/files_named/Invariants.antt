use Rattle.std.proofs.Common.{drop, map}
use Rattle.cpm_commands.proofs.DiskLemmas.{NamedLeads, NamedStops}
use Rattle.cpm_commands.proofs.disk.files_named.Given as goal

abbrev pub invariant-loop-pattern : goal.invariant-loop-pattern
invariant-loop-pattern l = record {
  leads : NamedLeads (map (λ w. w.now) l.fn.patterns) (map (λ w. w.now) (drop l.pattern-index l.patterns)) l.user l.listing.files.items l.named.items;
  stops : NamedStops l.fn.name (map (λ w. w.now) l.fn.patterns) (map (λ w. w.now) (drop l.pattern-index l.patterns)) l.user l.listing.files.items;
}
