use Rattle.std.proofs.Common.{drop, map}
use Rattle.cpm_commands.proofs.DiskLemmas.{PutLeads, PutStops}
use Rattle.cpm_commands.proofs.disk.put_words.Given as goal

abbrev pub invariant-loop-word : goal.invariant-loop-word
invariant-loop-word g l = record {
  leads : PutLeads g.F.Store.does l.user l.how (map (λ w. w.now) l.fn.words) (map (λ w. w.now) (drop l.word-index l.words)) l.before.items l.fn.image l.image l.fn.files l.files;
  stops : PutStops g.F.Store.does l.fn.name l.user l.how (map (λ w. w.now) l.fn.words) (map (λ w. w.now) (drop l.word-index l.words)) l.before.items l.fn.image l.image l.fn.files
      l.files;
}
