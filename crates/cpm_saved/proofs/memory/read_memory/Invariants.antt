use Rattle.cpm_memory.specs.Flat.{flat_contents}
use Rattle.cpm_saved.proofs.ReadPages.{PagesRead}
use Rattle.cpm_saved.proofs.memory.read_memory.Given as goal

abbrev pub invariant-loop-page : goal.invariant-loop-page
invariant-loop-page l = PagesRead l.page (flat_contents l.memory) l.initial.reader l.reader
