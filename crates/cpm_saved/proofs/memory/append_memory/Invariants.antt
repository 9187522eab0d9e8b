use Rattle.cpm_memory.specs.Flat.{flat_contents}
use Rattle.cpm_memory.specs.Tabulated.{tabulated}
use Rattle.cpm_saved.specs.Layout.{Times}
use Rattle.cpm_saved.specs.Reading.{IsPartAppended}
use Rattle.cpm_saved.specs.SavedMemory.{page_layout, saved_page}
use Rattle.cpm_saved.proofs.memory.append_memory.Given as goal

-- the pages so far
abbrev pub invariant-loop-page : goal.invariant-loop-page
invariant-loop-page l = IsPartAppended (Times l.page page_layout) (tabulated l.page (saved_page (flat_contents l.memory))) l.initial.out.items l.out.items
