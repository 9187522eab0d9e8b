use Rattle.std.proofs.Common.{◌≤◌, count_by, take}
use Rattle.cpm_memory.specs.Frames.{is_table_taken}
use Rattle.cpm_memory.proofs.pages.find_free_table.Given as goal

-- each table so far is taken
abbrev pub invariant-loop-index : goal.invariant-loop-index
invariant-loop-index l = l.index ≤ count_by is_table_taken (take l.index l.tables)
