use Rattle.std.proofs.Common.{◌≡◌, ℕ, ◌<◌, length, slice_index_or}
use Rattle.cpm_memory.specs.Frames.{IsBlank, blank_table}
use Rattle.cpm_memory.proofs.pages.new_tables.Given as goal

abbrev pub invariant-loop-table : goal.invariant-loop-table
invariant-loop-table l = record {
  count : length l.tables.items ≡ l._table;
  blank : (k : ℕ) → k < l._table → IsBlank (slice_index_or l.tables.items k blank_table);
}
