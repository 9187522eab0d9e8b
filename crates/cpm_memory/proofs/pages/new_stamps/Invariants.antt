use Rattle.std.proofs.Common.{◌≡◌, ℕ, ◌<◌, [], length, slice_index_or}
use Rattle.cpm_memory.specs.Stamps.{AreStamps}
use Rattle.cpm_memory.proofs.pages.new_stamps.Given as goal

abbrev pub invariant-loop-table : goal.invariant-loop-table
invariant-loop-table l = record {
  count : length l.stamps.items ≡ l._table;
  each : (k : ℕ) → k < l._table → AreStamps (slice_index_or l.stamps.items k []);
}
