use Rattle.std.proofs.Common.{◌≡◌, ℕ, ◌<◌, length, get_or}
use Rattle.cpm_memory.specs.Frames.{frame_of_page}
use Rattle.cpm_memory.proofs.store.FrameStore.places.Given as goal

abbrev pub invariant-loop-number : goal.invariant-loop-number
invariant-loop-number l = record {
  size : length l.places ≡ 256;
  placed : (k : ℕ) → k < l.number → get_or l.places k 0 ≡ frame_of_page l.self l.table k;
}
