use Rattle.std.proofs.Common.{◌≡◌, ℕ, ◌<◌, None, slice_set}
use Rattle.cpm_memory.specs.Frames.{IsStoreSound, private_at, empty_table}
use Rattle.cpm_memory.proofs.store.FrameStore.release.Given as goal

-- the pages so far have their boot frames, and nothing else has changed
abbrev pub invariant-loop-page : goal.invariant-loop-page
invariant-loop-page l = record {
  sound : IsStoreSound l.self;
  private : l.self.private ≡ l.initial.self.private;
  frames : l.self.frames ≡ l.initial.self.frames;
  stamps : l.self.stamps ≡ l.initial.self.stamps;
  others : slice_set l.self.tables l.index empty_table ≡ slice_set l.initial.self.tables l.index empty_table;
  shared : (k : ℕ) → k < l.page → private_at l.self l.index k ≡ None;
}
