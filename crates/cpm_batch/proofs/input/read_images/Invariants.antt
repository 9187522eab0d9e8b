use Rattle.std.proofs.Common.{Ok, take}
use Rattle.cpm_store.specs.Log.{LogLeadsBy}
use Rattle.cpm_batch.specs.Inputs.{AllImages}
use Rattle.cpm_batch.specs.Reads.{AreImagesRead, OnlyRead}
use Rattle.cpm_batch.proofs.input.read_images.Given as goal

abbrev pub invariant-loop-name : goal.invariant-loop-name
invariant-loop-name g l = record {
  images : AllImages (g.S.Store.files l.fn.store) (take l.name-index l.names) l.images.items;
  log : LogLeadsBy g.S.Store.does (AreImagesRead (take l.name-index l.names) l.images.items) l.fn.store l.store;
  store : OnlyRead g.S.Store.does g.S.Store.files g.S.Store.failed (Ok l.images) l.fn.store l.store;
}
