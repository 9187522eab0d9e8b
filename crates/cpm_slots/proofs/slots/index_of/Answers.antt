use Rattle.std.proofs.Common.{refl}
use Rattle.std.proofs.lemmas.Option.{slice_get_read}
use Rattle.cpm_slots.proofs.OpenIndexes.{slot-index}
use Rattle.cpm_slots.proofs.slots.index_of.Goals as goal

pub returns-then-slot-id : goal.returns-then-slot-id
returns-then-slot-id c = λ memories.
    slot-index c.args.id.0 memories c.args.slots.now c.loop-index.index c.index-slots-index.result c.loop-index-test.true
    (slice_get_read c.args.slots.now _ c.loop-index.index c.index-slots-index.result refl c.loop-index-test.true c.index-slots-index.is)
    c.if-slot-id.true (c.loop-index.invariant memories)
