use Rattle.std.proofs.Common.{◌≡◌, List, Option, drop}
use Rattle.cpm_memory.specs.Contents.{Contents}
use Rattle.cpm_slots.specs.Host.{slot_at}
use Rattle.cpm_slots.specs.Slots.{slots_of}
use Rattle.cpm_slots.proofs.slots.index_of.Given as goal

abbrev pub invariant-loop-index : goal.invariant-loop-index
invariant-loop-index l = (memories : List (Option Contents)) → slot_at l.id.0 (slots_of memories (drop l.index l.slots)) ≡ slot_at l.id.0 (slots_of memories l.slots)
