use Rattle.std.proofs.Common.{◌≡◌, ◌≤◌, ◌+◌, drop}
use Rattle.cpm_slots.specs.Host.{slot_at}
use Rattle.cpm_serve.specs.Served.{after_asks}
use Rattle.cpm_serve.specs.Slot.{accepted_in, key_asks}
use Rattle.cpm_serve.proofs.slot.offer.Given as goal

-- the keys so far, and those to come, are all
abbrev pub invariant-loop-key : goal.invariant-loop-key
invariant-loop-key l = record {
  host : after_asks l.id.0 (key_asks (drop l.key-index l.keys)) l.host.host ≡ after_asks l.id.0 (key_asks l.keys) l.fn.host.host;
  accepted : l.accepted + accepted_in (drop l.key-index l.keys) (slot_at l.id.0 l.host.host.slots) ≡ accepted_in l.keys (slot_at l.id.0 l.fn.host.host.slots);
  few : l.accepted ≤ l.key-index;
}
