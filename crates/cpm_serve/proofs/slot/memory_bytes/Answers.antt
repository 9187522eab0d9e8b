use Rattle.std.proofs.Common.{◌≡◌, ◌∙◌}
use Rattle.cpm_slots.specs.Host.{slot_at}
use Rattle.cpm_memory.specs.Contents.{run_at}
use Rattle.cpm_serve.proofs.ServedLemmas.{all-bytes, bytes-step, if-open, peek-byte}
use Rattle.cpm_serve.proofs.slot.memory_bytes.Goals as goal

pub loop-preserved : goal.loop-preserved
loop-preserved c = λ s at.
    bytes-step s.memory c.loop.bytes.items c.push.new.self.items c.unwrap_or.result c.loop.place c.args.length c.loop.counter c.loop-test.true c.in_ok-push.ensures.items
    (c.unwrap_or.ensures ∙ peek-byte c.args.host.now.host c.args.id.0 c.loop.place s c.peek.result at c.peek.ensures.reply)
    ∙ c.loop.invariant s at

pub returns : goal.returns
returns c =
    if-open (slot_at c.args.id.0 c.args.host.now.host.slots) (λ s. c.loop.bytes.items ≡ run_at s.memory c.args.address c.args.length)
    (λ s at. all-bytes s.memory c.loop.bytes.items (run_at s.memory c.args.address c.args.length) c.loop.place c.args.length c.loop.counter c.loop-test.false (c.loop.invariant s at))
