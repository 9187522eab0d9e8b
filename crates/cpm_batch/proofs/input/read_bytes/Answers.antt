use Rattle.std.proofs.Common.{Err, ap}
use Rattle.cpm_store.specs.Log.{Gave, Missed}
use Rattle.cpm_store.proofs.LogLemmas.{unwritten_one}
use Rattle.cpm_batch.proofs.input.read_bytes.Goals as goal

pub returns-in-Ok-clause-store : goal.returns-in-Ok-clause-store
returns-in-Ok-clause-store g c =
    let unwritten = unwritten_one g.S.Store.does (Gave c.args.name.now c.in-Ok.bytes.items) c.args.store.now c.read.new.self tt c.in-Ok.ensures.gave in
    record { device = tt; same = c.in-Ok.ensures.same; unwritten = unwritten; uncounted = c.in-Ok.ensures.uncounted; memory = tt; counted = c.in-Ok.ensures.counted }

pub returns-in-Err-Device-clause-store : goal.returns-in-Err-Device-clause-store
returns-in-Err-Device-clause-store g c =
    let unwritten = unwritten_one g.S.Store.does (Missed c.args.name.now) c.args.store.now c.read.new.self tt c.in-Err-Device.ensures.missed in
    record {
      device = λ _. c.in-Err-Device.ensures.device (ap Err c.in-Err-Device.field-0-is);
      same = c.in-Err-Device.ensures.same;
      unwritten = unwritten;
      uncounted = tt;
      memory = λ e. absurd cc;
      counted = c.in-Err-Device.ensures.counted;
    }

pub returns-in-Err-OutOfMemory-clause-store : goal.returns-in-Err-OutOfMemory-clause-store
returns-in-Err-OutOfMemory-clause-store g c =
    let unwritten = unwritten_one g.S.Store.does (Missed c.args.name.now) c.args.store.now c.read.new.self tt c.in-Err-OutOfMemory.ensures.missed in
    record {
      device = λ f. absurd f;
      same = c.in-Err-OutOfMemory.ensures.same;
      unwritten = unwritten;
      uncounted = tt;
      memory = λ _. c.in-Err-OutOfMemory.ensures.memory (ap Err c.in-Err-OutOfMemory.field-0-is);
      counted = c.in-Err-OutOfMemory.ensures.counted;
    }
