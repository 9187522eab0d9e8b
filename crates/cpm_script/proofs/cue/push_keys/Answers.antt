use Rattle.std.proofs.Common.{◌∙◌, ap, sym, subst}
use Rattle.cpm_script.specs.KeyText.{keys_of}
use Rattle.cpm_script.specs.Cues.{all_said}
use Rattle.cpm_script.proofs.CueLemmas.{HasRoom, followed, followed-end, followed-first, keys-end, keys-first, room-after, room-first, some-after}
use Rattle.cpm_script.proofs.cue.push_keys.Goals as goal

pub push_key-requires-clause-room : goal.push_key-requires-clause-room
push_key-requires-clause-room c =
    let rest = c.loop-byte.rest.now in
    let after = c.in-Some.after.now in
    room-first c.loop-byte.reading.keys c.in-Some.byte (keys_of rest) (keys_of after) (keys-first rest after c.in-Some.byte (sym c.in-Some.ensures))
    c.loop-byte.invariant.some c.loop-byte.invariant.room

pub loop-byte-preserved : goal.loop-byte-preserved
loop-byte-preserved c =
    let rest = keys_of c.loop-byte.rest.now in
    let after = keys_of c.in-Some.after.now in
    let first = keys-first c.loop-byte.rest.now c.in-Some.after.now c.in-Some.byte (sym c.in-Some.ensures) in
    record {
      same = ap (λ cues. followed cues c.args.at after) c.in_ok-push_key.ensures.added
          ∙ followed-first (all_said c.loop-byte.reading.cues) c.args.at c.in-Some.byte rest after first
          ∙ c.loop-byte.invariant.same;
      some = some-after c.in-Some.byte rest after first c.loop-byte.invariant.some;
      reading = c.in_ok-push_key.ensures.reading;
      room = subst (λ n. HasRoom n after) (sym c.in_ok-push_key.ensures.counted)
          (room-after c.loop-byte.reading.keys c.in-Some.byte rest after first c.loop-byte.invariant.room);
    }

pub returns-clause-added : goal.returns-clause-added
returns-clause-added c =
    let rest = c.loop-byte.rest.now in
    sym c.loop-byte.invariant.same
    ∙ followed-end (all_said c.loop-byte.reading.cues) c.args.at (keys_of rest) (keys-end rest (sym c.in_default.ensures) c.loop-byte.invariant.some)
