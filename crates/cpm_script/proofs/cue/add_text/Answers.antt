use Rattle.std.proofs.Common.{arith}
use Rattle.cpm_script.specs.KeyText.{keys_of}
use Rattle.cpm_script.specs.Cues.{all_said}
use Rattle.cpm_script.proofs.CueLemmas.{text-added, text-empty, text-full, text-none, text-room, text-some}
use Rattle.cpm_script.proofs.cue.add_text.Goals as goal

pub returns-in_default-clause-added : goal.returns-in_default-clause-added
returns-in_default-clause-added c = text-none (all_said c.args.reading.now.cues) c.args.at (keys_of c.args.text.now) c.in_default.ensures

pub returns-then-count-eq0-clause-added : goal.returns-then-count-eq0-clause-added
returns-then-count-eq0-clause-added c =
    text-empty (all_said c.args.reading.now.cues) c.args.at c.in-Some.count (keys_of c.args.text.now) c.in-Some.ensures c.if-count-eq0.true

pub returns-then-count-reading-clause-added : goal.returns-then-count-reading-clause-added
returns-then-count-reading-clause-added c =
    text-full (all_said c.args.reading.now.cues) c.args.at c.in-Some.count (keys_of c.args.text.now) c.in-Some.ensures (omega (arith, c.if-count-eq0.false))
    (omega (arith, c.if-count-reading.true, c.requires.keys, c.requires.room))

pub push_keys-requires-clause-keys : goal.push_keys-requires-clause-keys
push_keys-requires-clause-keys c = text-some c.in-Some.count (keys_of c.args.text.now) c.in-Some.ensures

pub push_keys-requires-clause-room : goal.push_keys-requires-clause-room
push_keys-requires-clause-room c =
    text-room c.args.reading.now.keys c.in-Some.count (keys_of c.args.text.now) c.in-Some.ensures (omega (arith, c.if-count-reading.false, c.requires.room))

pub returns-in-Ok-clause-added : goal.returns-in-Ok-clause-added
returns-in-Ok-clause-added c =
    text-added (all_said c.args.reading.now.cues) (all_said c.push_keys.new.reading.cues) c.args.at c.in-Some.count (keys_of c.args.text.now) c.in-Some.ensures
    (omega (arith, c.if-count-eq0.false)) (omega (arith, c.if-count-reading.false, c.requires.keys, c.requires.room)) c.in-Ok.ensures.added
