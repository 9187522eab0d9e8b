use Rattle.cpm_serve.proofs.TalkLemmas.{scan-begun, scan-found, scan-more, scan-through, scan-whole}
use Rattle.cpm_serve.proofs.talk.length_through.Goals as goal

pub loop-index-init : goal.loop-index-init
loop-index-init c = scan-begun c.args.bytes.now

pub loop-index-preserved : goal.loop-index-preserved
loop-index-preserved c = scan-more c.args.bytes.now c.loop-index.index c.loop-index-test.true c.if-byte-eq10.false c.loop-index.invariant

pub returns-then-byte-eq10-clause-through : goal.returns-then-byte-eq10-clause-through
returns-then-byte-eq10-clause-through c = scan-through c.args.bytes.now c.loop-index.index c.loop-index-test.true c.if-byte-eq10.true c.loop-index.invariant

pub returns-then-byte-eq10-clause-found : goal.returns-then-byte-eq10-clause-found
returns-then-byte-eq10-clause-found c = scan-found c.args.bytes.now c.loop-index.index c.loop-index-test.true c.if-byte-eq10.true c.loop-index.invariant

pub returns-clause-through : goal.returns-clause-through
returns-clause-through c = (scan-whole c.args.bytes.now c.loop-index.index c.loop-index-test.false c.loop-index.invariant).0

pub returns-clause-found : goal.returns-clause-found
returns-clause-found c = (scan-whole c.args.bytes.now c.loop-index.index c.loop-index-test.false c.loop-index.invariant).1
