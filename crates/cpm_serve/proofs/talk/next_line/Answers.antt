use Rattle.cpm_serve.proofs.TalkLemmas.{part-begun, part-more, read_line}
use Rattle.cpm_serve.proofs.talk.next_line.Goals as goal

pub loop-turn-init : goal.loop-turn-init
loop-turn-init g c = part-begun (g.R.Read.remaining c.args.input.now) c.new-line.result.items c.new-line.ensures.items

pub loop-turn-preserved : goal.loop-turn-preserved
loop-turn-preserved g c =
    part-more (g.R.Read.remaining c.args.input.now) (g.R.Read.remaining c.loop-turn.input) (g.R.Read.remaining c.read_on.new.input) c.loop-turn.line.items c.read_on.new.line.items
    c.in_ok-read_on.field-0 c.loop-turn.invariant c.in_ok-read_on.ensures c.if-branch.false

pub returns-then-branch : goal.returns-then-branch
returns-then-branch g c =
    read_line (g.R.Read.remaining c.args.input.now) (g.R.Read.remaining c.loop-turn.input) (g.R.Read.remaining c.read_on.new.input) c.loop-turn.line.items c.read_on.new.line
    c.in_ok-read_on.field-0 c.some_line.result c.loop-turn.invariant c.in_ok-read_on.ensures c.if-branch.true c.some_line.ensures.none c.some_line.ensures.some
