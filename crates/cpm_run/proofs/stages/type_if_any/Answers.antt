use Rattle.std.proofs.lemmas.Result.{err_from_is_err_and}
use Rattle.cpm_run.specs.Settled.{streams}
use Rattle.cpm_run.proofs.TypedLemmas.{heard_at, here_ascii, here_openable, typed_here, typing_refused}
use Rattle.cpm_run.proofs.stages.type_if_any.Goals as goal

pub type_at-requires-clause-opened : goal.type_at-requires-clause-opened
type_at-requires-clause-opened g c =
    let here = typed_here c.args.config.now c.args.options c.args.typed c.in-Some-Some.name c.in-Some-Some.place c.args.inputs.now c.requires.place c.in-Some-Some.is-0 c.in-Some-Some.is-1
    c.requires.sessions c.requires.starts in
    here.opened c.index-inputs-place.result c.index-inputs-place.is

pub type_at-requires-clause-openable : goal.type_at-requires-clause-openable
type_at-requires-clause-openable g c =
    let here = typed_here c.args.config.now c.args.options c.args.typed c.in-Some-Some.name c.in-Some-Some.place c.args.inputs.now c.requires.place c.in-Some-Some.is-0 c.in-Some-Some.is-1
    c.requires.sessions c.requires.starts in
    here_openable c.args.config.now c.in-Some-Some.name.now c.in-Some-Some.place c.args.inputs.now c.index-inputs-place.result c.args.system.now here c.index-inputs-place.is
    c.requires.accepted

pub type_at-requires-clause-ascii : goal.type_at-requires-clause-ascii
type_at-requires-clause-ascii g c =
    let here = typed_here c.args.config.now c.args.options c.args.typed c.in-Some-Some.name c.in-Some-Some.place c.args.inputs.now c.requires.place c.in-Some-Some.is-0 c.in-Some-Some.is-1
    c.requires.sessions c.requires.starts in
    here_ascii c.args.config.now c.in-Some-Some.name.now c.in-Some-Some.place c.args.inputs.now c.index-inputs-place.result here c.index-inputs-place.is c.requires.ascii

pub returns-in_err-heard-clause-refusal : goal.returns-in_err-heard-clause-refusal
returns-in_err-heard-clause-refusal g c =
    let io = streams (g.P.Typist.typing c.args.typist.now) (g.P.Typist.typing c.type_at.new.typist) (g.W.Write.contents c.args.out.now) (g.W.Write.contents c.type_at.new.out)
    (g.R.Write.contents c.args.record.now) (g.R.Write.contents c.type_at.new.record) in
    let here = typed_here c.args.config.now c.args.options c.args.typed c.in-Some-Some.name c.in-Some-Some.place c.args.inputs.now c.requires.place c.in-Some-Some.is-0 c.in-Some-Some.is-1
    c.requires.sessions c.requires.starts in
    let p = err_from_is_err_and c.from_residual.result c.from_residual.ensures.1 in
    rw (p.1, p.2) (typing_refused c.args.config.now c.args.options c.in-Some-Some.name c.in-Some-Some.place c.args.inputs.now c.index-inputs-place.result io c.args.system.now
    c.requires.accepted c.in-Some-Some.is-0 here c.index-inputs-place.is c.in_err-heard.field-0.0 c.in_err-heard.ensures.refusal)

pub returns-clause-typed : goal.returns-clause-typed
returns-clause-typed g c =
    let io = streams (g.P.Typist.typing c.args.typist.now) (g.P.Typist.typing c.type_at.new.typist) (g.W.Write.contents c.args.out.now) (g.W.Write.contents c.type_at.new.out)
    (g.R.Write.contents c.args.record.now) (g.R.Write.contents c.type_at.new.record) in
    let here = typed_here c.args.config.now c.args.options c.args.typed c.in-Some-Some.name c.in-Some-Some.place c.args.inputs.now c.requires.place c.in-Some-Some.is-0 c.in-Some-Some.is-1
    c.requires.sessions c.requires.starts in
    heard_at c.args.system.now c.args.config.now c.args.options c.in-Some-Some.name c.in-Some-Some.place c.args.inputs.now c.index-inputs-place.result io c.in_ok-heard.heard
    c.in-Some-Some.is-0 here c.index-inputs-place.is c.in_ok-heard.ensures.typed
