use Rattle.std.proofs.Common.{refl}
use Rattle.std.proofs.lemmas.Result.{err_from_is_err_and}
use Rattle.cpm_commands.specs.Serve.IsServiceEnded.{CutOff, NotBegun}
use Rattle.cpm_commands.proofs.serve.serve_requests.Goals as goal

pub returns-clause-refusal : goal.returns-clause-refusal
returns-clause-refusal g c =
    CutOff _ _ c.in-Err.error c.unkept.result c.unkept.ensures.named c.ended_early.ensures c.in_ok-host.ensures.begun
    (c.begin.new.self, c.begin.new.server.host.host, c.in_ok-begin.ensures.begun, c.in-Err.ensures.partly)

pub returns-in_err-begin-clause-refusal : goal.returns-in_err-begin-clause-refusal
returns-in_err-begin-clause-refusal g c =
    let p = err_from_is_err_and c.from_residual-in_err-begin.result c.from_residual-in_err-begin.ensures.1 in
    rw (p.1, p.2) (NotBegun _ c.in_ok-host.ensures.begun ((c.begin.new.server.host.host, c.in_err-begin.ensures.refused), refl))
