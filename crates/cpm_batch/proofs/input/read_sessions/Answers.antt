use Rattle.std.proofs.Common.{◌≡◌, List, None, ap, map, subst, sym}
use Rattle.std.proofs.lemmas.Result.{err_from_is_err_and}
use Rattle.cpm_config.specs.Rules.{fork_field_fault, session_view}
use Rattle.cpm_store.proofs.LogLemmas.{unwritten_more}
use Rattle.cpm_store.specs.Log.{LogLeadsBy}
use Rattle.cpm_batch.specs.Inputs.{HasInput, given, needs_of}
use Rattle.cpm_batch.specs.Reads.{IsInputRead}
use Rattle.cpm_batch.specs.declared.input.Input.{Input}
use Rattle.cpm_batch.proofs.InputLemmas.{inputs_as, inputs_more, refusal_as, session_refused, sessions_more}
use Rattle.cpm_batch.proofs.ParentLemmas.{fork_stands, forks_stand}
use Rattle.cpm_batch.proofs.ReadLemmas.{only_read_as, only_read_failed, only_read_then, sessions_read}
use Rattle.cpm_batch.proofs.StopLemmas.{session_stopped, sessions_memory, stopped_as}
use Rattle.cpm_batch.proofs.input.read_sessions.Goals as goal

pub read_session-requires-clause-fork : goal.read_session-requires-clause-fork
read_session-requires-clause-fork g c =
    let i = c.loop-session.invariant in
    let before = c.as_slice.ensures.value in
    subst (λ (is : List Input). fork_field_fault (map (λ x. session_view x.session) (map given is)) (session_view c.session-item.result) ≡ None) (sym before)
    (fork_stands c.args.sessions.now c.loop-session.session-index c.session-item.result (map given c.loop-session.inputs.items) c.loop-session-test.true c.session-item.is i.forks i.sessions)

pub returns-in_err-input-clause-refusal : goal.returns-in_err-input-clause-refusal
returns-in_err-input-clause-refusal g c =
    let p = err_from_is_err_and c.from_residual.result c.from_residual.ensures.1 in
    let i = c.loop-session.invariant in
    let files = g.S.Store.files c.args.store.now in
    let now = g.S.Store.files c.loop-session.store in
    let is = map given c.loop-session.inputs.items in
    let needs = ap (λ (before : List Input). needs_of c.args.replays.now (map given before) c.session-item.result) c.as_slice.ensures.value in
    rw (p.1, p.2) (session_refused c.args.replays.now files c.args.sessions.now c.loop-session.session-index c.session-item.result is _ c.loop-session-test.true c.session-item.is i.sessions
    (inputs_as c.args.replays.now files now is i.store.same i.inputs) (refusal_as files now _ _ _ i.store.same needs c.in_err-input.ensures.refusal))

pub returns-in_err-input-clause-refused_log : goal.returns-in_err-input-clause-refused_log
returns-in_err-input-clause-refused_log g c =
    let p = err_from_is_err_and c.from_residual.result c.from_residual.ensures.1 in
    let does = g.S.Store.does in
    let i = c.loop-session.invariant in
    let between = c.loop-session.store in
    let end = c.read_session.new.store in
    let needs = ap (λ (before : List Input). needs_of c.args.replays.now (map given before) c.session-item.result) c.as_slice.ensures.value in
    rw (p.1, p.2) (session_stopped does c.args.replays.now c.args.sessions.now c.loop-session.session-index c.session-item.result (map given c.loop-session.inputs.items) _ c.args.store.now between end
    c.loop-session-test.true c.session-item.is i.sessions i.log (stopped_as does _ _ _ between end needs c.in_err-input.ensures.refused_log))

pub returns-in_err-push-clause-refused_log : goal.returns-in_err-push-clause-refused_log
returns-in_err-push-clause-refused_log g c =
    let p = err_from_is_err_and c.from_residual-in_err-push.result c.from_residual-in_err-push.ensures.1 in
    rw (p.1, p.2) (sessions_memory g.S.Store.does c.args.replays.now c.args.sessions.now c.args.store.now c.read_session.new.store
    (unwritten_more g.S.Store.does c.args.store.now c.loop-session.store c.read_session.new.store c.loop-session.invariant.store.unwritten c.in_ok-input.ensures.store.unwritten))

pub loop-session-preserved : goal.loop-session-preserved
loop-session-preserved g c =
    let i = c.loop-session.invariant in
    let does = g.S.Store.does in
    let now = g.S.Store.files c.loop-session.store in
    let next = g.S.Store.files c.read_session.new.store in
    let x = c.in_ok-input.input in
    let is = c.loop-session.inputs.items in
    let before = c.as_slice.ensures.value in
    let same = c.in_ok-input.ensures.store.same in
    let input = subst (λ (b : List Input). HasInput now c.args.replays.now (map given b) (given x)) before c.in_ok-input.ensures.input in
    let log = subst (λ (b : List Input). LogLeadsBy does (IsInputRead c.args.replays.now (map given b) (given x)) c.loop-session.store c.read_session.new.store) before c.in_ok-input.ensures.log in
    record {
      inputs = inputs_as c.args.replays.now next now (map given c.push.new.self.items) (sym same) (inputs_more c.args.replays.now now is c.push.new.self.items x c.in_ok-push.ensures.items i.inputs input);
      forks = forks_stand c.args.sessions.now c.loop-session.session-index c.session-item.result c.loop-session-test.true c.session-item.is i.forks;
      sessions = sessions_more is c.push.new.self.items x c.args.sessions.now c.loop-session.session-index c.session-item.result c.loop-session-test.true c.session-item.is
          c.in_ok-push.ensures.items i.sessions c.in_ok-input.ensures.session;
      log = sessions_read does c.args.replays.now is c.push.new.self.items x c.args.store.now c.loop-session.store c.read_session.new.store c.in_ok-push.ensures.items i.log log;
      store = only_read_as _ tt (only_read_then i.store c.in_ok-input.ensures.store);
    }

pub returns-in_err-input-clause-store : goal.returns-in_err-input-clause-store
returns-in_err-input-clause-store g c =
    let p = err_from_is_err_and c.from_residual.result c.from_residual.ensures.1 in
    rw (p.1, p.2) (only_read_failed (only_read_then c.loop-session.invariant.store c.in_err-input.ensures.store))

pub returns-in_err-push-clause-store : goal.returns-in_err-push-clause-store
returns-in_err-push-clause-store g c =
    let p = err_from_is_err_and c.from_residual-in_err-push.result c.from_residual-in_err-push.ensures.1 in
    rw (p.1, p.2) (only_read_as _ (λ f. f) (only_read_then c.loop-session.invariant.store c.in_ok-input.ensures.store))
