use Rattle.std.proofs.Common.{sym}
use Rattle.serde_json.specs.View.{view}
use Rattle.cpm_protocol.specs.Requests.{request_seen}
use Rattle.cpm_serve.specs.Owned.{owned_answer}
use Rattle.cpm_serve.proofs.AgainLemmas.{redo-served}
use Rattle.cpm_serve.proofs.ByteKeys.{byte-keys}
use Rattle.cpm_serve.proofs.redo.redo_request.Goals as goal

pub perform-requires : goal.perform-requires
perform-requires c = byte-keys (view c.args.value.now) (request_seen c.in-Ok.request) (sym c.in-Ok.ensures)

pub returns-in-Ok-clause-done : goal.returns-in-Ok-clause-done
returns-in-Ok-clause-done c =
    let p = c.perform.ensures in
    (redo-served c.args.host.now.host c.perform.new.host.host (owned_answer c.perform.result) (view c.args.value.now) (request_seen c.in-Ok.request) p.lacked p.answers p.made c.redo_result.result
    (sym c.in-Ok.ensures) (sym c.if-is_again.ensures) p.served c.redo_result.ensures).done

pub returns-in-Ok-clause-undone : goal.returns-in-Ok-clause-undone
returns-in-Ok-clause-undone c =
    let p = c.perform.ensures in
    (redo-served c.args.host.now.host c.perform.new.host.host (owned_answer c.perform.result) (view c.args.value.now) (request_seen c.in-Ok.request) p.lacked p.answers p.made c.redo_result.result
    (sym c.in-Ok.ensures) (sym c.if-is_again.ensures) p.served c.redo_result.ensures).undone

pub returns-in-Ok-clause-unchanged : goal.returns-in-Ok-clause-unchanged
returns-in-Ok-clause-unchanged c =
    let p = c.perform.ensures in
    (redo-served c.args.host.now.host c.perform.new.host.host (owned_answer c.perform.result) (view c.args.value.now) (request_seen c.in-Ok.request) p.lacked p.answers p.made c.redo_result.result
    (sym c.in-Ok.ensures) (sym c.if-is_again.ensures) p.served c.redo_result.ensures).unchanged
