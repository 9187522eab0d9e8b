use Rattle.std.proofs.Common.{◌≤◌, ap, option_and_then, option_map, ◌∙◌}
use Rattle.std.proofs.lemmas.Result.{IfOk-weaker}
use Rattle.serde_json.specs.Data.{depth}
use Rattle.serde_json.specs.Read.{max_depth}
use Rattle.serde_json.specs.View.{view}
use Rattle.cpm_protocol.specs.Replies.{answered_of, reply_seen}
use Rattle.cpm_protocol.specs.Requests.{tag_of_code}
use Rattle.cpm_protocol.proofs.FlatLemmas.{reply-depth}
use Rattle.cpm_protocol.proofs.ReplyLemmas.{reply-back}
use Rattle.cpm_protocol.proofs.reply.WireReply.text.Goals as goal

pub returns-clause-back : goal.returns-clause-back
returns-clause-back c all =
    let tag = option_map tag_of_code c.args.tag in
    let a = reply_seen c.args.self.now in
    let is = c.in_ok-value.ensures in
    let deep : depth (view c.in_ok-value.field-0) ≤ max_depth = rw is (reply-depth tag a) in
    IfOk-weaker c.to_string.result _ _
    (λ t back. ap (option_and_then answered_of) (back deep) ∙ ap answered_of is ∙ reply-back tag a all) c.to_string.ensures.reads_back
