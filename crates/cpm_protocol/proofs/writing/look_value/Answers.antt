use Rattle.std.proofs.Common.{[], ℕ, List, ap, codes, option_map, refl, ◌∙◌}
use Rattle.std.proofs.lemmas.Result.{IfOk-weaker}
use Rattle.serde_json.specs.Data.{object, string}
use Rattle.cpm_protocol.specs.Replies.{Member, put_all, tag_members}
use Rattle.cpm_protocol.specs.Requests.{tag_of_code}
use Rattle.cpm_protocol.proofs.PutLemmas.{also}
use Rattle.cpm_protocol.proofs.writing.look_value.Goals as goal

pub returns : goal.returns
returns c =
    let same = (also c.number.ensures (also c.number-2.ensures (also c.number-3.ensures (also c.number-4.ensures (also c.number-5.ensures (also c.number-6.ensures (also c.number-7.ensures (also c.number-8.ensures (also c.number-9.ensures (also c.number-10.ensures (also c.number-11.ensures (also c.number-12.ensures (also c.number-13.ensures (also c.number-14.ensures (also c.truth.ensures (also c.truth-2.ensures (also c.number-15.ensures (also (c.text.ensures ∙ ap (λ (w : List ℕ). (codes "end", string w)) c.word.ensures) (also c.number-16.ensures (also c.truth-3.ensures (also c.number-17.ensures (also c.number-18.ensures (also {xs = []} c.number-19.ensures refl))))))))))))))))))))))) in
    IfOk-weaker c.object_of.result _ _
    (λ v is. is ∙ ap (λ (ms : List Member). object (put_all ms (tag_members (option_map tag_of_code c.args.tag)))) same) c.object_of.ensures
