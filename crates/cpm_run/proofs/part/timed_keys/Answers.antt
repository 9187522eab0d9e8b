use Rattle.std.proofs.Common.{◌∙◌, ◌<◌, ◌^◌, [], arith, map}
use Rattle.std.proofs.lemmas.List.Elements.{All-push, All-same, All-nil}
use Rattle.cpm_batch.specs.Inputs.{timed_keys}
use Rattle.cpm_script.specs.Cues.{cue_text}
use Rattle.cpm_script.specs.declared.script.Key.{Key}
use Rattle.cpm_run.proofs.PartLemmas.{all_timed, key_timed, nil_timed, none_timed}
use Rattle.cpm_run.proofs.part.timed_keys.Goals as goal

pub loop-cue-init : goal.loop-cue-init
loop-cue-init c = record {
  keys = nil_timed c.new-keys.result.items (timed_keys (map cue_text c.args.cues.now)) c.new-keys.ensures.items;
  counts = All-same (λ (k : Key). k.count < 2 ^ 64) c.new-keys.result.items [] c.new-keys.ensures.items (All-nil (λ (k : Key). k.count < 2 ^ 64));
}

pub returns-in_default-clause-keys : goal.returns-in_default-clause-keys
returns-in_default-clause-keys c =
    none_timed c.loop-cue.keys.items c.args.cues.now c.loop-cue.cue-index c.cue-item.result c.loop-cue-test.true c.cue-item.is c.in_default.not-Key ∙ c.loop-cue.invariant.keys

pub loop-cue-preserved : goal.loop-cue-preserved
loop-cue-preserved c =
    let key : Key = c.in-Key.key in
    let most = c.if-prove.false in
    let fits : key.count < 2 ^ 64 = omega (arith, most) in
    record {
      keys = key_timed c.loop-cue.keys.items c.push.new.self.items c.args.cues.now c.loop-cue.cue-index c.cue-item.result c.in-Key.key c.loop-cue-test.true c.cue-item.is c.in-Key.is
          c.in_ok-push.ensures.items ∙ c.loop-cue.invariant.keys;
      counts = All-same (λ (k : Key). k.count < 2 ^ 64) _ _ c.in_ok-push.ensures.items (All-push (λ (k : Key). k.count < 2 ^ 64) c.loop-cue.keys.items key c.loop-cue.invariant.counts fits);
    }

pub returns-clause-keys : goal.returns-clause-keys
returns-clause-keys c = all_timed c.loop-cue.keys.items c.args.cues.now c.loop-cue.cue-index c.loop-cue-test.false ∙ c.loop-cue.invariant.keys
