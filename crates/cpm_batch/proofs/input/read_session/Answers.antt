use Rattle.std.proofs.Common.{map, refl}
use Rattle.std.proofs.lemmas.Result.{IfErr-weaker}
use Rattle.cpm_batch.specs.Inputs.{given}
use Rattle.cpm_batch.proofs.InputLemmas.{forked_needs_are, refusal_as, restored_needs_are}
use Rattle.cpm_batch.proofs.ReadLemmas.{forked_read, opened_read, restored_read}
use Rattle.cpm_batch.proofs.StopLemmas.{stopped_as}
use Rattle.cpm_batch.proofs.input.read_session.Goals as goal

pub returns-in-Opened-clause-log : goal.returns-in-Opened-clause-log
returns-in-Opened-clause-log g c =
    opened_read g.S.Store.does c.args.replays.now c.read_opened.result (map given c.args.before.now) c.args.session.now c.in-Opened.cpu c.in-Opened.quota c.in-Opened.drives c.as_slice.result.now c.args.store.now
    c.read_opened.new.store c.in-Opened.is c.as_slice.ensures.value c.read_opened.ensures.session c.read_opened.ensures.log

pub returns-in-Forked-clause-log : goal.returns-in-Forked-clause-log
returns-in-Forked-clause-log g c =
    forked_read g.S.Store.does c.args.replays.now c.read_forked.result (map given c.args.before.now) c.args.session.now c.in-Forked.parent c.in-Forked.at c.as_str.result.now c.args.store.now c.read_forked.new.store
    c.in-Forked.is c.as_str.ensures.value c.read_forked.ensures.session c.read_forked.ensures.log

pub returns-in-Forked-clause-refusal : goal.returns-in-Forked-clause-refusal
returns-in-Forked-clause-refusal g c =
    let files = g.S.Store.files c.args.store.now in
    let needs = forked_needs_are c.args.replays.now (map given c.args.before.now) c.args.session.now c.in-Forked.parent c.in-Forked.at c.as_str.result.now c.in-Forked.is c.as_str.ensures.value in
    IfErr-weaker c.read_forked.result _ _ (λ e h. refusal_as files files _ _ e refl needs h) c.read_forked.ensures.refusal

pub returns-in-Forked-clause-refused_log : goal.returns-in-Forked-clause-refused_log
returns-in-Forked-clause-refused_log g c =
    let needs = forked_needs_are c.args.replays.now (map given c.args.before.now) c.args.session.now c.in-Forked.parent c.in-Forked.at c.as_str.result.now c.in-Forked.is c.as_str.ensures.value in
    IfErr-weaker c.read_forked.result _ _ (λ e h. stopped_as g.S.Store.does _ _ e c.args.store.now c.read_forked.new.store needs h) c.read_forked.ensures.refused_log

pub returns-in-Restored-clause-log : goal.returns-in-Restored-clause-log
returns-in-Restored-clause-log g c =
    restored_read g.S.Store.does c.args.replays.now c.read_restored.result (map given c.args.before.now) c.args.session.now c.in-Restored.saving c.as_str-in-Restored.result.now c.args.store.now c.read_restored.new.store
    c.in-Restored.is c.as_str-in-Restored.ensures.value c.read_restored.ensures.session c.read_restored.ensures.log

pub returns-in-Restored-clause-refusal : goal.returns-in-Restored-clause-refusal
returns-in-Restored-clause-refusal g c =
    let files = g.S.Store.files c.args.store.now in
    let needs = restored_needs_are c.args.replays.now (map given c.args.before.now) c.args.session.now c.in-Restored.saving c.as_str-in-Restored.result.now c.in-Restored.is c.as_str-in-Restored.ensures.value in
    IfErr-weaker c.read_restored.result _ _ (λ e h. refusal_as files files _ _ e refl needs h) c.read_restored.ensures.refusal

pub returns-in-Restored-clause-refused_log : goal.returns-in-Restored-clause-refused_log
returns-in-Restored-clause-refused_log g c =
    let needs = restored_needs_are c.args.replays.now (map given c.args.before.now) c.args.session.now c.in-Restored.saving c.as_str-in-Restored.result.now c.in-Restored.is c.as_str-in-Restored.ensures.value in
    IfErr-weaker c.read_restored.result _ _ (λ e h. stopped_as g.S.Store.does _ _ e c.args.store.now c.read_restored.new.store needs h) c.read_restored.ensures.refused_log
