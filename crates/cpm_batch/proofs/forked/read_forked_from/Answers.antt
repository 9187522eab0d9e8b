use Rattle.std.proofs.Common.{◌-◌, ◌∙◌, ℕ, [], ap, refl}
use Rattle.std.proofs.lemmas.Result.{err_from_is_err_and}
use Rattle.cpm_batch.specs.Inputs.{fork_need, forked_key_needs, given, keys_from, own_count}
use Rattle.cpm_batch.specs.Sources.{key_source}
use Rattle.cpm_batch.proofs.StopLemmas.{behind_need, stopped_as}
use Rattle.cpm_batch.proofs.forked.read_forked_from.Goals as goal

pub returns-in_err-cues-clause-refused_log : goal.returns-in_err-cues-clause-refused_log
returns-in_err-cues-clause-refused_log g c =
    let p = err_from_is_err_and c.from_residual-in_err-cues.result c.from_residual-in_err-cues.ensures.1 in
    let parent = given c.args.parent.now in
    let replays = c.args.replays.now in
    let keys = key_source replays c.args.session.now in
    let own = c.args.at - c.saved_count-saved.result in
    let needs = ap (λ (k : ℕ). forked_key_needs own k keys) c.known_of-known.ensures ∙ ap (λ (n : ℕ). keys_from replays keys parent (c.args.at - n)) c.saved_count-saved.ensures in
    rw (p.1, p.2) (behind_need g.S.Store.does (fork_need c.args.session.now parent.start c.args.at) (keys_from replays keys parent (own_count parent c.args.at)) _ c.args.store.now c.args.store.now
    c.read_forked_cues_of.new.store ([], (c.in_ok-check_fork.ensures.fits, refl), refl)
    (stopped_as g.S.Store.does _ (forked_key_needs own c.known_of-known.result keys) _ c.args.store.now c.read_forked_cues_of.new.store needs c.in_err-cues.ensures.refused_log))
