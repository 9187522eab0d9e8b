use Rattle.std.proofs.Common.{◌∙◌, ap, refl, sym}
use Rattle.std.proofs.lemmas.Result.{IfErr-weaker}
use Rattle.cpm_batch.specs.Inputs.{forked_needs, given}
use Rattle.cpm_batch.proofs.ForkedLemmas.{forked_input, forked_log}
use Rattle.cpm_batch.proofs.InputLemmas.{refusal_as}
use Rattle.cpm_batch.proofs.ParentLemmas.{parent_found, parent_read}
use Rattle.cpm_batch.proofs.StopLemmas.{stopped_as}
use Rattle.cpm_batch.proofs.forked.read_forked.Goals as goal

pub unreachable-requires : goal.unreachable-requires
unreachable-requires g c =
    let h = parent_found c.args.replays.now (g.S.Store.files c.args.store.now) _ c.args.name.now c.requires.before c.requires.parent in
    let none = sym c.in_default.is ∙ c.session_place.ensures.place ∙ h.found.first in
    absurd (cc)

pub read_forked_from-requires : goal.read_forked_from-requires
read_forked_from-requires g c =
    let p = parent_read c.args.replays.now (g.S.Store.files c.args.store.now) c.args.before.now c.args.name.now c.in-Some.place c.index-before-place.result c.requires.before c.requires.parent
    (sym c.in-Some.is ∙ c.session_place.ensures.place) c.in-Some.ensures.within c.index-before-place.is in
    record { few = p.few }

pub returns-clause-input : goal.returns-clause-input
returns-clause-input g c =
    let files = g.S.Store.files c.args.store.now in
    let p = parent_read c.args.replays.now files c.args.before.now c.args.name.now c.in-Some.place c.index-before-place.result c.requires.before c.requires.parent
    (sym c.in-Some.is ∙ c.session_place.ensures.place) c.in-Some.ensures.within c.index-before-place.is in
    let e = c.read_forked_from.ensures in
    forked_input files c.args.replays.now c.args.before.now c.args.name.now c.in-Some.place c.args.at c.args.session.now (given c.index-before-place.result) c.read_forked_from.result p e.fits e.start e.steps e.said e.session

pub returns-clause-log : goal.returns-clause-log
returns-clause-log g c =
    let files = g.S.Store.files c.args.store.now in
    let p = parent_read c.args.replays.now files c.args.before.now c.args.name.now c.in-Some.place c.index-before-place.result c.requires.before c.requires.parent
    (sym c.in-Some.is ∙ c.session_place.ensures.place) c.in-Some.ensures.within c.index-before-place.is in
    let e = c.read_forked_from.ensures in
    forked_log g.S.Store.does c.args.replays.now c.args.before.now c.args.name.now c.in-Some.place c.args.at c.args.session.now (given c.index-before-place.result) c.read_forked_from.result c.args.store.now
    c.read_forked_from.new.store p e.fits e.start e.log e.session

pub returns-clause-refusal : goal.returns-clause-refusal
returns-clause-refusal g c =
    let files = g.S.Store.files c.args.store.now in
    let p = parent_read c.args.replays.now files c.args.before.now c.args.name.now c.in-Some.place c.index-before-place.result c.requires.before c.requires.parent
    (sym c.in-Some.is ∙ c.session_place.ensures.place) c.in-Some.ensures.within c.index-before-place.is in
    let needs = ap (forked_needs c.args.replays.now c.args.session.now c.args.at) (sym p.named) in
    IfErr-weaker c.read_forked_from.result _ _ (λ e h. refusal_as files files _ _ e refl needs h) c.read_forked_from.ensures.refusal

pub returns-clause-refused_log : goal.returns-clause-refused_log
returns-clause-refused_log g c =
    let files = g.S.Store.files c.args.store.now in
    let p = parent_read c.args.replays.now files c.args.before.now c.args.name.now c.in-Some.place c.index-before-place.result c.requires.before c.requires.parent
    (sym c.in-Some.is ∙ c.session_place.ensures.place) c.in-Some.ensures.within c.index-before-place.is in
    let needs = ap (forked_needs c.args.replays.now c.args.session.now c.args.at) (sym p.named) in
    IfErr-weaker c.read_forked_from.result _ _ (λ e h. stopped_as g.S.Store.does _ _ e c.args.store.now c.read_forked_from.new.store needs h) c.read_forked_from.ensures.refused_log
