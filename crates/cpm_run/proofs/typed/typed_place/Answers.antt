use Rattle.std.proofs.Common.{◌∙◌, ⊎_elim, ap, arith, subst, sym}
use Rattle.cpm_config.specs.Rules.{is_opened, origin_view}
use Rattle.cpm_config.specs.declared.config.Origin.{Origin}
use Rattle.cpm_run.specs.Refusing.{IsForkOrigin}
use Rattle.cpm_run.proofs.TypedLemmas.{place_forked, place_typed, place_within}
use Rattle.cpm_run.proofs.typed.typed_place.Goals as goal

pub offset_bounds-sessions-place : goal.offset_bounds-sessions-place
offset_bounds-sessions-place c =
    let here = place_within c.in-Some.name.now c.as_slice-sessions.result.now c.in-Some-place_of.place (sym c.place_of.ensures ∙ c.in-Some-place_of.is) in
    let most = c.as_slice-sessions.type_inv.1 in
    omega (arith, here, most)

pub bounds-sessions-place : goal.bounds-sessions-place
bounds-sessions-place c = place_within c.in-Some.name.now c.as_slice-sessions.result.now c.in-Some-place_of.place (sym c.place_of.ensures ∙ c.in-Some-place_of.is)

pub returns-in-Opened-clause-place : goal.returns-in-Opened-clause-place
returns-in-Opened-clause-place c =
    place_typed c.args.config.now c.args.options c.in-Some.name c.in-Some-place_of.place c.as_slice-sessions.result.now c.index-sessions-place.result c.in-Some.is c.as_slice-sessions.ensures.value
    (sym c.place_of.ensures ∙ c.in-Some-place_of.is) (⊎_elim (λ opens. ap (λ (o : Origin). is_opened (origin_view o)) opens.3) (λ restores. ap (λ (o : Origin). is_opened (origin_view o)) restores.1) c.in-Opened.is)

pub returns-in-Forked-clause-refusal : goal.returns-in-Forked-clause-refusal
returns-in-Forked-clause-refusal c =
    place_forked c.args.config.now c.args.options c.in-Some.name c.in-Some-place_of.place c.as_slice-sessions.result.now c.index-sessions-place.result _ c.in-Some.is c.as_slice-sessions.ensures.value
    (sym c.place_of.ensures ∙ c.in-Some-place_of.is) (subst IsForkOrigin (sym c.in-Forked.is) tt) c.shown-in-Forked.ensures
