use Rattle.std.proofs.Common.{◌≡◌, ◌∷◌, not, ap, sym, ◌∙◌}
use Rattle.cpm_script.specs.declared.cue.Cue.TheVariants.{Wait}
use Rattle.cpm_play.proofs.ShownLemmas.{find-none, find-some, noting-found, noting-known, noting-other}
use Rattle.cpm_play.proofs.shown.note.Goals as goal

pub loop-cue-preserved-then-is_none : goal.loop-cue-preserved-then-is_none
loop-cue-preserved-then-is_none c =
    let next : c.loop-cue.rest.now ≡ Wait c.in-Wait.text ∷ c.in-Some.after.now = c.in-Some.ensures.cases.0 ∙ ap (λ x. x ∷ c.in-Some.after.now) c.in-Wait.is in
    noting-other c.loop-cue.invariant c.in-Wait.text next c.max-longest.result c.as_slice-text.result.now c.max-longest.ensures c.as_slice-text.ensures.value
    (find-none c.args.tail.now c.as_slice-text.result.now c.find.result c.find.ensures (c.is_none.ensures ∙ ap not c.if-is_none.true))

pub loop-cue-preserved-in_ok-push : goal.loop-cue-preserved-in_ok-push
loop-cue-preserved-in_ok-push c =
    let next : c.loop-cue.rest.now ≡ Wait c.in-Wait.text ∷ c.in-Some.after.now = c.in-Some.ensures.cases.0 ∙ ap (λ x. x ∷ c.in-Some.after.now) c.in-Wait.is in
    noting-found c.loop-cue.invariant c.in-Wait.text next c.push.new.self.items c.as_slice-text.result c.in_ok-push.ensures.items c.as_slice-text.ensures.value
    (find-some c.args.tail.now c.as_slice-text.result.now c.find.result c.find.ensures (c.is_none.ensures ∙ ap not c.if-is_none.false))

pub loop-cue-preserved : goal.loop-cue-preserved
loop-cue-preserved c =
    let next : c.loop-cue.rest.now ≡ Wait c.in-Wait.text ∷ c.in-Some.after.now = c.in-Some.ensures.cases.0 ∙ ap (λ x. x ∷ c.in-Some.after.now) c.in-Wait.is in
    noting-known c.loop-cue.invariant c.in-Wait.text next c.as_slice-text.result.now c.as_slice.result.now c.as_slice.ensures.value c.as_slice-text.ensures.value
    (sym c.is_found.ensures ∙ c.if-not-is_found.false)
