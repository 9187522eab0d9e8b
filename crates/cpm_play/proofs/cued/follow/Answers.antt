use Rattle.std.proofs.Common.{◌≡◌, ◌∷◌, ◌∙◌, ap, inl, inr, arith, refl, sym, true≢false}
use Rattle.std.proofs.lemmas.List.{nil_from_length}
use Rattle.std.proofs.lemmas.Result.{err_from_is_err_and}
use Rattle.cpm_script.specs.declared.cue.Cue.TheVariants.{Wait, Press}
use Rattle.cpm_play.specs.Cued.{looks_back}
use Rattle.cpm_play.specs.Output.{output_state}
use Rattle.cpm_play.specs.Typist.{is_over}
use Rattle.cpm_play.proofs.AttendedLemmas.{attended-more, attended-none}
use Rattle.cpm_play.proofs.CuedLemmas.{going-cut, going-press-cut, start-cut}
use Rattle.cpm_play.proofs.FollowLemmas.{at-key, at-wait, follow-end, follow-found, follow-pressed, follow-start, key-comes, key-cued, missed-busy, missed-cued, missed-going, over-cued, past-cued, unfound-cued, wait-busy, wait-cued, wait-going}
use Rattle.cpm_play.proofs.cued.follow.Goals.{in-Key, in-Press, else-live-steps-via-then-live-steps+else-has_met, else-live-steps-via-else-live-steps}
use Rattle.cpm_play.proofs.cued.follow.Goals as goal

pub loop-cue-init : goal.loop-cue-init
loop-cue-init g c = (
  follow-start c.args.system.now c.args.machine.now c.show_kept.new.machine c.args.steps c.args.cued.waits_from c.args.cued.cues.now (output_state (g.W.Write.contents c.args.out.now) (g.L.Write.contents c.args.list.now)) (output_state (g.W.Write.contents c.show_kept.new.out) (g.L.Write.contents c.show_kept.new.list))
      (g.S.Write.contents c.args.record.now) c.new.result.items c.new-shown.result c.show_kept.new.shown
      c.in_ok-show_kept.ensures.taken c.requires.ascii c.new.ensures.items c.new-shown.ensures.nothing c.new-shown.ensures.cues (λ looks. c.in_ok-show_kept.ensures.kept (c.looks_back.ensures ∙ looks)),
  attended-none (g.A.Attendant.attending c.args.attendant.now),
)

pub returns-in_err-show_kept-clause-refused : goal.returns-in_err-show_kept-clause-refused
returns-in_err-show_kept-clause-refused g c =
    let p = err_from_is_err_and c.from_residual.result c.from_residual.ensures.1 in
    rw (p.1, p.2) (start-cut c.args.system.now c.args.steps c.args.cued.waits_from c.args.cued.cues.now c.args.machine.now c.show_kept.new.machine (output_state (g.W.Write.contents c.args.out.now) (g.L.Write.contents c.args.list.now)) (output_state (g.W.Write.contents c.show_kept.new.out) (g.L.Write.contents c.show_kept.new.list))
    (g.S.Write.contents c.args.record.now) c.in_err-show_kept.field-0.0 c.in_err-show_kept.ensures.refused)

pub press-requires-clause-ascii : goal.press-requires-clause-ascii
press-requires-clause-ascii g c =
    let cue = at-key c.in-Some.cue.now c.loop-cue.rest.now c.in-Some.after.now c.match-cue.count.0 c.match-cue.count.1 c.in-Some.ensures.cases.0
    (elim c.match-cue.branch [
      | in-Key w ↦ inl (w.in-Key.key, w.in-Key.is, ap (λ p. p.0) w.count-is ∙ w.max.ensures, ap (λ p. p.1) w.count-is)
      | in-Press w ↦ inr (w.in-Press.is ∙ sym (ap (λ p. Press p.1) w.count-is), ap (λ p. p.0) w.count-is)
    ]) c.loop-cue.invariant.0 in
    cue.ascii

pub press-requires-clause-later : goal.press-requires-clause-later
press-requires-clause-later g c =
    let cue = at-key c.in-Some.cue.now c.loop-cue.rest.now c.in-Some.after.now c.match-cue.count.0 c.match-cue.count.1 c.in-Some.ensures.cases.0
    (elim c.match-cue.branch [
      | in-Key w ↦ inl (w.in-Key.key, w.in-Key.is, ap (λ p. p.0) w.count-is ∙ w.max.ensures, ap (λ p. p.1) w.count-is)
      | in-Press w ↦ inr (w.in-Press.is ∙ sym (ap (λ p. Press p.1) w.count-is), ap (λ p. p.0) w.count-is)
    ]) c.loop-cue.invariant.0 in
    cue.later

pub press-requires-clause-quiet : goal.press-requires-clause-quiet
press-requires-clause-quiet g c =
    c.loop-cue.invariant.0.going.quiet

pub loop-cue-preserved : goal.loop-cue-preserved
loop-cue-preserved g c =
    let cue = at-key c.in-Some.cue.now c.loop-cue.rest.now c.in-Some.after.now c.match-cue.count.0 c.match-cue.count.1 c.in-Some.ensures.cases.0
    (elim c.match-cue.branch [
      | in-Key w ↦ inl (w.in-Key.key, w.in-Key.is, ap (λ p. p.0) w.count-is ∙ w.max.ensures, ap (λ p. p.1) w.count-is)
      | in-Press w ↦ inr (w.in-Press.is ∙ sym (ap (λ p. Press p.1) w.count-is), ap (λ p. p.0) w.count-is)
    ]) c.loop-cue.invariant.0 in
    let came = c.in_ok-press.ensures.count c.if-not-branch.false in (
      follow-pressed c.loop-cue.invariant.0 cue c.press.new.machine (output_state (g.W.Write.contents c.press.new.out) (g.L.Write.contents c.press.new.list)) (g.S.Write.contents c.press.new.record) c.press.new.self.keys.items c.press.new.self.steps c.restart.new.self
          came.0 (let most = c.ranges.steps.fits in omega arith) came.1 (c.in_ok-press.ensures.pressed c.if-not-branch.false) (c.in_ok-press.ensures.keys c.if-not-branch.false) c.restart.ensures.nothing c.restart.ensures.cues,
      attended-more _ _ _ c.loop-cue.invariant.1 c.press.ensures.attended,
    )

pub returns-then-not-branch-clause-going : goal.returns-then-not-branch-clause-going
returns-then-not-branch-clause-going g c =
    let cue = at-key c.in-Some.cue.now c.loop-cue.rest.now c.in-Some.after.now c.match-cue.count.0 c.match-cue.count.1 c.in-Some.ensures.cases.0
    (elim c.match-cue.branch [
      | in-Key w ↦ inl (w.in-Key.key, w.in-Key.is, ap (λ p. p.0) w.count-is ∙ w.max.ensures, ap (λ p. p.1) w.count-is)
      | in-Press w ↦ inr (w.in-Press.is ∙ sym (ap (λ p. Press p.1) w.count-is), ap (λ p. p.0) w.count-is)
    ]) c.loop-cue.invariant.0 in
    missed-going c.loop-cue.invariant.0 cue (c.in_ok-press.ensures.missed c.if-not-branch.true) (c.in_ok-press.ensures.still c.if-not-branch.true)

pub returns-then-not-branch-clause-keys : goal.returns-then-not-branch-clause-keys
returns-then-not-branch-clause-keys g c =
    let cue = at-key c.in-Some.cue.now c.loop-cue.rest.now c.in-Some.after.now c.match-cue.count.0 c.match-cue.count.1 c.in-Some.ensures.cases.0
    (elim c.match-cue.branch [
      | in-Key w ↦ inl (w.in-Key.key, w.in-Key.is, ap (λ p. p.0) w.count-is ∙ w.max.ensures, ap (λ p. p.1) w.count-is)
      | in-Press w ↦ inr (w.in-Press.is ∙ sym (ap (λ p. Press p.1) w.count-is), ap (λ p. p.0) w.count-is)
    ]) c.loop-cue.invariant.0 in
    missed-cued c.loop-cue.invariant.0 cue (c.in_ok-press.ensures.missed c.if-not-branch.true) (c.in_ok-press.ensures.still c.if-not-branch.true)

pub returns-then-not-branch-clause-busy : goal.returns-then-not-branch-clause-busy
returns-then-not-branch-clause-busy g c =
    let cue = at-key c.in-Some.cue.now c.loop-cue.rest.now c.in-Some.after.now c.match-cue.count.0 c.match-cue.count.1 c.in-Some.ensures.cases.0
    (elim c.match-cue.branch [
      | in-Key w ↦ inl (w.in-Key.key, w.in-Key.is, ap (λ p. p.0) w.count-is ∙ w.max.ensures, ap (λ p. p.1) w.count-is)
      | in-Press w ↦ inr (w.in-Press.is ∙ sym (ap (λ p. Press p.1) w.count-is), ap (λ p. p.0) w.count-is)
    ]) c.loop-cue.invariant.0 in
    missed-busy c.loop-cue.invariant.0 cue (c.in_ok-press.ensures.missed c.if-not-branch.true) (c.in_ok-press.ensures.still c.if-not-branch.true)

pub returns-in_err-press-clause-refused : goal.returns-in_err-press-clause-refused
returns-in_err-press-clause-refused g c =
    let p = err_from_is_err_and c.from_residual-in_err-press.result c.from_residual-in_err-press.ensures.1 in
    let cue = at-key c.in-Some.cue.now c.loop-cue.rest.now c.in-Some.after.now c.match-cue.count.0 c.match-cue.count.1 c.in-Some.ensures.cases.0
    (elim c.match-cue.branch [
      | in-Key w ↦ inl (w.in-Key.key, w.in-Key.is, ap (λ p. p.0) w.count-is ∙ w.max.ensures, ap (λ p. p.1) w.count-is)
      | in-Press w ↦ inr (w.in-Press.is ∙ sym (ap (λ p. Press p.1) w.count-is), ap (λ p. p.0) w.count-is)
    ]) c.loop-cue.invariant.0 in
    let early = c.in_err-press.ensures.early in
    rw (p.1, p.2) (going-press-cut c.args.cued.waits_from c.args.cued.cues.now c.loop-cue.invariant.0.going _ c.press.new.machine (output_state (g.W.Write.contents c.press.new.out) (g.L.Write.contents c.press.new.list)) (g.S.Write.contents c.press.new.record) c.in_err-press.field-0.0
    cue.later early c.in_err-press.ensures.refused (key-cued c.loop-cue.invariant.0 cue early) (key-comes c.loop-cue.invariant.0 cue early))

pub idle-requires-clause-quiet : goal.idle-requires-clause-quiet
idle-requires-clause-quiet g c =
    c.loop-cue.invariant.0.going.quiet

pub idle-requires-clause-within : goal.idle-requires-clause-within
idle-requires-clause-within g c =
    c.loop-cue.invariant.0.going.within

pub returns-in_err-idle-in-Wait-clause-refused : goal.returns-in_err-idle-in-Wait-clause-refused
returns-in_err-idle-in-Wait-clause-refused g c =
    let p = err_from_is_err_and c.from_residual-in_err-idle-in-Wait.result c.from_residual-in_err-idle-in-Wait.ensures.1 in
    let following = at-wait c.in-Some.cue.now c.in-Wait.text c.loop-cue.rest.now c.in-Some.after.now c.loop-cue.live.keys.items c.in-Some.ensures.cases.0 c.in-Wait.is refl c.loop-cue.invariant.0 in
    let cut = c.in_err-idle-in-Wait.ensures.refused in
    let fits = cut.1 in
    let within = c.loop-cue.invariant.0.going.within in
    rw (p.1, p.2) (going-cut c.args.cued.waits_from c.args.cued.cues.now c.loop-cue.invariant.0.going c.idle.new.machine (output_state (g.W.Write.contents c.idle.new.out) (g.L.Write.contents c.idle.new.list)) c.in_err-idle-in-Wait.field-0.0 cut.0 cut.1 cut.2
    (wait-cued following _ (omega arith) (omega arith) cut.3))

pub loop-cue-preserved-then-has_met : goal.loop-cue-preserved-then-has_met
loop-cue-preserved-then-has_met g c =
    let next : c.loop-cue.rest.now ≡ Wait c.in-Wait.text ∷ c.in-Some.after.now = c.in-Some.ensures.cases.0 ∙ ap (λ x. x ∷ c.in-Some.after.now) c.in-Wait.is in
    let following = at-wait c.in-Some.cue.now c.in-Wait.text c.loop-cue.rest.now c.in-Some.after.now c.idle.new.self.keys.items c.in-Some.ensures.cases.0 c.in-Wait.is c.idle.ensures.still c.loop-cue.invariant.0 in (
      follow-found following c.idle.new.shown c.in_ok-idle-in-Wait.ensures.within c.in_ok-idle-in-Wait.ensures.idled (λ looks. c.in_ok-idle-in-Wait.ensures.kept (c.looks_back-keeps.ensures ∙ ap looks_back next ∙ looks))
          c.as_slice.result.now c.as_slice.ensures.value (sym c.is_over.ensures ∙ c.if-is_over.false) c.if-live-steps.true (c.has_met.ensures.met c.if-has_met.true),
      attended-more _ _ _ c.loop-cue.invariant.1 c.idle.ensures.attended,
    )

pub returns-in-Wait-clause-going : goal.returns-in-Wait-clause-going
returns-in-Wait-clause-going g c =
    let next : c.loop-cue.rest.now ≡ Wait c.in-Wait.text ∷ c.in-Some.after.now = c.in-Some.ensures.cases.0 ∙ ap (λ x. x ∷ c.in-Some.after.now) c.in-Wait.is in
    let following = at-wait c.in-Some.cue.now c.in-Wait.text c.loop-cue.rest.now c.in-Some.after.now c.idle.new.self.keys.items c.in-Some.ensures.cases.0 c.in-Wait.is c.idle.ensures.still c.loop-cue.invariant.0 in
    wait-going following c.idle.new.shown c.in_ok-idle-in-Wait.ensures.within c.in_ok-idle-in-Wait.ensures.idled (λ looks. c.in_ok-idle-in-Wait.ensures.kept (c.looks_back-keeps.ensures ∙ ap looks_back next ∙ looks))

pub returns-in-Wait-clause-keys : goal.returns-in-Wait-clause-keys
returns-in-Wait-clause-keys g c =
    let next : c.loop-cue.rest.now ≡ Wait c.in-Wait.text ∷ c.in-Some.after.now = c.in-Some.ensures.cases.0 ∙ ap (λ x. x ∷ c.in-Some.after.now) c.in-Wait.is in
    let following = at-wait c.in-Some.cue.now c.in-Wait.text c.loop-cue.rest.now c.in-Some.after.now c.idle.new.self.keys.items c.in-Some.ensures.cases.0 c.in-Wait.is c.idle.ensures.still c.loop-cue.invariant.0 in
    elim c.else-live-steps.branch [
      | else-live-steps-via-then-live-steps+else-has_met w ↦
          unfound-cued following c.idle.new.shown c.in_ok-idle-in-Wait.ensures.within c.in_ok-idle-in-Wait.ensures.idled (λ looks. c.in_ok-idle-in-Wait.ensures.kept (c.looks_back-keeps.ensures ∙ ap looks_back next ∙ looks))
          w.as_slice.result.now w.as_slice.ensures.value (sym c.is_over.ensures ∙ c.if-is_over.false) (w.has_met.ensures.unmet w.if-has_met.false)
      | else-live-steps-via-else-live-steps w ↦ past-cued following c.idle.new.shown c.in_ok-idle-in-Wait.ensures.within c.in_ok-idle-in-Wait.ensures.idled (λ looks. c.in_ok-idle-in-Wait.ensures.kept (c.looks_back-keeps.ensures ∙ ap looks_back next ∙ looks)) (sym c.is_over.ensures ∙ c.if-is_over.false) w.if-live-steps.false
    ]

pub returns-in-Wait-clause-busy : goal.returns-in-Wait-clause-busy
returns-in-Wait-clause-busy g c =
    let next : c.loop-cue.rest.now ≡ Wait c.in-Wait.text ∷ c.in-Some.after.now = c.in-Some.ensures.cases.0 ∙ ap (λ x. x ∷ c.in-Some.after.now) c.in-Wait.is in
    let following = at-wait c.in-Some.cue.now c.in-Wait.text c.loop-cue.rest.now c.in-Some.after.now c.idle.new.self.keys.items c.in-Some.ensures.cases.0 c.in-Wait.is c.idle.ensures.still c.loop-cue.invariant.0 in
    λ _. inr (wait-busy following c.idle.new.shown c.in_ok-idle-in-Wait.ensures.within c.in_ok-idle-in-Wait.ensures.idled (λ looks. c.in_ok-idle-in-Wait.ensures.kept (c.looks_back-keeps.ensures ∙ ap looks_back next ∙ looks)))

pub returns-clause-going : goal.returns-clause-going
returns-clause-going g c =
    c.loop-cue.invariant.0.going

pub returns-clause-keys : goal.returns-clause-keys
returns-clause-keys g c =
    follow-end (nil_from_length c.loop-cue.rest.now c.in_default.ensures.cases) c.loop-cue.invariant.0 (is_over (g.A.Attendant.attending c.loop-cue.attendant))

pub returns-clause-busy : goal.returns-clause-busy
returns-clause-busy g c =
    λ _. inr c.loop-cue.invariant.0.busy

pub returns-then-is_over-clause-going : goal.returns-then-is_over-clause-going
returns-then-is_over-clause-going g c =
    let next : c.loop-cue.rest.now ≡ Wait c.in-Wait.text ∷ c.in-Some.after.now = c.in-Some.ensures.cases.0 ∙ ap (λ x. x ∷ c.in-Some.after.now) c.in-Wait.is in
    let following = at-wait c.in-Some.cue.now c.in-Wait.text c.loop-cue.rest.now c.in-Some.after.now c.idle.new.self.keys.items c.in-Some.ensures.cases.0 c.in-Wait.is c.idle.ensures.still c.loop-cue.invariant.0 in
    wait-going following c.idle.new.shown c.in_ok-idle-in-Wait.ensures.within c.in_ok-idle-in-Wait.ensures.idled (λ looks. c.in_ok-idle-in-Wait.ensures.kept (c.looks_back-keeps.ensures ∙ ap looks_back next ∙ looks))

pub returns-then-is_over-clause-keys : goal.returns-then-is_over-clause-keys
returns-then-is_over-clause-keys g c =
    let next : c.loop-cue.rest.now ≡ Wait c.in-Wait.text ∷ c.in-Some.after.now = c.in-Some.ensures.cases.0 ∙ ap (λ x. x ∷ c.in-Some.after.now) c.in-Wait.is in
    let following = at-wait c.in-Some.cue.now c.in-Wait.text c.loop-cue.rest.now c.in-Some.after.now c.idle.new.self.keys.items c.in-Some.ensures.cases.0 c.in-Wait.is c.idle.ensures.still c.loop-cue.invariant.0 in
    over-cued following c.idle.new.shown c.in_ok-idle-in-Wait.ensures.within c.in_ok-idle-in-Wait.ensures.idled (λ looks. c.in_ok-idle-in-Wait.ensures.kept (c.looks_back-keeps.ensures ∙ ap looks_back next ∙ looks)) (sym c.is_over.ensures ∙ c.if-is_over.true)

pub returns-then-is_over-clause-busy : goal.returns-then-is_over-clause-busy
returns-then-is_over-clause-busy g c = λ not_over. absurd (true≢false (sym c.if-is_over.true ∙ c.is_over.ensures ∙ not_over))
