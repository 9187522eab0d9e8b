use Rattle.std.proofs.Common.{◌≡◌, ◌∙◌, ◌+◌, ◌^◌, ◌<◌, ◌≤◌, ◌++◌, ℕ, List, [], ◌∷◌, Option, Some, ap, arith, drop, get_or, length, map, rules, slice_get, subst, sym}
use Rattle.std.specs.Prelude.{option_map}
use Rattle.std.specs.Vec.Iter.{into_iter_items, into_iter_len}
use Rattle.std.proofs.lemmas.Bool.Decides.{nat_tests}
use Rattle.std.proofs.lemmas.List.{length_push, nil_from_length}
use Rattle.std.proofs.lemmas.Option.{slice_get-get_or, slice_get-map}
use Rattle.cpm_run.specs.Kept.{FitIfAny, kept_view, standing_view}
use Rattle.cpm_run.specs.Settled.{SettledSession, settled_view}
use Rattle.cpm_run.specs.Rest.{RunStanding, SessionStanding, stands_all, stands_by, standing_at}
use Rattle.cpm_run.specs.Standing.{join_all, join_standings, joined_if}
use Rattle.cpm_run.specs.declared.settled.SettledInput.{SettledInput}
use Rattle.cpm_run.specs.declared.standing.KeptSession.{KeptSession}
use Rattle.cpm_run.proofs.JoinLemmas.{fit-at, join-end, join-more, next-kept, none-left, others-next, rest-kept-long}
use Rattle.cpm_run.proofs.RestLemmas.{kept-there}
use Rattle.cpm_run.proofs.joining.join_kept.Goals as goal

pub returns-in_default-get : goal.returns-in_default-get
returns-in_default-get c = λ system one two.
    let l = c.loop-session in
    let test = c.in_default-get.ensures.lookup.0 in
    let long = l.all.ok.0 in
    let kept = standing_view c.args.kept.now in
    let place = c.len-place.ensures in
    let end : length c.args.inputs.now ≤ c.len-place.result = grind (arith, nat_tests) in
    let past : length c.args.inputs.now ≤ length l.all.items = omega (arith, long, place, end) in
    join-end kept kept (join_standings (map settled_view c.args.inputs.now) kept (standing_view c.args.rest.items)) (standing_view (into_iter_items l.others)) c.args.inputs.now (length l.all.items) l.all.items past
    (l.invariant.joined system one two)

pub loop-session-preserved : goal.loop-session-preserved
loop-session-preserved c =
    let l = c.loop-session in
    let test = c.in-Some-get.ensures.lookup.0 in
    let size = l.all.ok.0 in
    let place = c.len-place.ensures in
    let inputs = c.args.inputs.now in
    let kept = standing_view c.args.kept.now in
    let n : ℕ = length l.all.items in
    let input : SettledInput = c.in-Some-get.input.now in
    let session : Option KeptSession = c.in-Some.session in
    let later : List (Option KeptSession) = into_iter_items c.next.new.self in
    let this : c.len-place.result ≡ length l.all.items = omega (arith, size, place) in
    let inside : c.len-place.result < length c.args.inputs.now = grind (arith, nat_tests) in
    let within : length l.all.items < length c.args.inputs.now = omega (arith, this, inside) in
    let at : input ≡ get_or inputs n input = subst (λ (m : ℕ). input ≡ get_or inputs m input) this c.in-Some-get.ensures.lookup.1 in
    let others : session ∷ later ≡ drop n c.args.rest.items = sym c.in-Some.ensures.cases.0 ∙ l.invariant.others in
    let longer : length c.push.new.self.items ≡ n + 1 = ap length c.in_ok-push.ensures.items ∙ length_push l.all.items c.in_ok-join_session.field-0 in
    let most = c.most_steps-steps.type_inv in
    let these = c.most_steps-steps.ensures in
    let steps : input.steps < 2 ^ 64 = omega (arith, most, these) in
    let long = c.len-keys.type_inv in
    let count = c.len-keys.ensures in
    let whole_vec = input.keys.ok.0 in
    let keys : length input.keys.items < 2 ^ 64 = omega (arith, long, count, whole_vec) in
    record {
      joined = λ system one two.
          let ins : List SettledSession = map settled_view inputs in
          let whole : RunStanding = join_standings ins kept (standing_view c.args.rest.items) in
          let from : RunStanding = stands_all kept ins kept in
          let seen : Option SessionStanding = option_map kept_view session in
          let there : slice_get ins n ≡ Some (settled_view input) = slice_get-map settled_view inputs n ∙ ap (option_map settled_view) (slice_get-get_or inputs n input within ∙ ap Some (sym at)) in
          let fit = fit-at system ins kept (standing_view c.args.rest.items) n (settled_view input) one two there steps keys in
          let stands = kept-there kept inputs n input within at in
          let fit_here : FitIfAny (standing_at from n) seen =
          subst (λ (o : Option SessionStanding). FitIfAny o seen) (sym stands)
          (subst (λ (o : Option SessionStanding). FitIfAny (stands_by kept (standing_at kept n) (settled_view input).start) o) (sym (next-kept n c.args.rest.items later session others)) fit) in
          let one_is = c.in_ok-join_session.ensures (subst (λ (m : ℕ). FitIfAny (standing_at from m) seen) (sym this) fit_here)
          ∙ ap (λ (m : ℕ). joined_if (standing_at from m) (standing_at kept m) seen) this ∙ ap (λ (o : Option SessionStanding). joined_if o (standing_at kept n) seen) stands in
          subst (λ (m : ℕ). standing_view c.push.new.self.items ++ join_all kept (map settled_view (drop m inputs)) (drop m kept) (standing_view later) ≡ whole) (sym longer)
          (join-more kept kept whole inputs n input c.in_ok-join_session.field-0 session l.all.items c.push.new.self.items later within at one_is c.in_ok-push.ensures.items
          (ap (λ (ks : List (Option KeptSession)). standing_view l.all.items ++ join_all kept (map settled_view (drop n inputs)) (drop n kept) (standing_view ks)) (sym c.in-Some.ensures.cases.0)
          ∙ l.invariant.joined system one two));
      others = others-next n c.args.rest.items later session others ∙ ap (λ (m : ℕ). drop m c.args.rest.items) (sym longer);
    }

pub returns : goal.returns
returns c = λ system one two.
    let l = c.loop-session in
    let kept = standing_view c.args.kept.now in
    let size : length (into_iter_items l.others) ≡ into_iter_len l.others = search rules in
    let none : into_iter_items l.others ≡ [] = nil_from_length (into_iter_items l.others) (size ∙ c.in_default.ensures.cases.0) in
    let all = none-left (length l.all.items) c.args.rest.items (sym none ∙ l.invariant.others) in
    let same = rest-kept-long system c.args.inputs.now kept c.args.rest.items two in
    join-end kept kept (join_standings (map settled_view c.args.inputs.now) kept (standing_view c.args.rest.items)) (standing_view (into_iter_items l.others)) c.args.inputs.now (length l.all.items) l.all.items
    (omega (arith, all, same)) (l.invariant.joined system one two)
