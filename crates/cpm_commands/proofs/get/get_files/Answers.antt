use Rattle.std.proofs.Common.{◌≡◌, ◌∙◌, List, None, Some, String, Global, ap, inl, inr, map, refl, subst}
use Rattle.std.proofs.lemmas.Result.{IfErr-weaker, err_from_is_err_and}
use Rattle.cpm_store.specs.Writes.{NamedBytes, named_output}
use Rattle.cpm_commands.specs.Get.{IsGetUnended, plan_of_get, taken_outputs}
use Rattle.cpm_commands.specs.Get.IsGetRefused.{Unended, Unseen, Untaken}
use Rattle.cpm_commands.specs.Plan.{Plan, plan_view}
use Rattle.cpm_commands.proofs.get.get_files.Goals as goal

pub returns-in_err-paths-clause-refusal : goal.returns-in_err-paths-clause-refusal
returns-in_err-paths-clause-refusal g c =
    let p = err_from_is_err_and c.from_residual-in_err-paths.result c.from_residual-in_err-paths.ensures.1 in
    rw (p.1, p.2) (Untaken c.in_ok-image.image c.in_ok-image.ensures.read (inl c.in_err-paths.ensures.refusal) refl)

pub returns-in_err-outputs-clause-refusal : goal.returns-in_err-outputs-clause-refusal
returns-in_err-outputs-clause-refusal g c =
    let p = err_from_is_err_and c.from_residual-in_err-outputs.result c.from_residual-in_err-outputs.ensures.1 in
    rw (p.1, p.2) (Untaken c.in_ok-image.image c.in_ok-image.ensures.read (inr refl) refl)

pub returns-in_err-plan-clause-refusal : goal.returns-in_err-plan-clause-refusal
returns-in_err-plan-clause-refusal g c =
    let p = err_from_is_err_and c.from_residual-in_err-plan.result c.from_residual-in_err-plan.ensures.1 in
    rw (p.1, p.2) (Untaken c.in_ok-image.image c.in_ok-image.ensures.read (inr refl) refl)

pub returns-in_err-see_to-clause-refusal : goal.returns-in_err-see_to-clause-refusal
returns-in_err-see_to-clause-refusal g c =
    let p = err_from_is_err_and c.from_residual-in_err-see_to.result c.from_residual-in_err-see_to.ensures.1 in
    let name = c.args.name.now in
    let how = c.args.how in
    let known = c.read_image.new.files in
    let taken = taken_outputs c.in_ok-paths.field-0.paths.items c.in_ok-paths.field-0.contents.items in
    let outputs = c.in_ok-outputs.ensures ∙ ap (λ (ps : List (String Global)). taken_outputs ps c.in_ok-paths.field-0.contents.items) c.as_slice.ensures.value in
    let fault = c.in_err-see_to.field-0.0 in
    let plan_is : plan_view c.in_ok-plan.plan ≡ plan_of_get name taken how.is_forced =
    c.in_ok-plan.ensures ∙ ap (λ (qs : List NamedBytes). plan_of_get name qs how.is_forced) (ap (map named_output) c.as_slice-2.ensures.value ∙ outputs) in
    let sees = subst (λ (q : Plan). g.F.CommandFiles.sees_to known q (Some fault) c.see_to.new.self) plan_is c.in_err-see_to.ensures.refused in
    rw (p.1, p.2) (Unseen taken (record {
      known = known;
      disk = c.in_ok-image.image;
      read = c.in_ok-image.ensures.read;
      took = c.in_ok-paths.ensures.taken;
      sees = sees;
    }) refl)

pub returns-clause-refusal : goal.returns-clause-refusal
returns-clause-refusal g c =
    let does = g.F.Store.does in
    let gives_names = g.F.CommandFiles.gives_names in
    let name = c.args.name.now in
    let how = c.args.how in
    let known = c.read_image.new.files in
    let seen = c.see_to.new.self in
    let taken = taken_outputs c.in_ok-paths.field-0.paths.items c.in_ok-paths.field-0.contents.items in
    let outputs = c.in_ok-outputs.ensures ∙ ap (λ (ps : List (String Global)). taken_outputs ps c.in_ok-paths.field-0.contents.items) c.as_slice.ensures.value in
    let plan_is : plan_view c.in_ok-plan.plan ≡ plan_of_get name taken how.is_forced =
    c.in_ok-plan.ensures ∙ ap (λ (qs : List NamedBytes). plan_of_get name qs how.is_forced) (ap (map named_output) c.as_slice-2.ensures.value ∙ outputs) in
    let sees = subst (λ (q : Plan). g.F.CommandFiles.sees_to known q None seen) plan_is c.in_ok-see_to.ensures.seen in
    IfErr-weaker c.end_get.result _ _
    (λ e h. Unended taken seen (record {
      known = known;
      disk = c.in_ok-image.image;
      read = c.in_ok-image.ensures.read;
      took = c.in_ok-paths.ensures.taken;
      sees = sees;
    }) (subst (λ (qs : List NamedBytes). IsGetUnended does gives_names how.is_dry qs seen c.end_get.new.files c.args.out.now c.end_get.new.out e)
    (ap (map named_output) c.as_slice-3.ensures.value ∙ outputs) h)) c.end_get.ensures.refusal
