use Rattle.std.proofs.Common.{List, subst}
use Rattle.std.proofs.lemmas.Result.{IfErr-weaker, err_from_is_err_and}
use Rattle.cpm_image_files.specs.declared.name.FileName.{FileName}
use Rattle.cpm_commands.specs.Get.{IsCrowded, IsTakingStopped}
use Rattle.cpm_commands.specs.Get.IsTakingRefused.{Crowded, Stopped, Unnamed}
use Rattle.cpm_commands.proofs.get.take_named.Goals as goal

pub returns-in_err-named-clause-refusal : goal.returns-in_err-named-clause-refusal
returns-in_err-named-clause-refusal g c =
    let p = err_from_is_err_and c.from_residual.result c.from_residual.ensures.1 in
    rw (p.1, p.2) (Unnamed c.in_err-named.ensures.refusal)

pub returns-in_err-check_room-clause-refusal : goal.returns-in_err-check_room-clause-refusal
returns-in_err-check_room-clause-refusal g c =
    let p = err_from_is_err_and c.from_residual-in_err-check_room.result c.from_residual-in_err-check_room.ensures.1 in
    let to = c.destination_of-to.result in
    let why = c.in_err-check_room.ensures.refusal in
    rw (p.1, p.2) (Crowded c.in_ok-named.named.items to c.in_ok-named.ensures.named c.destination_of-to.ensures
    (subst (λ (fs : List FileName). IsCrowded to fs) c.as_slice.ensures.value why.0) why.1)

pub returns-clause-refusal : goal.returns-clause-refusal
returns-clause-refusal g c =
    let to = c.destination_of-to.result in
    let room = subst (λ (fs : List FileName). IsCrowded to fs → ⊥) c.as_slice.ensures.value c.in_ok-check_room.ensures.room in
    IfErr-weaker c.take_all.result _ _
    (λ e h. Stopped c.in_ok-named.named.items to c.in_ok-named.ensures.named c.destination_of-to.ensures room
    (subst (λ (fs : List FileName). IsTakingStopped c.args.name.now c.args.image.now to c.args.how.is_text fs e) c.as_slice-2.ensures.value h)) c.take_all.ensures.refusal
