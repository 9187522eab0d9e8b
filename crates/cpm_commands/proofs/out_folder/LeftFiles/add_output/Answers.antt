use Rattle.std.proofs.Common.{◌∙◌, ◌∷◌, [], ap, append-nil, arith, length, length-append, sym}
use Rattle.cpm_commands.specs.Get.{taken_outputs}
use Rattle.cpm_commands.specs.OutFolder.{left_unwritten}
use Rattle.cpm_commands.proofs.GetLemmas.{taken_push}
use Rattle.cpm_commands.proofs.out_folder.LeftFiles.add_output.Goals as goal

pub returns : goal.returns
returns c =
    let old = c.args.self.now in
    let path = c.args.path in
    let bytes = c.args.bytes in
    record {
      outputs_are = (λ i. taken_outputs (c.in_ok-push.ensures.items i) (c.in_ok-push-2.ensures.items i)) ∙ taken_push old.paths.items old.contents.items path bytes c.requires;
      unwritten_are = sym (append-nil (left_unwritten old));
      even = omega (arith, ap length c.in_ok-push.ensures.items, ap length c.in_ok-push-2.ensures.items, length-append old.paths.items (path ∷ []), length-append old.contents.items (bytes ∷ []), c.requires);
    }
