use Rattle.std.proofs.Common.{◌∙◌, map, arith}
use Rattle.cpm_store.specs.Writes.{named_output}
use Rattle.cpm_batch.proofs.OutputLemmas.{four_images, image_is}
use Rattle.cpm_batch.proofs.output.add_images.Goals as goal
use Rattle.std.proofs.Common.{◌++◌, ap}

pub returns : goal.returns
returns c =
    let names = c.args.names.now in
    let drives = c.args.drives in
    let b = c.take_drive.ensures.rest in
    let d = c.take_drive-2.ensures.rest in
    let e = c.take_drive-3.ensures.rest in
    let second = c.take_drive-2.ensures.drive ∙ b 1 (omega arith) in
    let third = c.take_drive-3.ensures.drive ∙ d 2 (omega arith) ∙ b 2 (omega arith) in
    let fourth = c.take_drive-4.ensures.drive ∙ e 3 (omega arith) ∙ d 3 (omega arith) ∙ b 3 (omega arith) in
    four_images names drives (map named_output c.args.outputs.now.items) (map named_output c.add_image.new.outputs.items) (map named_output c.add_image-2.new.outputs.items) (map named_output c.add_image-3.new.outputs.items)
    (map named_output c.add_image-4.new.outputs.items)
    (c.in_ok-add_image.ensures ∙ ap (λ xs. map named_output c.args.outputs.now.items ++ xs) (image_is names drives 0 _ c.take_drive.result c.name_at.ensures c.take_drive.ensures.drive))
    (c.in_ok-add_image-2.ensures ∙ ap (λ xs. map named_output c.add_image.new.outputs.items ++ xs) (image_is names drives 1 _ c.take_drive-2.result c.name_at-2.ensures second))
    (c.in_ok-add_image-3.ensures ∙ ap (λ xs. map named_output c.add_image-2.new.outputs.items ++ xs) (image_is names drives 2 _ c.take_drive-3.result c.name_at-3.ensures third))
    (c.in_ok-add_image-4.ensures ∙ ap (λ xs. map named_output c.add_image-3.new.outputs.items ++ xs) (image_is names drives 3 _ c.take_drive-4.result c.name_at-4.ensures fourth))
