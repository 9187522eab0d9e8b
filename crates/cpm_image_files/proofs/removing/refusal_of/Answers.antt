use Rattle.std.proofs.Common.{◌≢◌, sym, ◌∙◌, arith}
use Rattle.cpm_volume.specs.Files.{deleted}
use Rattle.cpm_image_files.proofs.CountLemmas.{any_there, any_absent}
use Rattle.cpm_image_files.proofs.removing.refusal_of.Goals as goal

pub returns-then-not-is_there : goal.returns-then-not-is_there
returns-then-not-is_there c =
    let live : c.args.file.now.user ≢ deleted = λ z. absurd (let small = c.args.file.now.within in omega arith) in
    any_absent c.args.image.now c.args.file.now.user c.args.file.now.name live (sym c.is_there.ensures ∙ c.if-not-is_there.true)

pub returns : goal.returns
returns c =
    let live : c.args.file.now.user ≢ deleted = λ z. absurd (let small = c.args.file.now.within in omega arith) in
    (any_there c.args.image.now c.args.file.now.user c.args.file.now.name live (sym c.is_there.ensures ∙ c.if-not-is_there.false), sym c.is_protected.ensures ∙ c.if-is_protected.false)
