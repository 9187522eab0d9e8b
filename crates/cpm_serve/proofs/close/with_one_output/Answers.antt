use Rattle.std.proofs.Common.{◌∙◌, inr, map, refl, sym}
use Rattle.cpm_store.specs.Writes.{named_output}
use Rattle.cpm_serve.proofs.DiskLemmas.{any-named}
use Rattle.cpm_serve.proofs.OutputLemmas.{output-absent, output-more, output-twice}
use Rattle.cpm_serve.proofs.close.with_one_output.Goals as goal

pub returns-in_default : goal.returns-in_default
returns-in_default c = λ wanted k. output-absent c.args.name.now _ wanted (sym c.in_default.ensures)

pub returns-then-has_name : goal.returns-then-has_name
returns-then-has_name c = λ wanted k.
    output-twice c.args.name.now c.in-Some.image.now _ wanted (map named_output c.args.files.items) (sym c.in-Some.ensures) k
    (sym (any-named c.args.name.now c.args.files.items) ∙ sym (rw c.deref.ensures.value at c.has_name.ensures) ∙ c.if-has_name.true)

pub returns-in-Ok : goal.returns-in-Ok
returns-in-Ok c = λ wanted k.
    output-more c.args.name.now c.in-Some.image.now _ wanted (map named_output c.args.files.items) _ (sym c.in-Some.ensures) k
    (sym (any-named c.args.name.now c.args.files.items) ∙ sym (rw c.deref.ensures.value at c.has_name.ensures) ∙ c.if-has_name.false) c.in-Ok.ensures

pub returns-in-Err : goal.returns-in-Err
returns-in-Err c = λ wanted k. inr refl
