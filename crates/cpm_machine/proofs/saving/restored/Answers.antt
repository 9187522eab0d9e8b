use Rattle.std.proofs.Common.{◌≡◌, ◌∙◌, ℕ, Ok, Err, ap, refl, subst, sym}
use Rattle.std.proofs.lemmas.Result.{err_from_is_err_and}
use Rattle.std.specs.Prelude.{IfErr, IfOk, Result}
use Rattle.cpm_memory.specs.Flat.{IsContents-flat, flat_contents}
use Rattle.cpm_saved.specs.Layout.{Rest, decoded}
use Rattle.cpm_saved.specs.Reading.{IsPartUnread}
use Rattle.cpm_saved.specs.declared.part.SavingDamage.{SavingDamage}
use Rattle.cpm_saved.specs.declared.part.SavingPart.TheVariants as part
use Rattle.cpm_saved.specs.declared.reader.RestoreError.{RestoreError}
use Rattle.cpm_machine.specs.Runner.{state_of}
use Rattle.cpm_machine.specs.Saving.{IsUnrestored, Saving, checked, restored, saving_with, saving_fields, saving_layout}
use Rattle.cpm_machine.specs.SavingParts.{saving_of_parts}
use Rattle.cpm_machine.proofs.SavingLaws.{rest_unrestored, unread_unrestored, whole_restored}
use Rattle.cpm_machine.proofs.saving.restored.Goals as goal

pub returns-in_err-parts-clause-refused : goal.returns-in_err-parts-clause-refused
returns-in_err-parts-clause-refused c =
    let p = err_from_is_err_and c.from_residual.result c.from_residual.ensures.1 in
    rw (p.1, p.2) (unread_unrestored c.args.bytes.now c.in_err-parts.field-0.0
    (subst (λ (r : Rest). IsPartUnread (decoded saving_layout r) c.in_err-parts.field-0.0) c.new-reader.ensures c.in_err-parts.ensures.read))

pub returns-then-not-is_at_end-clause-refused : goal.returns-then-not-is_at_end-clause-refused
returns-then-not-is_at_end-clause-refused c =
    let x = saving_of_parts c.in_ok-parts.parts in
    let read = ap (λ (r : Rest). decoded saving_layout r) (sym c.new-reader.ensures) ∙ c.in_ok-parts.ensures.read in
    subst (λ r. IfErr r (λ (fault : RestoreError). IsUnrestored (restored c.args.bytes.now) fault)) (sym c.damaged.ensures)
    (rest_unrestored c.args.bytes.now (saving_fields x) c.read_parts.new.reader read (sym c.is_at_end.ensures ∙ c.if-not-is_at_end.true)
    ∙ ap (λ (n : ℕ). Err (record { field = part.Rest; at = n })) (sym c.at.ensures))

pub returns-clause-read : goal.returns-clause-read
returns-clause-read c =
    let x = saving_of_parts c.in_ok-parts.parts in
    let memory = c.in_ok-parts.parts.memory in
    let read = ap (λ (r : Rest). decoded saving_layout r) (sym c.new-reader.ensures) ∙ c.in_ok-parts.ensures.read in
    let same : restored c.args.bytes.now ≡ checked x =
    whole_restored c.args.bytes.now x c.read_parts.new.reader (flat_contents memory) c.session_is_fit.ensures (IsContents-flat memory)
    c.unwritten_is_blank.ensures refl read (sym c.is_at_end.ensures ∙ c.if-not-is_at_end.false) in
    subst (λ (y : Result Saving SavingDamage). IfOk c.machine_of.result (λ r. y ≡ Ok (saving_with r.0 (state_of r.1 (flat_contents r.2))))) (sym same) c.machine_of.ensures.read

pub returns-clause-refused : goal.returns-clause-refused
returns-clause-refused c =
    let x = saving_of_parts c.in_ok-parts.parts in
    let memory = c.in_ok-parts.parts.memory in
    let read = ap (λ (r : Rest). decoded saving_layout r) (sym c.new-reader.ensures) ∙ c.in_ok-parts.ensures.read in
    let same : restored c.args.bytes.now ≡ checked x =
    whole_restored c.args.bytes.now x c.read_parts.new.reader (flat_contents memory) c.session_is_fit.ensures (IsContents-flat memory)
    c.unwritten_is_blank.ensures refl read (sym c.is_at_end.ensures ∙ c.if-not-is_at_end.false) in
    subst (λ (y : Result Saving SavingDamage). IfErr c.machine_of.result (λ (fault : RestoreError). IsUnrestored y fault)) (sym same) c.machine_of.ensures.refused
