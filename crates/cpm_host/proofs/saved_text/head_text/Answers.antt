use Rattle.std.proofs.Common.{◌∙◌, ap, refl}
use Rattle.std.proofs.lemmas.Result.{IfOk-weaker}
use Rattle.cpm_flags.specs.declared.regs.Cpu.{Cpu}
use Rattle.cpm_listing.specs.Registers.{regs_line}
use Rattle.cpm_batch.specs.Savings.{saving_view}
use Rattle.cpm_host.specs.SavedText.{processor_word, program_words}
use Rattle.cpm_host.proofs.SavedTextLemmas.{text_joined}
use Rattle.cpm_host.proofs.saved_text.head_text.Goals as goal

pub returns : goal.returns
returns c =
    let look = c.look-look.result in
    let registers = c.as_str-registers.ensures.value ∙ c.regs_line-registers.ensures ∙ ap (λ (cpu : Cpu). regs_line cpu look.regs look.count) c.cpu-2.ensures in
    IfOk-weaker c.format.result _ _
    (λ s h. h ∙ text_joined (saving_view c.args.saved.now) look _ _ _ _ _ _ _ _ c.look-look.ensures
    (c.processor_word-cpu.ensures ∙ ap processor_word c.cpu.ensures)
    (c.program_words-program.ensures ∙ ap program_words c.has_program.ensures)
    c.end_word-end.ensures
    c.waiting_words-waits.ensures
    registers
    refl
    c.quota-quota.ensures
    (c.as_str-digest.ensures.value ∙ c.in_ok-digest.ensures)) c.format.ensures.ok
