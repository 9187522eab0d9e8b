use Rattle.std.proofs.Common.{◌∙◌, ap, sym}
use Rattle.cpm_machine.specs.Saving.{restored}
use Rattle.cpm_slots.specs.declared.event.SlotId.{SlotId}
use Rattle.cpm_batch.specs.Savings.{saving_view}
use Rattle.cpm_run.proofs.SlotLemmas.{refused_so, restored_so}
use Rattle.cpm_run.proofs.play.restore_slot.Goals as goal

pub returns-in-Ok-clause-restored : goal.returns-in-Ok-clause-restored
returns-in-Ok-clause-restored c =
    let is = ap restored c.as_slice.ensures.value ∙ c.in_ok-bytes.ensures.restores in
    let made = restored_so c.args.host.now.host c.restore.new.self.host (saving_view c.args.saved.now) (restored c.as_slice.result.now) is c.in-Ok.ensures.fits c.in-Ok.ensures.restored in
    record {
      accepted = made.0;
      host = made.1;
      next = record {
        id = ap (λ (x : SlotId). x.0) c.new.ensures.id ∙ c.in-Ok.ensures.number;
        keys = c.new.ensures.keys;
        steps = c.new.ensures.steps;
        unplayed = c.new.ensures.unplayed;
      };
    }

pub returns-in-Err-clause-refusal : goal.returns-in-Err-clause-refusal
returns-in-Err-clause-refusal c =
    let is = ap restored c.as_slice.ensures.value ∙ c.in_ok-bytes.ensures.restores in
    c.not_restored.ensures c.args.host.now.host (saving_view c.args.saved.now)
    (refused_so c.args.host.now.host (saving_view c.args.saved.now) (restored c.as_slice.result.now) c.in-Err.fault is c.in-Err.ensures.refused)
