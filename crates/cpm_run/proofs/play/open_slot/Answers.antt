use Rattle.std.proofs.Common.{◌∙◌, ap}
use Rattle.cpm_slots.specs.declared.event.SlotId.{SlotId}
use Rattle.cpm_run.proofs.play.open_slot.Goals as goal

pub returns-in-Ok-clause-opened : goal.returns-in-Ok-clause-opened
returns-in-Ok-clause-opened c = record {
  accepted = c.in-Ok.ensures.fits;
  host = c.in-Ok.ensures.opened;
  next = record {
    id = ap (λ (x : SlotId). x.0) c.new.ensures.id ∙ c.in-Ok.ensures.number;
    keys = c.new.ensures.keys;
    steps = c.new.ensures.steps;
    unplayed = c.new.ensures.unplayed;
  };
}

pub returns-in-Err-clause-refusal : goal.returns-in-Err-clause-refusal
returns-in-Err-clause-refusal c = c.refused.ensures c.args.host.now.host c.args.opening c.in-Err.ensures.refused
