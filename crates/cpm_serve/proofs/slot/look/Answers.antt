use Rattle.std.proofs.Common.{◌∙◌, ap, false, refl}
use Rattle.cpm_protocol.specs.Replies.{Looked}
use Rattle.cpm_protocol.specs.declared.reply.SessionLook.{SessionLook}
use Rattle.cpm_serve.proofs.ServedLemmas.{look-not-served, look-served, same-outcome}
use Rattle.cpm_slots.specs.HostWithStore.{HostWithStore}
use Rattle.cpm_serve.proofs.slot.look.Goals as goal

pub returns-in-Ok-look : goal.returns-in-Ok-look
returns-in-Ok-look c = record {
  lacked = false;
  served = same-outcome refl (ap (λ (l : SessionLook). Looked l) c.look_seen.ensures)
      ∙ look-served c.args.host.now.host c.look.new.self.host c.args.slot c.in-Ok.cpu c.in-Ok-look.look c.in-Ok.ensures c.in-Ok-look.ensures.reply
      (ap (λ (x : HostWithStore). x.host) c.in-Ok-look.ensures.unchanged);
}

pub returns-in-Err : goal.returns-in-Err
returns-in-Err c = record {
  lacked = false;
  served = look-not-served c.args.host.now.host c.look.new.self.host c.args.slot c.in-Err.field-0 _ c.in-Err.ensures.reply
      (ap (λ (x : HostWithStore). x.host) c.in-Err.ensures.unchanged) c.refused-in-Err.ensures;
}
