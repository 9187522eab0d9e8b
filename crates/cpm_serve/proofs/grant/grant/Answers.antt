use Rattle.std.proofs.Common.{◌∙◌, false, ap, refl, sym}
use Rattle.cpm_protocol.specs.Requests.{Grant}
use Rattle.cpm_protocol.specs.declared.request.GrantGoal.{GrantGoal}
use Rattle.cpm_serve.specs.Served.{asked_slot}
use Rattle.cpm_serve.proofs.ServedLemmas.{grant-served, same-outcome, until-served}
use Rattle.cpm_serve.proofs.grant.grant.Goals as goal

pub returns-in-Steps : goal.returns-in-Steps
returns-in-Steps c = record {
  lacked = false;
  served = same-outcome refl c.granted.ensures
      ∙ grant-served c.args.host.now.host c.grant.new.self.host c.args.slot c.args.steps c.grant.result c.grant.ensures.reply c.grant.ensures.host
      ∙ ap (λ (g : GrantGoal). asked_slot c.args.host.now.host c.args.slot (Grant c.args.slot c.args.steps g)) (sym c.in-Steps.is);
}

pub returns-in-Address : goal.returns-in-Address
returns-in-Address c = record {
  lacked = false;
  served = same-outcome refl c.granted-in-Address.ensures
      ∙ until-served c.args.host.now.host c.grant_until.new.self.host c.args.slot c.args.steps c.in-Address.pc c.grant_until.result c.grant_until.ensures.reply c.grant_until.ensures.host
      ∙ ap (λ (g : GrantGoal). asked_slot c.args.host.now.host c.args.slot (Grant c.args.slot c.args.steps g)) (sym c.in-Address.is);
}
