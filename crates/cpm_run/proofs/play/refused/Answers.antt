use Rattle.std.proofs.Common.{rules}
use Rattle.std.specs.Prelude.{string_bytes}
use Rattle.cpm_run.specs.Run.{IsShownAs}
use Rattle.cpm_run.proofs.SlotLemmas.{fault_of}
use Rattle.cpm_slots.specs.Host.{refusal_of}
use Rattle.cpm_run.proofs.play.refused.Goals as goal

pub returns-in_default : goal.returns-in_default
returns-in_default c = λ h o r.
    let told : IsShownAs (string_bytes c.args.session.now.name) c.shown.result.bytes = search rules in
    (fault_of (refusal_of h o) c.args.fault r c.in_default.not-OutOfMemory, told)
