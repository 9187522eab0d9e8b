use Rattle.std.proofs.Common.{rules, subst}
use Rattle.std.specs.Prelude.{string_bytes}
use Rattle.cpm_slots.specs.Host.{IsRestoreRefusal, system_fault}
use Rattle.cpm_run.specs.Run.{IsShownAs}
use Rattle.cpm_run.proofs.SlotLemmas.{saved_elsewhere, saved_no_frames, saved_no_slot}
use Rattle.cpm_run.proofs.play.not_restored.Goals as goal

pub returns-in-OtherSystem : goal.returns-in-OtherSystem
returns-in-OtherSystem c = λ h x r.
    let told : IsShownAs (string_bytes c.args.session.now.name) c.shown-name.result.bytes = search rules in
    (saved_elsewhere h x (subst (IsRestoreRefusal (system_fault h x.system_digest x.state.quota)) c.in-OtherSystem.is r), told)

pub returns-in-NoSlot : goal.returns-in-NoSlot
returns-in-NoSlot c = λ h x r.
    let told : IsShownAs (string_bytes c.args.session.now.name) c.shown-name.result.bytes = search rules in
    (saved_no_slot h x (subst (IsRestoreRefusal (system_fault h x.system_digest x.state.quota)) c.in-NoSlot.is r), told)

pub returns-in-NoFrames : goal.returns-in-NoFrames
returns-in-NoFrames c = λ h x r.
    let told : IsShownAs (string_bytes c.args.session.now.name) c.shown-name.result.bytes = search rules in
    (saved_no_frames h x (subst (IsRestoreRefusal (system_fault h x.system_digest x.state.quota)) c.in-NoFrames.is r), told)
