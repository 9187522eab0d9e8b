use Rattle.std.proofs.Common.{List, ℕ, [], subst}
use Rattle.std.specs.Prelude.{OnOk}
use Rattle.cpm_journal.specs.Entries.{IsKeepable, IsLineAdded, KeptSaving, entry_json}
use Rattle.cpm_serve.proofs.KeptLemmas.{opened-kept}
use Rattle.cpm_serve.proofs.kept.KeptFolderFolder.keep_opened.Goals as goal

pub returns-clause-did : goal.returns-clause-did
returns-clause-did g c =
    let line = c.append_saving-outcome.new.line.items in
    let outcome = c.append_saving-outcome.result in
    opened-kept g.F.Folder.does g.J.Write.contents c.args.self.now c.keep_line.new.journal c.args.host.now.host c.args.slot.0 c.in-Ok.saving.items line outcome c.keep_line.result
    c.in-Ok.ensures.saved
    (subst (λ (bs : List ℕ). IsKeepable (KeptSaving bs)) c.deref.ensures.value c.append_saving-outcome.ensures.keepable)
    (subst (λ (bs : List ℕ). OnOk outcome (IsLineAdded (entry_json (KeptSaving bs)) [] line)) c.deref.ensures.value
    (subst (λ (begun : List ℕ). OnOk outcome (IsLineAdded (entry_json (KeptSaving c.deref.result.now)) begun line)) c.new-line.ensures.items c.append_saving-outcome.ensures.added))
    (c.keep_line.ensures.kept, c.keep_line.ensures.unkept)
