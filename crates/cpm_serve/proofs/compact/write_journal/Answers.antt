use Rattle.std.proofs.Common.{◌≡◌, ◌∙◌, ap, subst}
use Rattle.std.specs.Prelude.{OnOk}
use Rattle.cpm_slots.specs.Host.{Host}
use Rattle.cpm_slots.specs.HostWithStore.{HostWithStore}
use Rattle.cpm_journal.specs.Entries.{KeptNumber}
use Rattle.cpm_serve.specs.Compact.{AreSlotsWritten, IsEntryWritten}
use Rattle.cpm_serve.specs.declared.server.Server.{Server}
use Rattle.cpm_serve.proofs.CompactLemmas.{journal-written, on-ok}
use Rattle.cpm_serve.proofs.compact.write_journal.Goals as goal

pub returns-clause-made : goal.returns-clause-made
returns-clause-made g c =
    let h = c.args.server.now.host.host in
    let old = g.W.Write.contents c.args.out.now in
    let first = g.W.Write.contents c.write_head.new.out in
    let between = g.W.Write.contents c.write_slots.new.out in
    let new = g.W.Write.contents c.write_number.new.out in
    let begun : c.write_head.new.server.host.host ≡ h = ap (λ (s : Server). s.host.host) c.in_ok-write_head.ensures.unchanged in
    let slots : AreSlotsWritten h h.slots first between = subst (λ (x : Host). AreSlotsWritten x x.slots first between) begun c.in_ok-write_slots.ensures.written in
    let next : c.openings.result ≡ h.openings =
    c.openings.ensures ∙ ap (λ (x : HostWithStore). x.host.openings) c.in_ok-write_slots.ensures.unchanged ∙ ap (λ (x : Host). x.openings) begun in
    on-ok c.write_number.result (subst (λ n. OnOk c.write_number.result (IsEntryWritten (KeptNumber n) between new)) next c.write_number.ensures)
    (journal-written h old first between new c.in_ok-write_head.ensures.written slots)
