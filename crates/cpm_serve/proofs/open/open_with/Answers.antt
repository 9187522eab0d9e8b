use Rattle.std.proofs.Common.{ap, subst, sym}
use Rattle.cpm_slots.specs.HostWithStore.{HostWithStore}
use Rattle.cpm_protocol.specs.Replies.{Answered}
use Rattle.cpm_serve.specs.Served.{IsSessionOpened}
use Rattle.cpm_serve.proofs.ManyLemmas.{OnErr-weaker}
use Rattle.cpm_serve.proofs.OpenLemmas.{opened-by}
use Rattle.cpm_serve.proofs.open.open_with.Goals as goal

pub returns : goal.returns
returns c =
    let h = c.args.host.now.host in
    let new = c.open-outcome.new.self.host in
    let o = c.args.opening in
    let e = c.open-outcome.ensures in
    subst (λ (a : Answered). IsSessionOpened o.cpu o.quota o.drives.items h new a) (sym c.opened_reply.ensures)
    (opened-by h new o c.open-outcome.result e.opened e.number e.fits e.refused
    (OnErr-weaker c.open-outcome.result _ _ (λ same. ap (λ (x : HostWithStore). x.host) same) e.unchanged))
