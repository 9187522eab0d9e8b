use Rattle.std.proofs.Common.{ap, ap₂, ℕ, take, option_map}
use Rattle.cpm_debug.proofs.DialogLemmas.{held_machine, refused_machine}
use Rattle.cpm_debug.proofs.debug.debug_machine.Goals as goal

pub returns-clause-held : goal.returns-clause-held
returns-clause-held g c =
    let reader = ap₂ (λ (n : ℕ) (x : g.row.R.Denot). option_map (take n) (g.R.Read.remaining x)) c.take-heard.ensures.limit (ap (λ r. r.now) c.take-heard.ensures.inner) in
    held_machine c.converse.result c.args.system.now c.cpu-cpu.result c.args.machine.cpu c.args.listing.now c.args.machine (g.R.Read.remaining c.args.input.now)
    (option_map (take c.take-heard.result.limit) (g.R.Read.remaining c.take-heard.result.inner.now)) (g.W.Write.contents c.args.out.now) (g.W.Write.contents c.converse.new.out)
    c.cpu-cpu.ensures reader c.converse.ensures.held

pub returns-clause-refusal : goal.returns-clause-refusal
returns-clause-refusal g c =
    let reader = ap₂ (λ (n : ℕ) (x : g.row.R.Denot). option_map (take n) (g.R.Read.remaining x)) c.take-heard.ensures.limit (ap (λ r. r.now) c.take-heard.ensures.inner) in
    refused_machine c.converse.result c.args.system.now c.cpu-cpu.result c.args.machine.cpu c.args.listing.now c.args.machine (g.R.Read.remaining c.args.input.now)
    (option_map (take c.take-heard.result.limit) (g.R.Read.remaining c.take-heard.result.inner.now)) (g.W.Write.contents c.args.out.now) (g.W.Write.contents c.converse.new.out)
    c.cpu-cpu.ensures reader c.converse.ensures.failed
